-- The element at a place of lists that are joined.
use Rattle.std.proofs.Common.{◌≡◌, ℕ, zero, suc, ◌+◌, ◌-◌, ◌<◌, ◌≤◌, List, [], ◌∷◌, ◌++◌, length, drop, get_or, refl, sym, ap, ◌∙◌, arith, drop-cons, add-one, None}
use Rattle.std.specs.List.{slice_get, flat_map}

-- a place of the first list
pub placed_first : {X : Type 0} (xs ys : List X) (i : ℕ) → i < length xs → slice_get (xs ++ ys) i ≡ slice_get xs i
placed_first [] ys i h = absurd (omega arith)
placed_first (x ∷ xs) ys zero h = refl
placed_first (x ∷ xs) ys (suc i) h = placed_first xs ys i (omega arith)

-- a place behind the first list
pub placed_behind : {X : Type 0} (xs ys : List X) (i : ℕ) → length xs ≤ i → slice_get (xs ++ ys) i ≡ slice_get ys (i - length xs)
placed_behind [] ys i h = ap (slice_get ys) (omega arith)
placed_behind (x ∷ xs) ys zero h = absurd (omega arith)
placed_behind (x ∷ xs) ys (suc i) h = placed_behind xs ys i (omega arith) ∙ ap (slice_get ys) (omega arith)

-- what lists that are joined have from one of them on
pub joined_from : {X A : Type 0} (f : X → List A) (gs : List X) (i : ℕ) (g : X) → i < length gs → g ≡ get_or gs i g → flat_map f (drop i gs) ≡ f g ++ flat_map f (drop (i + 1) gs)
joined_from f gs i g h e =
    ap (flat_map f) (drop-cons gs i g h) ∙ ap (λ x. f x ++ flat_map f (drop (suc i) gs)) (sym e) ∙ ap (λ n. f g ++ flat_map f (drop n gs)) (sym (add-one i))

-- behind all of them there is nothing
pub nothing_from : {X A : Type 0} (f : X → List A) (gs : List X) (i left : ℕ) → length gs ≤ i → slice_get (flat_map f (drop i gs)) left ≡ None
nothing_from f [] zero left h = refl
nothing_from f [] (suc i) left h = refl
nothing_from f (g ∷ gs) zero left h = absurd (omega arith)
nothing_from f (g ∷ gs) (suc i) left h = nothing_from f gs i left (omega arith)
