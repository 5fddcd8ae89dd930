-- Two lists of which one is to be the other's image.
use Rattle.std.specs.Borrow.{Bor}
use Rattle.std.specs.Bool.{Decides}
use Rattle.std.specs.Cmp.Lexicographic.{pointwise}
use Rattle.std.proofs.Common.{◌≡◌, ◌≢◌, ◌↔◌, Bool, true, false, true≢false, nat_eq, Option, None, Some, MatchOption, ◌++◌, drop, IsTrue, if◌then◌else◌, [], ◌∷◌, ◌<◌, ◌≤◌, ◌+◌, ◌-◌, ℕ, List, length, map, reverse, take, get_or, refl, sym, ap, ◌∙◌, arith}
use Rattle.std.proofs.lemmas.List.{length-map, length-reverse, get_or-map, get_or-reverse, take_more_same, take-append-drop}
use Rattle.std.proofs.lemmas.Slice.Eq.{slice_eq-Decides}
use Rattle.std.proofs.lemmas.Bool.Decides.{Decides-eqb}
use Rattle.std.proofs.Math.Seq.{take-append_seam}
use Rattle.society_rows.specs.Shapes.{in_order}

module _ {A B : Type 0} (f : B → A) (xs : List A) (ys : List B) (i : ℕ) where
  -- one place more is alike
  pub alike_more : (d : A) (e : B) → i < length xs → i < length ys → get_or xs i d ≡ f (get_or ys i e) → take i xs ≡ take i (map f ys) → take (i + 1) xs ≡ take (i + 1) (map f ys)
  alike_more d e here there is before =
      take_more_same xs (map f ys) i d here (omega (arith, there, length-map ys f)) before (is ∙ sym (get_or-map f ys i e d there))

pub only_one : {X : Type 0} (xs : List X) (x : X) → 1 ≤ length xs → length xs < 2 → x ≡ get_or xs 0 x → xs ≡ x ∷ []
only_one [] x long short is = absurd (omega arith)
only_one (y ∷ []) x long short is = ap (λ z. z ∷ []) (sym is)
only_one (y ∷ z ∷ xs) x long short is = absurd (omega arith)

-- whether a list of one is this one
pub only_alike : {X : Type 0} (xs : List X) (x y : X) (b : Bool) → xs ≡ x ∷ [] → (IsTrue b ↔ (x ≡ y)) → IsTrue b ↔ (xs ≡ y ∷ [])
only_alike xs x y b is same = (λ t. is ∙ ap (λ z. z ∷ []) (same.0 t), λ e. same.1 (ap (λ l. get_or l 0 x) (sym is ∙ e)))

-- the same where the image may be turned from the last to the first
pub turned_more : {A B : Type 0} (f : B → A) (turned : Bool) (xs : List A) (ys : List B) (i place : ℕ) (d : A) (e : B) → i < length xs → i < length ys → place ≡ (if turned then length ys - 1 - i else i)
    → get_or xs i d ≡ f (get_or ys place e) → take i xs ≡ take i (in_order turned (map f ys)) → take (i + 1) xs ≡ take (i + 1) (in_order turned (map f ys))
turned_more f true xs ys i place d e here there at is before =
    let long = length-map ys f in
    take_more_same xs (reverse (map f ys)) i d here (omega (arith, there, long, length-reverse (map f ys))) before
    (is ∙ ap (λ n. f (get_or ys n e)) at ∙ sym (get_or-reverse (map f ys) i d (omega (arith, there, long)) ∙ ap (λ n. get_or (map f ys) (n - 1 - i) d) long ∙ get_or-map f ys (length ys - 1 - i) e d (omega (arith, there))))
turned_more f false xs ys i place d e here there at is before = alike_more f xs ys i d e here there (is ∙ ap (λ n. f (get_or ys n e)) at) before

-- what is behind the first bytes, where they are these
pub behind_first : (bytes first : List ℕ) (result : Option (Bor (List ℕ)))
    → MatchOption result (pointwise nat_eq (take (length first) bytes) first ≡ false) (λ x. (pointwise nat_eq (take (length first) bytes) first ≡ true) × (x.now ≡ drop (length first) bytes) × (length x.now + length first ≡ length bytes))
    → MatchOption result ((rest : List ℕ) → bytes ≢ first ++ rest) (λ rest. bytes ≡ first ++ rest.now)
behind_first bytes first None other = λ rest is.
    absurd (true≢false (sym (same.1 (ap (take (length first)) is ∙ take-append_seam first rest)) ∙ other))
  where
    same : Decides (pointwise nat_eq (take (length first) bytes) first) (take (length first) bytes ≡ first)
    same = slice_eq-Decides Decides-eqb (take (length first) bytes) first _ refl
behind_first bytes first (Some rest) is =
    sym (take-append-drop (length first) bytes) ∙ ap (λ l. l ++ drop (length first) bytes) ((slice_eq-Decides Decides-eqb (take (length first) bytes) first _ refl).0 is.0) ∙ ap (λ l. first ++ l) (sym is.1)
