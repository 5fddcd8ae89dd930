-- What a search finds: all rows before the place pass, and all behind it fail.
use Rattle.std.proofs.Common.{◌≡◌, ℕ, zero, suc, ◌-◌, ◌<◌, Bool, false, List, [], ◌∷◌, ◌++◌, length, take, drop, get_or, refl, sym, ap, subst, ◌∙◌, arith, Vec, All, IsTrue, true≢false, inl, inr, eq-or-lt_of_le}
use Rattle.std.specs.List.{AllByRecursion}
use Rattle.std.specs.declared.alloc.Global.{Global}
use Rattle.std.proofs.lemmas.List.Elements.{recursion_from_All, All-from_get_or}
use Rattle.sqlite_value.specs.Order.{Row}
use Rattle.sqlite_trees.specs.Tree.{IsAscending}
use Rattle.sqlite_trees.specs.Probe.{IsCutBy, IsPlaceOf}
use Rattle.sqlite_trees.proofs.ListLemmas.{all_weaker, all-append, all-get_or, ascending-get_or}
use Rattle.sqlite_trees.proofs.TreeLemmas.{not_true}
use Rattle.sqlite_trees.proofs.MemoryLemmas.{passes_before}
use Rattle.memory_store.specs.Joined.{joined}
use Rattle.memory_store.specs.Pieces.{rows_before, from_place}
use Rattle.memory_store.specs.Search.{IsCutOnce, AllPass, AllFail, lasts}
use Rattle.memory_store.proofs.lemmas.PlaceLemmas.{Pieces, IsAt, split_rows}

abbrev pub Filled : Pieces → Type 0
Filled = AllByRecursion (λ piece. 0 < length piece.items)

pub filled : (pieces : Pieces) → All (λ piece. 0 < length piece.items) pieces → Filled pieces
filled pieces = recursion_from_All (λ piece. 0 < length piece.items) pieces

module _ {A : Type 0} (P : A → Type 0) where
  pub all-left : (xs ys : List A) → AllByRecursion P (xs ++ ys) → AllByRecursion P xs
  all-left [] ys h = tt
  all-left (x ∷ xs) ys h = (h.0, all-left xs ys h.1)

  pub all-right : (xs ys : List A) → AllByRecursion P (xs ++ ys) → AllByRecursion P ys
  all-right [] ys h = h
  all-right (x ∷ xs) ys h = all-right xs ys h.1

module _ {A : Type 0} (R : A → A → Type 0) where
  pub ascending-left : (xs ys : List A) → IsAscending R (xs ++ ys) → IsAscending R xs
  ascending-left [] ys up = tt
  ascending-left (x ∷ xs) ys up = (all-left (R x) xs ys up.0, ascending-left xs ys up.1)

  pub ascending-right : (xs ys : List A) → IsAscending R (xs ++ ys) → IsAscending R ys
  ascending-right [] ys up = up
  ascending-right (x ∷ xs) ys up = ascending-right xs ys up.1

  pub ascending-across : (xs ys : List A) → IsAscending R (xs ++ ys) → AllByRecursion (λ x. AllByRecursion (R x) ys) xs
  ascending-across [] ys up = tt
  ascending-across (x ∷ xs) ys up = (all-right (R x) xs ys up.0, ascending-across xs ys up.1)

-- the last row of a piece
abbrev last_of : Vec Row Global → Row
last_of piece = get_or piece.items (length piece.items - 1) []

pub length-lasts : (pieces : Pieces) → length (lasts pieces) ≡ length pieces
length-lasts [] = refl
length-lasts (x ∷ pieces) = ap suc (length-lasts pieces)

lasts-at : (pieces : Pieces) (p : ℕ) (v : Vec Row Global) → IsAt pieces p v → get_or (lasts pieces) p [] ≡ last_of v
lasts-at [] p v here = absurd (omega arith)
lasts-at (x ∷ pieces) zero v here = ap last_of (sym here.1)
lasts-at (x ∷ pieces) (suc p) v here = lasts-at pieces p v (omega arith, here.1)

pub filled-at : (pieces : Pieces) (p : ℕ) (v : Vec Row Global) → IsAt pieces p v → Filled pieces → 0 < length v.items
filled-at [] p v here full = absurd (omega arith)
filled-at (x ∷ pieces) zero v here full = rw here.1 full.0
filled-at (x ∷ pieces) (suc p) v here full = filled-at pieces p v (omega arith, here.1) full.1

all-lasts : (P : Row → Type 0) (pieces : Pieces) → Filled pieces → AllByRecursion P (joined pieces) → AllByRecursion P (lasts pieces)
all-lasts P [] full h = tt
all-lasts P (x ∷ pieces) full h =
    (all-get_or P x.items (length x.items - 1) [] (all-left P x.items _ h) (omega (arith, full.0)), all-lasts P pieces full.1 (all-right P x.items _ h))

-- what the last row of the first piece has to the later rows
last_across : (R : Row → Row → Type 0) (x : Vec Row Global) (ys : List Row) → 0 < length x.items → IsAscending R (x.items ++ ys) → AllByRecursion (R (last_of x)) ys
last_across R x ys full up = all-get_or (λ y. AllByRecursion (R y) ys) x.items (length x.items - 1) [] (ascending-across R x.items ys up) (omega arith)

ascending-lasts : (R : Row → Row → Type 0) (pieces : Pieces) → Filled pieces → IsAscending R (joined pieces) → IsAscending R (lasts pieces)
ascending-lasts R [] full up = tt
ascending-lasts R (x ∷ pieces) full up =
    (all-lasts (R (last_of x)) pieces full.1 (last_across R x _ full.0 up), ascending-lasts R pieces full.1 (ascending-right R x.items _ up))

ascending-piece : (R : Row → Row → Type 0) (pieces : Pieces) (p : ℕ) (v : Vec Row Global) → IsAt pieces p v → IsAscending R (joined pieces) → IsAscending R v.items
ascending-piece R [] p v here up = absurd (omega arith)
ascending-piece R (x ∷ pieces) zero v here up = rw here.1 (ascending-left R x.items _ up)
ascending-piece R (x ∷ pieces) (suc p) v here up = ascending-piece R pieces p v (omega arith, here.1) (ascending-right R x.items _ up)

module _ (test : Row → Bool) where
  abbrev Follows : Row → Row → Type 0
  Follows a b = IsTrue (test b) → IsTrue (test a)

  cut_by : (rows : List Row) → IsCutOnce test rows → IsCutBy test rows
  cut_by rows up i j p q = ascending-get_or Follows rows i j [] up p q

  pub cut-lasts : (pieces : Pieces) → All (λ piece. 0 < length piece.items) pieces → IsCutOnce test (joined pieces) → IsCutBy test (lasts pieces)
  cut-lasts pieces full up = cut_by _ (ascending-lasts Follows pieces (filled pieces full) up)

  pub cut-piece : (pieces : Pieces) (p : ℕ) (v : Vec Row Global) → IsAt pieces p v → IsCutOnce test (joined pieces) → IsCutBy test v.items
  cut-piece pieces p v here up = cut_by _ (ascending-piece Follows pieces p v here up)

  -- where the last of some rows passes, those before it do
  pub pass_up_to : (xs : List Row) (x : Row) → IsCutOnce test (xs ++ x ∷ []) → IsTrue (test x) → AllPass test (xs ++ x ∷ [])
  pass_up_to [] x up is = (is, tt)
  pass_up_to (e ∷ xs) x up is = ((all-right (Follows e) xs (x ∷ []) up.0).0 is, pass_up_to xs x up.1 is)

  -- where the first of some rows fails, those behind it do
  pub fail_from : (x : Row) (xs : List Row) → IsCutOnce test (x ∷ xs) → test x ≡ false → AllFail test (x ∷ xs)
  fail_from x xs up fails = (fails, all_weaker _ (λ y. test y ≡ false) (λ y follows. not_true _ (λ t. true≢false (sym (follows t) ∙ fails))) xs up.0)

  -- the rows before a place, and those behind it, are cut as all are
  pub cut_before : (pieces : Pieces) (p a : ℕ) → IsCutOnce test (joined pieces) → IsCutOnce test (rows_before pieces p a)
  cut_before pieces p a up = ascending-left Follows _ (from_place pieces p a) (subst (IsCutOnce test) (split_rows pieces p a) up)

  pub cut_behind : (pieces : Pieces) (p a : ℕ) → IsCutOnce test (joined pieces) → IsCutOnce test (from_place pieces p a)
  cut_behind pieces p a up = ascending-right Follows (rows_before pieces p a) _ (subst (IsCutOnce test) (split_rows pieces p a) up)

  tail_place : (x : Row) (rows : List Row) (at : ℕ) → IsPlaceOf test (x ∷ rows) (suc at) → IsPlaceOf test rows at
  tail_place x rows at place = record {
    within = omega (arith, place.within);
    before = λ k h. place.before (suc k) (omega arith);
    after = λ k h q. place.after (suc k) (omega arith) (omega arith);
  }

  -- the two sides of a place in one piece
  sides : (rows : List Row) (at : ℕ) → IsPlaceOf test rows at → AllPass test (take at rows) × AllFail test (drop at rows)
  sides rows zero place = (tt, recursion_from_All (λ e. test e ≡ false) rows (All-from_get_or (λ e. test e ≡ false) rows [] (λ i h. place.after i (omega arith) h)))
  sides [] (suc at) place = (tt, tt)
  sides (x ∷ rows) (suc at) place = let more = sides rows at (tail_place x rows at place) in ((place.before 0 (omega arith), more.0), more.1)

  -- the place in a piece of which the last row fails is not behind it
  pub place_inside : (pieces : Pieces) (p a : ℕ) (v : Vec Row Global) → IsAt pieces p v → Filled pieces → IsPlaceOf test (lasts pieces) p → IsPlaceOf test v.items a → a < length v.items
  place_inside pieces p a v here full outer inner = elim (eq-or-lt_of_le inner.within) [
    | inl end ↦
        let some = filled-at pieces p v here full in
        let fails = rw (lasts-at pieces p v here) at (outer.after p (omega arith) (omega (arith, here.0, length-lasts pieces))) in
        absurd (true≢false (sym (inner.before (length v.items - 1) (omega arith)) ∙ fails))
    | inr below ↦ below
  ]

  pub found : (pieces : Pieces) (p a : ℕ) → Filled pieces → IsCutOnce test (joined pieces) → IsPlaceOf test (lasts pieces) p
      → (p < length pieces → (v : Vec Row Global) × (v ≡ get_or pieces p v) × IsPlaceOf test v.items a)
      → AllPass test (rows_before pieces p a) × AllFail test (from_place pieces p a)
  found [] p a full up place inner = (tt, tt)
  found (x ∷ pieces) zero a full up place inner =
      let h = inner (omega arith) in
      let halves : AllPass test (take a x.items) × AllFail test (drop a x.items) = rw (← h.1) (sides h.0.items a h.2) in
      let fails : test (last_of x) ≡ false = place.after 0 (omega arith) (omega arith) in
      let later = all_weaker _ (λ y. test y ≡ false) (λ y follows. not_true _ (λ t. true≢false (sym (follows t) ∙ fails))) _ (last_across Follows x _ full.0 up) in
      (halves.0, all-append (λ e. test e ≡ false) (drop a x.items) (joined pieces) halves.1 later)
  found (x ∷ pieces) (suc p) a full up place inner =
      let more = found pieces p a full.1 (ascending-right Follows x.items _ up) (tail_place _ _ p place) (λ h. inner (omega arith)) in
      let pass : IsTrue (test (last_of x)) = place.before 0 (omega arith) in
      let each = passes_before test x.items (length x.items - 1) (cut_by _ (ascending-left Follows x.items _ up)) (omega (arith, full.0)) pass in
      let all = recursion_from_All (λ e. IsTrue (test e)) x.items (All-from_get_or (λ e. IsTrue (test e)) x.items [] (λ i h. each i (omega arith))) in
      (all-append (λ e. IsTrue (test e)) x.items (rows_before pieces p a) all more.0, more.1)
