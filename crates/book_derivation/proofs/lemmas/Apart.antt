-- Names of which each stands once: none is among those before it.
use Rattle.std.proofs.Common.{◌≡◌, ◌∙◌, ◌≤◌, ◌<◌, ◌+◌, ℕ, suc, zero, Bool, true, false, cond, List, [], ◌∷◌, length, map, refl, sym, arith, bytes_eq, get_or, take}
use Rattle.std.proofs.lemmas.Bool.{or_from, or_parts}
use Rattle.std.proofs.lemmas.Cmp.{nat_list_cmp_total}
use Rattle.std.proofs.lemmas.List.{length-map}
use Rattle.std.proofs.lemmas.Map.Text.{is_eq-slice_cmp}
use Rattle.std.specs.Cmp.{IsTotalOrder}
use Rattle.std.specs.FinMap as finite
use Rattle.std.specs.List.{list_any}
use Rattle.std.specs.Ordering.{eq_by_cmp}
use Rattle.std.specs.declared.cmp.Ordering.{Ordering}
use Rattle.society_core.specs.Keys.{ascending, bytes_cmp}
use Rattle.society_core.specs.Orders.{has_repeat}
use Rattle.society_core.proofs.lemmas.Ascending.{ascending_has}
use Rattle.society_arrivals.specs.Runs.{is_key_among}

module _ {K : Type 0} {R : K → K → Ordering} (o : IsTotalOrder R) where
  abbrev marks : List K → finite.FinMap R Bool
  marks ks = finite.from_entries {R = R} (map (λ key. (key, true)) ks)

  record IsMore (there : Bool) (n k : ℕ) : Type 0 where
    free : there ≡ false
    rest : n ≡ k

  grown : (there : Bool) (l n k : ℕ) → l ≡ cond there n (n + 1) → n ≤ k → l ≡ suc k → IsMore there n k
  grown true l n k more few all = absurd (omega (arith, more, few, all))
  grown false l n k more few all = record { free = refl; rest = omega (arith, more, all) }

  marks_few : (ks : List K) → finite.len (marks ks) ≤ length ks
  marks_few [] = let e = finite.len-empty R Bool in omega arith
  marks_few (k ∷ ks) =
      few (finite.contains_key (marks ks) k) (finite.len (marks (k ∷ ks))) (finite.len (marks ks)) (length ks) (finite.len-insert o (marks ks) k true) (marks_few ks)
    where
      few : (there : Bool) (l n k : ℕ) → l ≡ cond there n (n + 1) → n ≤ k → l ≤ suc k
      few true l n k e h = omega arith
      few false l n k e h = omega arith

  -- where as many are marked as there are, none stands twice
  marks_apart : (ks : List K) → finite.len (marks ks) ≡ length ks → has_repeat (eq_by_cmp R) ks ≡ false
  marks_apart [] all = refl
  marks_apart (k ∷ ks) all =
      let more : IsMore (finite.contains_key (marks ks) k) (finite.len (marks ks)) (length ks) = grown (finite.contains_key (marks ks) k) (finite.len (marks (k ∷ ks))) (finite.len (marks ks)) (length ks) (finite.len-insert o (marks ks) k true) (marks_few ks) all in
      or_from (list_any (eq_by_cmp R k) ks) (has_repeat (eq_by_cmp R) ks)
      (sym (finite.contains_key-keys (marks ks) k ∙ ascending_has o k ks) ∙ more.free)
      (marks_apart ks more.rest)

  -- so where as many are there in ascending order
  pub no_repeat : (ks : List K) → length (ascending R ks) ≡ length ks → has_repeat (eq_by_cmp R) ks ≡ false
  no_repeat ks all =
      let count : finite.len (marks ks) ≡ length (finite.entries (marks ks)) = finite.len-entries (marks ks) in
      let keys : length (map (λ (e : K × Bool). e.0) (finite.entries (marks ks))) ≡ length (finite.entries (marks ks)) = length-map (finite.entries (marks ks)) (λ (e : K × Bool). e.0) in
      marks_apart ks (count ∙ sym keys ∙ all)

-- what comes later is not the first
later_apart : (x : List ℕ) (xs : List (List ℕ)) (i : ℕ) (d : List ℕ) → i < length xs → list_any (eq_by_cmp bytes_cmp x) xs ≡ false → bytes_eq x (get_or xs i d) ≡ false
later_apart x [] i d below none = absurd (omega (arith, below))
later_apart x (y ∷ ys) zero d below none = sym (is_eq-slice_cmp x y) ∙ (or_parts (eq_by_cmp bytes_cmp x y) (list_any (eq_by_cmp bytes_cmp x) ys) none).0
later_apart x (y ∷ ys) (suc i) d below none = later_apart x ys i d (omega (arith, below)) (or_parts (eq_by_cmp bytes_cmp x y) (list_any (eq_by_cmp bytes_cmp x) ys) none).1

-- none is among those before it
fresh_at : (xs : List (List ℕ)) (i : ℕ) (d : List ℕ) → i < length xs → has_repeat (eq_by_cmp bytes_cmp) xs ≡ false → is_key_among (take i xs) (get_or xs i d) ≡ false
fresh_at [] i d below once = absurd (omega (arith, below))
fresh_at (x ∷ xs) zero d below once = refl
fresh_at (x ∷ xs) (suc i) d below once =
    let parts = or_parts (list_any (eq_by_cmp bytes_cmp x) xs) (has_repeat (eq_by_cmp bytes_cmp) xs) once in
    or_from (bytes_eq x (get_or xs i d)) (is_key_among (take i xs) (get_or xs i d)) (later_apart x xs i d (omega (arith, below)) parts.0) (fresh_at xs i d (omega (arith, below)) parts.1)

pub not_before : (xs : List (List ℕ)) (i : ℕ) (d : List ℕ) → i < length xs → length (ascending bytes_cmp xs) ≡ length xs → is_key_among (take i xs) (get_or xs i d) ≡ false
not_before xs i d below all = fresh_at xs i d below (no_repeat nat_list_cmp_total xs all)
