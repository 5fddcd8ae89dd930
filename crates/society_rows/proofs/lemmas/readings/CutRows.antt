-- A query that shows the first columns of rows shows those rows, cut.
use Rattle.std.proofs.Common.{◌≡◌, ℕ, ◌+◌, false, List, [], ◌∷◌, map, take, get_or, set, length, swap, refl, sym, ap, subst, subst₂, ◌∙◌, arith, Ordering, IsSorted, IsPermutation}
use Rattle.std.specs.Ordering.{is_lt, on}
use Rattle.std.proofs.lemmas.List.{length-map, map-set}
use Rattle.std.proofs.lemmas.List.Sorted.{IsPermutation-refl, IsPermutation-trans, IsPermutation-swap, IsPermutation-keeps}
use Rattle.std.proofs.Math.ListN.{get_or-map}
use Rattle.sqlite_value.specs.declared.keys.Key.{Key}
use Rattle.sqlite_value.specs.Order.{Row}
use Rattle.sqlite_trees.specs.Tree.{Trees}
use Rattle.sqlite_sql.specs.Term.{Term, Env, eval_all}
use Rattle.sqlite_sql.specs.Query.{IsAnswer, Output, key_cmp, output, output_cmp}
use Rattle.society_rows.proofs.lemmas.readings.Answers.{picked}

swap-map : {X Y : Type 0} (f : X → Y) (l : List X) (i j : ℕ) → swap (map f l) i j ≡ map f (swap l i j)
swap-map f [] i j = refl
swap-map f (d ∷ ys) i j =
    let l = d ∷ ys in
    sym (map-set f (set l i (get_or l j d)) j (get_or l i d)
    ∙ ap (λ m. set m j (f (get_or l i d))) (map-set f l i (get_or l j d))
    ∙ ap (λ v. set (set (map f l) i v) j (f (get_or l i d))) (sym (get_or-map f l j d))
    ∙ ap (λ v. set (set (map f l) i (get_or (map f l) j (f d))) j v) (sym (get_or-map f l i d)))

-- what a function gives, in another order, is what it gives of the same in another order
pub unmapped : {X Y : Type 0} (f : X → Y) (xs : List X) (ys : List Y) → IsPermutation (map f xs) ys → (zs : List X) × IsPermutation xs zs × (ys ≡ map f zs)
unmapped {X} {Y} f xs =
    IsPermutation-keeps (map f xs) (λ (l : List Y). (zs : List X) × IsPermutation xs zs × (l ≡ map f zs)) (xs, IsPermutation-refl xs, refl)
    (λ l i j low high h.
    let long : length l ≡ length h.0 = ap length h.2 ∙ length-map h.0 f in (
      swap h.0 i j,
      IsPermutation-trans xs h.0 (swap h.0 i j) h.1 (IsPermutation-swap h.0 (swap h.0 i j) i j (omega (arith, long)) (omega (arith, long)) refl),
      ap (λ m. swap m i j) h.2 ∙ swap-map f h.0 i j,
    ))

-- an output whose shown row is cut
abbrev cut_output : ℕ → Output → Output
cut_output width o = (o.0, take width o.1)

shown_cut : (width : ℕ) (os : List Output) → map (λ (o : Output). o.1) (map (cut_output width) os) ≡ map (take width) (map (λ (o : Output). o.1) os)
shown_cut width [] = refl
shown_cut width (o ∷ os) = ap (λ l. take width o.1 ∷ l) (shown_cut width os)

uncut_sorted : (width : ℕ) (cmp : Row → Row → Ordering) (os : List Output) → IsSorted (on (λ (o : Output). o.0) cmp) (map (cut_output width) os) → IsSorted (on (λ (o : Output). o.0) cmp) os
uncut_sorted width cmp os h k d low high =
    subst₂ (λ (x y : Output). is_lt (cmp x.0 y.0) ≡ false) (get_or-map (cut_output width) os (k + 1) d) (get_or-map (cut_output width) os k d)
    (h k (cut_output width d) low (omega (arith, length-map os (cut_output width))))

module _ (tree : ℕ) (filters project cut : List Term) (order : List (Term × Key)) (width : ℕ) (cuts : (env : Env) → eval_all cut env ≡ take width (eval_all project env)) where
  outputs_cut : (staged : List Env) → map (output (picked tree filters cut order)) staged ≡ map (cut_output width) (map (output (picked tree filters project order)) staged)
  outputs_cut [] = refl
  outputs_cut (env ∷ staged) =
      let first : output (picked tree filters cut order) env ≡ cut_output width (output (picked tree filters project order) env) = ap (λ (shown : Row). let o : Output = ((output (picked tree filters project order) env).0, shown) in o) (cuts env) in
      ap (λ o. o ∷ map (output (picked tree filters cut order)) staged) first ∙ ap (λ l. cut_output width (output (picked tree filters project order) env) ∷ l) (outputs_cut staged)

  pub whole_answer : (db : Trees) (params : Row) (rows : List Row) → IsAnswer (picked tree filters cut order) db params rows
      → (whole : List Row) × IsAnswer (picked tree filters project order) db params whole × (rows ≡ map (take width) whole)
  whole_answer db params rows a =
      let kept = map (output (picked tree filters project order)) a.staged in
      let found = unmapped (cut_output width) kept a.ordered (subst (λ (l : List Output). IsPermutation l a.ordered) (a.distinct ∙ outputs_cut a.staged) a.same) in (
        map (λ (o : Output). o.1) found.0,
        record { staged = a.staged; grouped = a.grouped; kept = kept; distinct = refl; ordered = found.0; same = found.1; sorted = uncut_sorted width (key_cmp 0 (map (λ (k : Term × Key). k.1) order)) found.0 (subst (IsSorted (output_cmp (picked tree filters cut order))) found.2 a.sorted); shown = refl },
        a.shown ∙ ap (map (λ (o : Output). o.1)) found.2 ∙ shown_cut width found.0,
      )
