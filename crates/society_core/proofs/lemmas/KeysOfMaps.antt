-- The keys of a finite map that is made of entries in order.
use Rattle.std.proofs.Common.{◌≡◌, List, [], ◌∷◌, map, refl, ap, sym, ◌∙◌}
use Rattle.std.specs.FinMap as finite
use Rattle.std.specs.FinMap.Entries.{put, by_order}
use Rattle.std.specs.Cmp.{IsTotalOrder}
use Rattle.std.specs.List.{AllByRecursion}
use Rattle.std.specs.List.Sorted.{IsStrictlySortedBy}
use Rattle.std.specs.declared.cmp.Ordering.{Ordering}
use Rattle.std.specs.declared.cmp.Ordering.TheVariants.{Less}
use Rattle.std.proofs.lemmas.Map.Keys.{sorted_head, sorted_tail}

module _ {K X : Type 0} {R : K → K → Ordering} (o : IsTotalOrder R) (exact : finite.IsAntisymmetric R) where
  -- an entry whose key is below all others goes in front
  put_front : (k : K) (v : X) (es : List (K × X)) → AllByRecursion (λ y. R k y ≡ Less) (map (λ e. e.0) es) → put R k v es ≡ (k, v) ∷ es
  put_front k v [] h = refl
  put_front k v (e ∷ es) h = ap (λ r. by_order r ((k, v) ∷ e ∷ es) ((e.0, v) ∷ es) (e ∷ put R k v es)) h.0

  -- the empty map has no entries
  no_entries : finite.entries (finite.empty {X = X} {R = R}) ≡ []
  no_entries =
      ap finite.entries (finite.same_map o exact finite.empty (finite.from_sorted []) (λ q. finite.get-empty R q ∙ sym (finite.get-from_sorted R [] q tt)))
      ∙ finite.entries-from_sorted R [] tt

  -- entries in the order of their keys are those of their map
  pub entries_in_order : (es : List (K × X)) → IsStrictlySortedBy R (map (λ e. e.0) es) → finite.entries (finite.from_entries {R = R} es) ≡ es
  entries_in_order [] h = no_entries
  entries_in_order (e ∷ es) h =
      finite.entries-insert o (finite.from_entries es) e.0 e.1
      ∙ ap (put R e.0 e.1) (entries_in_order es (sorted_tail R e.0 (map (λ e. e.0) es) h))
      ∙ put_front e.0 e.1 es (sorted_head R e.0 (map (λ e. e.0) es) h)
