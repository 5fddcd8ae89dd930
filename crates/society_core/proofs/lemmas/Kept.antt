-- The entries that a map in memory keeps make a finite map, and what is put into one is put into the other.
use Rattle.std.proofs.Common.{◌≡◌, Bool, true, false, cond, List, [], ◌∷◌, Option, Some, None, refl, ap, subst, sym, ◌∙◌, map, option_map, is_some}
use Rattle.std.specs.Borrow.{Bor}
use Rattle.std.specs.Option.{option_copied}
use Rattle.std.specs.Cmp.{IsTotalOrder, eq_by_cmp_equiv}
use Rattle.std.specs.FinMap.{get, insert, from_entries, find, get-from_entries, get-insert, same_map}
use Rattle.std.specs.FinMap as finite
use Rattle.std.specs.BTreeMap.{is_at}
use Rattle.std.specs.Map.{lookup}
use Rattle.std.specs.List.Sorted.{IsStrictlySortedBy}
use Rattle.std.specs.declared.cmp.Ordering.{Ordering}
use Rattle.std.proofs.lemmas.Map.Lookups.{CmpEqualImpliesEq}
use Rattle.society_core.proofs.lemmas.KeysOfMaps.{entries_in_order}

module _ {K V X : Type 0} {R : K → K → Ordering} (total : IsTotalOrder R) (exact : CmpEqualImpliesEq R) (shown : V → X) where
  -- entries with what is shown of each value
  abbrev pub shown_of : List (K × V) → List (K × X)
  shown_of es = map (λ e. (e.0, shown e.1)) es

  -- what is shown of a value that may be there
  abbrev pub shown_one : Option V → Option X
  shown_one o = option_map shown o

  chosen_one : (b : Bool) (v : V) (o : Option V) → shown_one (cond b (Some v) o) ≡ cond b (Some (shown v)) (shown_one o)
  chosen_one true v o = refl
  chosen_one false v o = refl

  find_shown : (es : List (K × V)) (q : K) → find R q (shown_of es) ≡ shown_one (lookup (is_at (R q)) es)
  find_shown [] q = refl
  find_shown (e ∷ es) q =
      ap (cond (is_at (R q) e.0) (Some (shown e.1))) (find_shown es q) ∙ sym (chosen_one (is_at (R q) e.0) e.1 (lookup (is_at (R q)) es))

  -- what the finite map that the entries make has at a key
  pub get_shown : (es : List (K × V)) (q : K) → get (from_entries {R = R} (shown_of es)) q ≡ shown_one (lookup (is_at (R q)) es)
  get_shown es q = get-from_entries total (shown_of es) q ∙ find_shown es q

  is_some_one : (o : Option V) → is_some (shown_one o) ≡ is_some o
  is_some_one None = refl
  is_some_one (Some v) = refl

  -- whether the finite map that the entries make has a key
  pub is_some-shown : (es : List (K × V)) (q : K) → is_some (get (from_entries {R = R} (shown_of es)) q) ≡ is_some (lookup (is_at (R q)) es)
  is_some-shown es q = ap is_some (get_shown es q) ∙ is_some_one (lookup (is_at (R q)) es)

  -- entries that differ at one key make maps that differ there
  pub one_kept : (es fs : List (K × V)) (s : K) (v : V) → ((q : K) → lookup (is_at (R q)) fs ≡ cond (is_at (R s) q) (Some v) (lookup (is_at (R q)) es)) → from_entries {R = R} (shown_of fs) ≡ insert (from_entries (shown_of es)) s (shown v)
  one_kept es fs s v h = same_map total exact _ _ (λ q.
      get_shown fs q ∙ ap shown_one (h q) ∙ chosen_one (is_at (R s) q) v (lookup (is_at (R q)) es)
      ∙ ap (λ b. cond b (Some (shown v)) (shown_one (lookup (is_at (R q)) es))) ((eq_by_cmp_equiv total).symm s q)
      ∙ sym (get-insert total (from_entries (shown_of es)) s (shown v) q ∙ ap (cond (is_at (R q) s) (Some (shown v))) (get_shown es q)))

  -- what is shown of a value that is lent
  pub lent_one : (o : Option (Bor V)) → option_map (λ (b : Bor V). shown b.now) o ≡ shown_one (option_copied o)
  lent_one None = refl
  lent_one (Some b) = refl

  keys_of-shown : (es : List (K × V)) → map (λ (e : K × X). e.0) (shown_of es) ≡ map (λ (e : K × V). e.0) es
  keys_of-shown [] = refl
  keys_of-shown (e ∷ es) = ap (λ ks. e.0 ∷ ks) (keys_of-shown es)

  -- the keys of entries in order are those of their map
  pub keys_in_order : (es : List (K × V)) → IsStrictlySortedBy R (map (λ (e : K × V). e.0) es) → finite.keys (from_entries {R = R} (shown_of es)) ≡ map (λ (e : K × V). e.0) es
  keys_in_order es h =
      ap (map (λ (e : K × X). e.0)) (entries_in_order total exact (shown_of es) (subst (IsStrictlySortedBy R) (sym (keys_of-shown es)) h))
      ∙ keys_of-shown es

-- pairs taken apart and put together
pub pairs_same : {K V : Type 0} (es : List (K × V)) → map (λ (e : K × V). (e.0, e.1)) es ≡ es
pairs_same [] = refl
pairs_same (e ∷ es) = ap (λ fs. e ∷ fs) (pairs_same es)
