-- Keys in ascending order: lists with the same members give the same, and a list that ascends gives itself.
use Rattle.std.proofs.Common.{◌≡◌, ℕ, suc, ◌≤◌, ◌+◌, Bool, true, false, ◌||◌, cond, List, [], ◌∷◌, length, map, Some, None, is_some, Contains, ◌↔◌, IsPermutation, refl, ap, sym, ◌∙◌, subst, arith}
use Rattle.std.specs.Prelude.{T, ◌&&◌}
use Rattle.std.proofs.lemmas.Bool.{true≢false}
use Rattle.std.proofs.lemmas.List.{length-map}
use Rattle.std.proofs.lemmas.Map.Views.{Contains-from_any, list_any-from_Contains, tells_apart}
use Rattle.std.proofs.lemmas.Cmp.{eq_by_cmp_equiv}
use Rattle.std.specs.BTreeSet as set
use Rattle.std.specs.BTreeSet.{BTreeSet}
use Rattle.std.specs.Cmp.{IsTotalOrder}
use Rattle.std.specs.FinMap as finite
use Rattle.std.specs.FinMap.Entries.{find, is_sorted, below_all, by_order, put}
use Rattle.std.proofs.lemmas.List.Sorted.{IsPermutation-cons, IsPermutation-map, IsPermutation-middle, IsPermutation-refl, IsPermutation-trans}
use Rattle.std.specs.List.{AllByRecursion, list_any}
use Rattle.std.specs.List.Sorted.{IsStrictlySortedBy}
use Rattle.std.specs.Ordering.{eq_by_cmp, is_eq, is_lt}
use Rattle.std.specs.declared.cmp.Ordering.{Ordering}
use Rattle.std.specs.declared.cmp.Ordering.TheVariants.{Less, Equal, Greater}
use Rattle.society_core.specs.Keys.{ascending}
use Rattle.society_core.specs.Orders.{has_repeat}
use Rattle.society_core.proofs.lemmas.KeysOfMaps.{entries_in_order}

neither_of : (a b : Bool) → (a || b) ≡ false → (a ≡ false) × (b ≡ false)
neither_of true b h = absurd (true≢false h)
neither_of false b h = (refl, h)

both_ways : (a b : Bool) → (a ≡ true → b ≡ true) → (b ≡ true → a ≡ true) → a ≡ b
both_ways true b there back = sym (there refl)
both_ways false true there back = back refl
both_ways false false there back = refl

is_less : (r : Ordering) → T (is_lt r) → r ≡ Less
is_less Less h = refl
is_less Equal h = absurd h
is_less Greater h = absurd h

first : (a b : Bool) → T (a && b) → T a
first true b h = tt
first false b h = absurd h

second : (a b : Bool) → T (a && b) → T b
second true b h = h
second false b h = absurd h

keys_of_marked : {K : Type 0} (ks : List K) → map (λ (e : K × Bool). e.0) (map (λ key. (key, true)) ks) ≡ ks
keys_of_marked [] = refl
keys_of_marked (k ∷ ks) = ap (λ r. k ∷ r) (keys_of_marked ks)

module _ {K X : Type 0} (R : K → K → Ordering) where
  below_is_less : (k : K) (es : List (K × X)) → T (below_all R k es) → AllByRecursion (λ y. R k y ≡ Less) (map (λ e. e.0) es)
  below_is_less k [] h = tt
  below_is_less k (e ∷ es) h = (is_less (R k e.0) (first (is_lt (R k e.0)) (below_all R k es) h), below_is_less k es (second (is_lt (R k e.0)) (below_all R k es) h))

  -- entries that pass the test of a map ascend by their keys
  pub keys_ascend : (es : List (K × X)) → T (is_sorted R es) → IsStrictlySortedBy R (map (λ e. e.0) es)
  unfolding IsStrictlySortedBy
  keys_ascend [] h = tt
  keys_ascend (e ∷ es) h = (below_is_less e.0 es (first (below_all R e.0 es) (is_sorted R es) h), keys_ascend es (second (below_all R e.0 es) (is_sorted R es) h))

module _ {K : Type 0} {R : K → K → Ordering} (o : IsTotalOrder R) where
  -- what is looked up among marked keys
  find_marked : (q : K) (ks : List K) → find R q (map (λ key. (key, true)) ks) ≡ cond (list_any (eq_by_cmp R q) ks) (Some true) None
  find_marked q [] = refl
  find_marked q (k ∷ ks) =
      elim (eq_by_cmp R q k) as (λ b. cond b (Some true) (find R q (map (λ key. (key, true)) ks)) ≡ cond (b || list_any (eq_by_cmp R q) ks) (Some true) None) [
        | true ↦ refl
        | false ↦ find_marked q ks
      ]

  is_some_marked : (b : Bool) → is_some (cond b (Some true) None) ≡ b
  is_some_marked true = refl
  is_some_marked false = refl

  -- keys in ascending order ascend
  pub ascending_ascends : (ks : List K) → IsStrictlySortedBy R (ascending R ks)
  ascending_ascends ks = keys_ascend R (finite.entries (finite.from_entries {R = R} (map (λ key. (key, true)) ks))) (finite.entries_sorted (finite.from_entries {R = R} (map (λ key. (key, true)) ks)))

  -- they are the keys of the list
  pub ascending_has : (q : K) (ks : List K) → list_any (eq_by_cmp R q) (ascending R ks) ≡ list_any (eq_by_cmp R q) ks
  ascending_has q ks =
      sym (finite.contains_key-keys (finite.from_entries {R = R} (map (λ key. (key, true)) ks)) q)
      ∙ ap is_some (finite.get-from_entries o (map (λ key. (key, true)) ks) q ∙ find_marked q ks)
      ∙ is_some_marked (list_any (eq_by_cmp R q) ks)

  at_most_one_more : (b : Bool) (n m k : ℕ) → n ≡ cond b m (m + 1) → m ≤ k → n ≤ suc k
  at_most_one_more true n m k e h = omega arith
  at_most_one_more false n m k e h = omega arith

  marks_length : (ks : List K) → finite.len (finite.from_entries {R = R} (map (λ key. (key, true)) ks)) ≤ length ks
  marks_length [] = let e = finite.len-empty R Bool in omega arith
  marks_length (k ∷ ks) =
      let m = finite.from_entries {R = R} (map (λ key. (key, true)) ks) in
      let more : finite.len (finite.insert m k true) ≡ cond (finite.contains_key m k) (finite.len m) (finite.len m + 1) = finite.len-insert o m k true in
      at_most_one_more (finite.contains_key m k) (finite.len (finite.insert m k true)) (finite.len m) (length ks) more (marks_length ks)

  -- and no more of them
  pub ascending_length : (ks : List K) → length (ascending R ks) ≤ length ks
  ascending_length ks =
      let marks = finite.from_entries {R = R} (map (λ key. (key, true)) ks) in
      let all : length (map (λ (e : K × Bool). e.0) (finite.entries marks)) ≡ length (finite.entries marks) = length-map (finite.entries marks) (λ (e : K × Bool). e.0) in
      let count : finite.len marks ≡ length (finite.entries marks) = finite.len-entries marks in
      let few : finite.len marks ≤ length ks = marks_length ks in
      omega arith

  -- an entry that ties with no other goes in among them
  put_permutes : {X : Type 0} (k : K) (v : X) (es : List (K × X)) → list_any (λ e. eq_by_cmp R k e.0) es ≡ false → IsPermutation ((k, v) ∷ es) (put R k v es)
  put_permutes k v [] free = IsPermutation-refl ((k, v) ∷ [])
  put_permutes k v (e ∷ es) free = by_case (R k e.0) refl (put_permutes k v es)
    where
      by_case : (r : Ordering) → R k e.0 ≡ r → (list_any (λ e. eq_by_cmp R k e.0) es ≡ false → IsPermutation ((k, v) ∷ es) (put R k v es)) → IsPermutation ((k, v) ∷ e ∷ es) (by_order r ((k, v) ∷ e ∷ es) ((e.0, v) ∷ es) (e ∷ put R k v es))
      by_case Less is goes_in = IsPermutation-refl ((k, v) ∷ e ∷ es)
      by_case Equal is goes_in = absurd (true≢false (sym (ap (λ (r : Ordering). is_eq r || list_any (λ e. eq_by_cmp R k e.0) es) is) ∙ free))
      by_case Greater is goes_in =
          let rest : list_any (λ e. eq_by_cmp R k e.0) es ≡ false = sym (ap (λ (r : Ordering). is_eq r || list_any (λ e. eq_by_cmp R k e.0) es) is) ∙ free in
          IsPermutation-trans ((k, v) ∷ e ∷ es) (e ∷ (k, v) ∷ es) (e ∷ put R k v es) (IsPermutation-middle ((k, v) ∷ []) e es) (IsPermutation-cons e ((k, v) ∷ es) (put R k v es) (goes_in rest))

  any_of_keys : {X : Type 0} (q : K) (es : List (K × X)) → list_any (λ e. eq_by_cmp R q e.0) es ≡ list_any (eq_by_cmp R q) (map (λ (e : K × X). e.0) es)
  any_of_keys q [] = refl
  any_of_keys q (e ∷ es) = ap (λ (b : Bool). eq_by_cmp R q e.0 || b) (any_of_keys q es)

  none_left : (ks : List K) → length ks ≤ 0 → [] ≡ ks
  none_left [] few = refl
  none_left (k ∷ ks) few = absurd (omega (few, arith))

  -- keys of which no two tie are all there in ascending order
  pub ascending_permutes : (ks : List K) → has_repeat (eq_by_cmp R) ks ≡ false → IsPermutation ks (ascending R ks)
  ascending_permutes [] once = subst (IsPermutation []) (none_left (ascending R []) (ascending_length [])) (IsPermutation-refl [])
  ascending_permutes (k ∷ ks) once =
      let m = finite.from_entries {R = R} (map (λ key. (key, true)) ks) in
      let free : list_any (eq_by_cmp R k) ks ≡ false = (neither_of (list_any (eq_by_cmp R k) ks) (has_repeat (eq_by_cmp R) ks) once).0 in
      let rest : has_repeat (eq_by_cmp R) ks ≡ false = (neither_of (list_any (eq_by_cmp R k) ks) (has_repeat (eq_by_cmp R) ks) once).1 in
      let apart : list_any (λ (e : K × Bool). eq_by_cmp R k e.0) (finite.entries m) ≡ false = any_of_keys k (finite.entries m) ∙ ascending_has k ks ∙ free in
      let put_in : IsPermutation (k ∷ ascending R ks) (map (λ (e : K × Bool). e.0) (put R k true (finite.entries m))) = IsPermutation-map (λ (e : K × Bool). e.0) ((k, true) ∷ finite.entries m) (put R k true (finite.entries m)) (put_permutes k true (finite.entries m) apart) in
      subst (IsPermutation (k ∷ ks)) (ap (map (λ (e : K × Bool). e.0)) (sym (finite.entries-insert o m k true)))
      (IsPermutation-trans (k ∷ ks) (k ∷ ascending R ks) (map (λ (e : K × Bool). e.0) (put R k true (finite.entries m))) (IsPermutation-cons k ks (ascending R ks) (ascending_permutes ks rest)) put_in)

  module _ (exact : finite.IsAntisymmetric R) where
    -- a list that ascends is its own
    pub ascending_in_order : (ks : List K) → IsStrictlySortedBy R ks → ascending R ks ≡ ks
    ascending_in_order ks h =
        ap (map (λ (e : K × Bool). e.0)) (entries_in_order o exact (map (λ key. (key, true)) ks) (subst (IsStrictlySortedBy R) (sym (keys_of_marked ks)) h))
        ∙ keys_of_marked ks

    -- lists with the same members have the same
    pub same_ascending : (xs ys : List K) → ((q : K) → list_any (eq_by_cmp R q) xs ≡ list_any (eq_by_cmp R q) ys) → ascending R xs ≡ ascending R ys
    same_ascending xs ys same =
        ap finite.keys (finite.same_map o exact (finite.from_entries {R = R} (map (λ key. (key, true)) xs)) (finite.from_entries {R = R} (map (λ key. (key, true)) ys)) (λ q.
        finite.get-from_entries o (map (λ key. (key, true)) xs) q ∙ find_marked q xs
        ∙ ap (λ (b : Bool). cond b (Some true) None) (same q)
        ∙ sym (finite.get-from_entries o (map (λ key. (key, true)) ys) q ∙ find_marked q ys)))

    member_follows : (xs ys : List K) → ((k : K) → Contains xs k → Contains ys k) → (q : K) → list_any (eq_by_cmp R q) xs ≡ true → list_any (eq_by_cmp R q) ys ≡ true
    member_follows xs ys there q h = list_any-from_Contains (eq_by_cmp_equiv o) q ys (there q (Contains-from_any (tells_apart exact) q xs h))

    -- lists that contain the same have the same
    pub same_contents_ascend : (xs ys : List K) → ((k : K) → Contains xs k ↔ Contains ys k) → ascending R xs ≡ ascending R ys
    same_contents_ascend xs ys same =
        same_ascending xs ys (λ q. both_ways (list_any (eq_by_cmp R q) xs) (list_any (eq_by_cmp R q) ys) (member_follows xs ys (λ k. (same k).0) q) (member_follows ys xs (λ k. (same k).1) q))

    -- once is enough
    pub ascending_again : (ks : List K) → ascending R (ascending R ks) ≡ ascending R ks
    ascending_again ks = ascending_in_order (ascending R ks) (ascending_ascends ks)

    -- a list that ascends and has the members of another is that one's
    pub ascending_is : (xs ys : List K) → IsStrictlySortedBy R xs → ((q : K) → list_any (eq_by_cmp R q) xs ≡ list_any (eq_by_cmp R q) ys) → xs ≡ ascending R ys
    ascending_is xs ys h same = sym (ascending_in_order xs h) ∙ same_ascending xs ys same

    -- a set that was collected from a list has its keys in ascending order
    pub collected_ascends : (ks : List K) (s : BTreeSet K) → set.IsFromIterResult R ks s → s.keys ≡ ascending R ks
    collected_ascends ks s h = ascending_is s.keys ks h.1 h.0
