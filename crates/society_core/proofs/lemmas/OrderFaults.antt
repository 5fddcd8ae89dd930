-- The faults of an order do not depend on the order in which its members are named, so what is kept of an order without faults has none.
use Rattle.std.proofs.Common.{◌≡◌, ◌∙◌, ◌≤◌, ◌+◌, ◌&&◌, ◌||◌, ◌==◌, ℕ, Bool, true, false, cond, not, List, [], ◌∷◌, Option, Some, None, is_none, map, nat_lt, refl, ap, ap₂, sym, subst, arith, IsPermutation}
use Rattle.std.specs.List.{list_all, list_any, sum_by}
use Rattle.std.specs.Ordering.{eq_by_cmp}
use Rattle.std.specs.Str.{bytes_eq}
use Rattle.std.proofs.lemmas.Bool.{false≢true}
use Rattle.std.proofs.lemmas.Bool.Decides.{Decides-eqb}
use Rattle.std.proofs.lemmas.List.Sorted.{IsPermutation-map, length_permutation, list_any-IsPermutation, sum_by-IsPermutation}
use Rattle.std.proofs.lemmas.List.Sums.{sum_by-cons}
use Rattle.std.proofs.lemmas.Map.Views.{tells_apart}
use Rattle.std.proofs.lemmas.Slice.Eq.{bytes_eq-Decides}
use Rattle.work_ids.specs.Numbers.{is_return_number}
use Rattle.work_ids.specs.Segments.{is_transmission_number}
use Rattle.society_core.specs.Keys.{ascending, return_cmp, return_key, transmission_cmp, transmission_key}
use Rattle.society_core.specs.Orders.{has_repeat, is_out_of_range, is_too_long, names_twice, order_fault, return_pair, same_numbered, same_sender, sent_pair}
use Rattle.society_core.specs.declared.order_fault.OrderFault.TheVariants.{OutOfRange, TooLong, NamedTwice}
use Rattle.society_core.specs.declared.return_key.ReturnKey.{ReturnKey}
use Rattle.society_core.specs.declared.transmission_key.TransmissionKey.{TransmissionKey}
use Rattle.society_core.proofs.lemmas.Ascending.{ascending_permutes}
use Rattle.society_core.proofs.lemmas.Fronts.{both_hold, first_holds, second_holds}
use Rattle.society_core.proofs.lemmas.KeyOrders.{exact_returns, exact_transmissions, returns_total, transmissions_total}

-- of two tests neither holds
pub neither_holds : (a b : Bool) → (a || b) ≡ false → (a ≡ false) × (b ≡ false)
neither_holds true b h = absurd (false≢true (sym h))
neither_holds false b h = (refl, h)

neither_from : (a b : Bool) → a ≡ false → b ≡ false → (a || b) ≡ false
neither_from true b h k = absurd (false≢true (sym h))
neither_from false b h k = k

-- how often what is the same stands in a list
abbrev times : {X : Type 0} → (X → X → Bool) → X → List X → ℕ
times same q xs = sum_by (λ x. cond (same q x) 1 0) xs

times_here : {X : Type 0} (same : X → X → Bool) (q x : X) (xs : List X) → times same q (x ∷ xs) ≡ cond (same q x) 1 0 + times same q xs
times_here same q x xs = sum_by-cons (λ x. cond (same q x) 1 0) x xs

one_less : (n : ℕ) → 1 + n ≤ 1 → n ≡ 0
one_less n h = omega arith

less : (a n m : ℕ) → m ≡ a + n → m ≤ 1 → n ≤ 1
less a n m e h = omega arith

none_behind : (n m : ℕ) → m ≡ 0 + n → m ≡ 0 → n ≡ 0
none_behind n m e h = omega arith

no_count : (n : ℕ) → 1 + n ≡ 0 → ⊥
no_count n h = omega arith

module _ {X : Type 0} (same : X → X → Bool) (itself : (x : X) → same x x ≡ true) (alike : (x y z : X) → same x y ≡ true → same x z ≡ same y z) where
  none_counted : (q : X) (xs : List X) → list_any (same q) xs ≡ false → times same q xs ≡ 0
  none_counted q [] none = refl
  none_counted q (x ∷ xs) none =
      let parts = neither_holds (same q x) (list_any (same q) xs) none in
      times_here same q x xs ∙ ap₂ (λ (b : Bool) (n : ℕ). cond b 1 0 + n) parts.0 (none_counted q xs parts.1)

  count_none : (q : X) (xs : List X) → times same q xs ≡ 0 → list_any (same q) xs ≡ false
  count_none q [] none = refl
  count_none q (x ∷ xs) none = by_case (same q x) refl (count_none q xs)
    where
      by_case : (b : Bool) → same q x ≡ b → (times same q xs ≡ 0 → list_any (same q) xs ≡ false) → (same q x || list_any (same q) xs) ≡ false
      by_case true is rest = absurd (no_count (times same q xs) (sym (times_here same q x xs ∙ ap (λ (b : Bool). cond b 1 0 + times same q xs) is) ∙ none))
      by_case false is rest =
          ap (λ (b : Bool). b || list_any (same q) xs) is
          ∙ rest (none_behind (times same q xs) (times same q (x ∷ xs)) (times_here same q x xs ∙ ap (λ (b : Bool). cond b 1 0 + times same q xs) is) none)

  -- what stands once in a list is counted once
  counted_once : (xs : List X) → has_repeat same xs ≡ false → (q : X) → times same q xs ≤ 1
  counted_once [] once q = omega arith
  counted_once (x ∷ xs) once q = by_case (same q x) refl (λ once. counted_once xs once q)
    where
      parts : (list_any (same x) xs ≡ false) × (has_repeat same xs ≡ false)
      parts = neither_holds (list_any (same x) xs) (has_repeat same xs) once

      by_case : (b : Bool) → same q x ≡ b → (has_repeat same xs ≡ false → times same q xs ≤ 1) → times same q (x ∷ xs) ≤ 1
      by_case true is few =
          let none : list_any (same q) xs ≡ false = (λ i. list_any (λ z. alike q x z is i) xs) ∙ parts.0 in
          let here : times same q (x ∷ xs) ≡ 1 + 0 = times_here same q x xs ∙ ap₂ (λ (b : Bool) (n : ℕ). cond b 1 0 + n) is (none_counted q xs none) in
          omega (arith, here)
      by_case false is few =
          let here : times same q (x ∷ xs) ≡ 0 + times same q xs = times_here same q x xs ∙ ap (λ (b : Bool). cond b 1 0 + times same q xs) is in
          let rest : times same q xs ≤ 1 = few parts.1 in
          omega (arith, here, rest)

  once_from : (xs : List X) → ((q : X) → times same q xs ≤ 1) → has_repeat same xs ≡ false
  once_from [] few = refl
  once_from (x ∷ xs) few =
      let here : times same x (x ∷ xs) ≡ 1 + times same x xs = times_here same x x xs ∙ ap (λ (b : Bool). cond b 1 0 + times same x xs) (itself x) in
      neither_from (list_any (same x) xs) (has_repeat same xs)
      (count_none x xs (one_less (times same x xs) (subst (λ (n : ℕ). n ≤ 1) here (few x))))
      (once_from xs (λ q. less (cond (same q x) 1 0) (times same q xs) (times same q (x ∷ xs)) (times_here same q x xs) (few q)))

  -- a list in which nothing stands twice has no repeat in another order
  pub once_permuted : (xs ys : List X) → IsPermutation xs ys → has_repeat same xs ≡ false → has_repeat same ys ≡ false
  once_permuted xs ys moved once =
      once_from ys (λ q. subst (λ (n : ℕ). n ≤ 1) (sym (sum_by-IsPermutation (λ x. cond (same q x) 1 0) xs ys moved)) (counted_once xs once q))

all_by_any : {X : Type 0} (p : X → Bool) (xs : List X) → list_all p xs ≡ not (list_any (λ x. not (p x)) xs)
all_by_any p [] = refl
all_by_any p (x ∷ xs) = by_case (p x) (all_by_any p xs)
  where
    by_case : (b : Bool) → list_all p xs ≡ not (list_any (λ x. not (p x)) xs) → (b && list_all p xs) ≡ not (not b || list_any (λ x. not (p x)) xs)
    by_case true h = h
    by_case false h = refl

-- all of a list pass a test in whatever order they stand
pub all_permuted : {X : Type 0} (p : X → Bool) (xs ys : List X) → IsPermutation xs ys → list_all p xs ≡ list_all p ys
all_permuted p xs ys moved =
    all_by_any p xs ∙ ap not (list_any-IsPermutation (λ x. not (p x)) xs ys moved) ∙ sym (all_by_any p ys)

sender_itself : (x : List ℕ × ℕ) → same_sender x x ≡ true
sender_itself x = (bytes_eq-Decides x.0 x.0).1 refl

senders_alike : (x y z : List ℕ × ℕ) → same_sender x y ≡ true → same_sender x z ≡ same_sender y z
senders_alike x y z h = ap (λ (s : List ℕ). bytes_eq s z.0) ((bytes_eq-Decides x.0 y.0).0 h)

numbered_itself : (x : List ℕ × ℕ) → same_numbered x x ≡ true
numbered_itself x = both_hold (bytes_eq x.0 x.0) (x.1 == x.1) ((bytes_eq-Decides x.0 x.0).1 refl) ((Decides-eqb x.1 x.1).1 refl)

numbered_alike : (x y z : List ℕ × ℕ) → same_numbered x y ≡ true → same_numbered x z ≡ same_numbered y z
numbered_alike x y z h =
    ap₂ (λ (s : List ℕ) (n : ℕ). bytes_eq s z.0 && n == z.1) ((bytes_eq-Decides x.0 y.0).0 (first_holds (bytes_eq x.0 y.0) (x.1 == y.1) h))
    ((Decides-eqb x.1 y.1).0 (second_holds (bytes_eq x.0 y.0) (x.1 == y.1) h))

-- no fault is told: the first test fails, and no later one is told either
pub told_none : {X : Type 0} (holds : Bool) (fault : X) (later : Option X) → cond holds (Some fault) later ≡ None → (holds ≡ false) × (later ≡ None)
told_none true fault later h = absurd (false≢true (ap is_none h))
told_none false fault later h = (refl, h)

none_told : (a b c : Bool) → a ≡ false → b ≡ false → c ≡ false → cond a (Some OutOfRange) (cond b (Some TooLong) (cond c (Some NamedTwice) None)) ≡ None
none_told true b c h k l = absurd (false≢true (sym h))
none_told false true c h k l = absurd (false≢true (sym k))
none_told false false true h k l = absurd (false≢true (sym l))
none_told false false false h k l = refl

-- an order has no fault in whatever order its members are named
pub fault_permutes : (amount : ℕ) (cut returns cut′ returns′ : List (List ℕ × ℕ)) → IsPermutation cut cut′ → IsPermutation returns returns′ → order_fault amount cut returns ≡ None → order_fault amount cut′ returns′ ≡ None
fault_permutes amount cut returns cut′ returns′ cuts pays none =
    let in_range = told_none (is_out_of_range amount cut returns) OutOfRange _ none in
    let short = told_none (is_too_long cut returns) TooLong _ in_range.1 in
    let once = told_none (names_twice cut returns) NamedTwice _ short.1 in
    let each = neither_holds (has_repeat same_sender cut) (has_repeat same_numbered returns) once.0 in
    none_told (is_out_of_range amount cut′ returns′) (is_too_long cut′ returns′) (names_twice cut′ returns′)
    (ap₂ (λ (a b : Bool). nat_lt 1000000000000 amount || not a || not b) (sym (all_permuted (λ c. is_transmission_number c.1) cut cut′ cuts)) (sym (all_permuted (λ r. is_return_number r.1) returns returns′ pays)) ∙ in_range.0)
    (ap₂ (λ (a b : ℕ). nat_lt 200 a || nat_lt 1000 b) (length_permutation cut cut′ cuts) (length_permutation returns returns′ pays) ∙ short.0)
    (neither_from (has_repeat same_sender cut′) (has_repeat same_numbered returns′) (once_permuted same_sender sender_itself senders_alike cut cut′ cuts each.0) (once_permuted same_numbered numbered_itself numbered_alike returns returns′ pays each.1))

any_mapped : {X Y : Type 0} (same : X → X → Bool) (other : Y → Y → Bool) (f : X → Y) → ((x y : X) → other (f x) (f y) ≡ true → same x y ≡ true) → (q : X) (xs : List X) → list_any (same q) xs ≡ false → list_any (other (f q)) (map f xs) ≡ false
any_mapped same other f tells q [] none = refl
any_mapped same other f tells q (x ∷ xs) none =
    let parts = neither_holds (same q x) (list_any (same q) xs) none in
    neither_from (other (f q) (f x)) (list_any (other (f q)) (map f xs)) (by_case (other (f q) (f x)) refl parts.0) (any_mapped same other f tells q xs parts.1)
  where
    by_case : (b : Bool) → other (f q) (f x) ≡ b → same q x ≡ false → other (f q) (f x) ≡ false
    by_case true is apart = absurd (false≢true (sym apart ∙ tells q x is))
    by_case false is apart = is

-- what a function of the elements tells apart is told apart
once_mapped : {X Y : Type 0} (same : X → X → Bool) (other : Y → Y → Bool) (f : X → Y) → ((x y : X) → other (f x) (f y) ≡ true → same x y ≡ true) → (xs : List X) → has_repeat same xs ≡ false → has_repeat other (map f xs) ≡ false
once_mapped same other f tells [] once = refl
once_mapped same other f tells (x ∷ xs) once =
    let parts = neither_holds (list_any (same x) xs) (has_repeat same xs) once in
    neither_from (list_any (other (f x)) (map f xs)) (has_repeat other (map f xs)) (any_mapped same other f tells x xs parts.0) (once_mapped same other f tells xs parts.1)

abbrev cut_key : List ℕ × ℕ → TransmissionKey
cut_key c = transmission_key c.0 c.1

abbrev paid_key : List ℕ × ℕ → ReturnKey
paid_key r = return_key r.0 r.1

cut_back : (cut : List (List ℕ × ℕ)) → map sent_pair (map cut_key cut) ≡ cut
cut_back [] = refl
cut_back (c ∷ cut) = ap (λ (l : List (List ℕ × ℕ)). c ∷ l) (cut_back cut)

paid_back : (returns : List (List ℕ × ℕ)) → map return_pair (map paid_key returns) ≡ returns
paid_back [] = refl
paid_back (r ∷ returns) = ap (λ (l : List (List ℕ × ℕ)). r ∷ l) (paid_back returns)

cut_told : (x y : List ℕ × ℕ) → eq_by_cmp transmission_cmp (cut_key x) (cut_key y) ≡ true → same_sender x y ≡ true
cut_told x y h = (bytes_eq-Decides x.0 y.0).1 (ap (λ (key : TransmissionKey). key.sender) (tells_apart exact_transmissions (cut_key x) (cut_key y) h))

paid_told : (x y : List ℕ × ℕ) → eq_by_cmp return_cmp (paid_key x) (paid_key y) ≡ true → same_numbered x y ≡ true
paid_told x y h =
    let one : paid_key x ≡ paid_key y = tells_apart exact_returns (paid_key x) (paid_key y) h in
    both_hold (bytes_eq x.0 y.0) (x.1 == y.1) ((bytes_eq-Decides x.0 y.0).1 (ap (λ (key : ReturnKey). key.reporter) one)) ((Decides-eqb x.1 y.1).1 (ap (λ (key : ReturnKey). key.number) one))

-- a cut without a repeat is kept whole
pub cut_permutes : (cut : List (List ℕ × ℕ)) → has_repeat same_sender cut ≡ false → IsPermutation cut (map sent_pair (ascending transmission_cmp (map cut_key cut)))
cut_permutes cut once =
    subst (λ (l : List (List ℕ × ℕ)). IsPermutation l (map sent_pair (ascending transmission_cmp (map cut_key cut)))) (cut_back cut)
    (IsPermutation-map sent_pair (map cut_key cut) (ascending transmission_cmp (map cut_key cut))
    (ascending_permutes transmissions_total (map cut_key cut) (once_mapped same_sender (eq_by_cmp transmission_cmp) cut_key cut_told cut once)))

-- and so are returns
pub paid_permutes : (returns : List (List ℕ × ℕ)) → has_repeat same_numbered returns ≡ false → IsPermutation returns (map return_pair (ascending return_cmp (map paid_key returns)))
paid_permutes returns once =
    subst (λ (l : List (List ℕ × ℕ)). IsPermutation l (map return_pair (ascending return_cmp (map paid_key returns)))) (paid_back returns)
    (IsPermutation-map return_pair (map paid_key returns) (ascending return_cmp (map paid_key returns))
    (ascending_permutes returns_total (map paid_key returns) (once_mapped same_numbered (eq_by_cmp return_cmp) paid_key paid_told returns once)))
