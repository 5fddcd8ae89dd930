-- The numbers of a sender's transmissions, ascending.
use Rattle.std.proofs.Common.{◌≡◌, ℕ, ◌==◌, ◌&&◌, ◌||◌, Bool, true, false, cond, List, [], ◌∷◌, bytes_eq, filter, map, refl, ap, sym, ◌∙◌, arith}
use Rattle.std.specs.FinMap as finite
use Rattle.std.specs.List.{AllByRecursion, list_any}
use Rattle.std.specs.List.Sorted.{IsStrictlySortedBy}
use Rattle.std.specs.Ordering.{eq_by_cmp, is_eq, nat_cmp, ordering_then}
use Rattle.std.specs.declared.cmp.Ordering.{Ordering}
use Rattle.std.specs.declared.cmp.Ordering.TheVariants.{Less, Equal, Greater}
use Rattle.std.proofs.lemmas.Bool.{false≢true}
use Rattle.std.proofs.lemmas.Bool.Decides.{nat_tests}
use Rattle.std.proofs.lemmas.List.Elements.{filter_passes, recursion_from_All}
use Rattle.std.proofs.lemmas.List.Kept.{IsStrictlySortedBy-filter}
use Rattle.std.proofs.lemmas.Map.Text.{is_eq-slice_cmp}
use Rattle.std.proofs.lemmas.Slice.Eq.{bytes_eq-Decides}
use Rattle.society_core.specs.Book.{Book, is_one_of, is_there, numbers_of}
use Rattle.society_core.specs.Keys.{bytes_cmp, transmission_cmp, transmission_key}
use Rattle.society_core.specs.declared.transmission_key.TransmissionKey.{TransmissionKey}
use Rattle.society_core.proofs.lemmas.Ascending.{keys_ascend}

-- whether a key is one of a sender's
abbrev pub is_of : List ℕ → TransmissionKey → Bool
is_of sender key = bytes_eq key.sender sender

-- the numbers of a sender's keys that pass a test, chosen in one pass or in two
pub chosen_twice : (s : List ℕ) (passes : ℕ → Bool) (keys : List TransmissionKey) → map (λ key. key.number) (filter (λ key. bytes_eq key.sender s && passes key.number) keys) ≡ filter passes (map (λ key. key.number) (filter (is_of s) keys))
chosen_twice s passes [] = refl
chosen_twice s passes (k ∷ keys) =
    let once = filter (λ (key : TransmissionKey). bytes_eq key.sender s && passes key.number) keys in
    let rest = filter passes (map (λ (key : TransmissionKey). key.number) (filter (is_of s) keys)) in
    first once rest (is_of s k) (passes k.number) (chosen_twice s passes keys) ∙ sym (second (filter (is_of s) keys) (is_of s k))
  where
    first : (once : List TransmissionKey) (rest : List ℕ) (a b : Bool) → map (λ key. key.number) once ≡ rest → map (λ key. key.number) (cond (a && b) (k ∷ once) once) ≡ cond a (cond b (k.number ∷ rest) rest) rest
    first once rest true true e = ap (λ (ns : List ℕ). k.number ∷ ns) e
    first once rest true false e = e
    first once rest false b e = e

    second : (mine : List TransmissionKey) (a : Bool) → filter passes (map (λ key. key.number) (cond a (k ∷ mine) mine)) ≡ cond a (cond (passes k.number) (k.number ∷ filter passes (map (λ key. key.number) mine)) (filter passes (map (λ key. key.number) mine))) (filter passes (map (λ key. key.number) mine))
    second mine true = refl
    second mine false = refl

both_tie : (a b : Ordering) → is_eq (ordering_then a b) ≡ (is_eq a && is_eq b)
both_tie Less b = refl
both_tie Equal b = refl
both_tie Greater b = refl

same_either_way : (a b : List ℕ) → bytes_eq a b ≡ bytes_eq b a
same_either_way a b = by_case (bytes_eq a b) (bytes_eq b a) refl refl
  where
    by_case : (x y : Bool) → bytes_eq a b ≡ x → bytes_eq b a ≡ y → x ≡ y
    by_case true true p q = refl
    by_case false false p q = refl
    by_case true false p q = sym (sym q ∙ (bytes_eq-Decides b a).1 (sym ((bytes_eq-Decides a b).0 p)))
    by_case false true p q = sym p ∙ (bytes_eq-Decides a b).1 (sym ((bytes_eq-Decides b a).0 q))

tied : (n m : ℕ) → is_eq (nat_cmp n m) ≡ (m == n)
tied n m = grind (arith, nat_tests)

-- a sender and a number are those of a key
key_is : (s : List ℕ) (n : ℕ) (k : TransmissionKey) → eq_by_cmp transmission_cmp (transmission_key s n) k ≡ (is_of s k && (k.number == n))
key_is s n k =
    both_tie (bytes_cmp s k.sender) (nat_cmp n k.number)
    ∙ ap (λ (b : Bool). b && is_eq (nat_cmp n k.number)) (is_eq-slice_cmp s k.sender ∙ same_either_way s k.sender)
    ∙ ap (λ (b : Bool). is_of s k && b) (tied n k.number)

any_number : (s : List ℕ) (n : ℕ) (keys : List TransmissionKey) → list_any (λ m. m == n) (map (λ key. key.number) (filter (is_of s) keys)) ≡ list_any (eq_by_cmp transmission_cmp (transmission_key s n)) keys
any_number s n [] = refl
any_number s n (k ∷ keys) =
    kept (is_of s k)
    ∙ ap (λ (b : Bool). (is_of s k && (k.number == n)) || b) (any_number s n keys)
    ∙ ap (λ (b : Bool). b || list_any (eq_by_cmp transmission_cmp (transmission_key s n)) keys) (sym (key_is s n k))
  where
    mine : List TransmissionKey
    mine = filter (is_of s) keys

    kept : (c : Bool) → list_any (λ m. m == n) (map (λ key. key.number) (cond c (k ∷ mine) mine)) ≡ ((c && (k.number == n)) || list_any (λ m. m == n) (map (λ key. key.number) mine))
    kept true = refl
    kept false = refl

ties : (r : Ordering) → is_eq r ≡ true → r ≡ Equal
ties Equal e = refl
ties Less e = absurd (false≢true e)
ties Greater e = absurd (false≢true e)

-- keys of one sender rise by their numbers
numbers_above : (s : List ℕ) (k : TransmissionKey) (keys : List TransmissionKey) → is_of s k ≡ true → AllByRecursion (λ key. is_of s key ≡ true) keys → AllByRecursion (λ key. transmission_cmp k key ≡ Less) keys → AllByRecursion (λ n. nat_cmp k.number n ≡ Less) (map (λ key. key.number) keys)
numbers_above s k [] mine all above = tt
numbers_above s k (j ∷ keys) mine all above =
    let one : k.sender ≡ j.sender = (bytes_eq-Decides k.sender s).0 mine ∙ sym ((bytes_eq-Decides j.sender s).0 all.0) in
    let tie : bytes_cmp k.sender j.sender ≡ Equal = ties (bytes_cmp k.sender j.sender) (is_eq-slice_cmp k.sender j.sender ∙ (bytes_eq-Decides k.sender j.sender).1 one) in
    (sym (ap (λ (r : Ordering). ordering_then r (nat_cmp k.number j.number)) tie) ∙ above.0, numbers_above s k keys mine all.1 above.1)

numbers_rise : (s : List ℕ) (keys : List TransmissionKey) → AllByRecursion (λ key. is_of s key ≡ true) keys → IsStrictlySortedBy transmission_cmp keys → IsStrictlySortedBy nat_cmp (map (λ key. key.number) keys)
unfolding IsStrictlySortedBy
numbers_rise s [] all rises = tt
numbers_rise s (k ∷ keys) all rises = (numbers_above s k keys all.0 all.1 rises.0, numbers_rise s keys all.1 rises.1)

-- the numbers of a sender's transmissions ascend
pub numbers_ascend : (b : Book) (s : List ℕ) → IsStrictlySortedBy nat_cmp (numbers_of b s)
numbers_ascend b s =
    let keys = finite.keys b.transmissions in
    let rise = keys_ascend transmission_cmp (finite.entries b.transmissions) (finite.entries_sorted b.transmissions) in
    numbers_rise s (filter (is_of s) keys) (recursion_from_All (λ key. is_of s key ≡ true) (filter (is_of s) keys) (filter_passes (is_of s) keys)) (IsStrictlySortedBy-filter transmission_cmp (is_of s) keys rise)

-- something is there under each of them, and under no other
pub there_of_numbers : (b : Book) (s : List ℕ) (n : ℕ) → is_one_of (numbers_of b s) n ≡ is_there b s n
there_of_numbers b s n = any_number s n (finite.keys b.transmissions) ∙ sym (finite.contains_key-keys b.transmissions (transmission_key s n))
