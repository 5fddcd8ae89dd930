-- Keys of parties, and what a block keeps at their places (representation).
use Rattle.std.proofs.Common.{◌≡◌, ℕ, zero, suc, ◌+◌, ◌*◌, ◌<◌, ◌≤◌, Bool, true, false, ◌&&◌, List, [], ◌∷◌, length, get_or, set, drop, Option, Some, None, if◌then◌else◌, refl, sym, ap, inl, inr, ◌⊎◌, ◌∙◌, arith, nat_eq, eq-eqb, nat_le, replicate, Fits, w8}
use Rattle.std.specs.List.{sum}
use Rattle.std.proofs.lemmas.Bool.{cases_eq, eqb-true, false≢true, le-leb, lt-leb}
use Rattle.std.proofs.lemmas.List.{at_drop_all, at_drop_more, get_or-drop, get_or-replicate, get_or-set_other, get_or-set_same}
use Rattle.std.proofs.lemmas.List.Sums.{sum_by-cons}
use Rattle.std.proofs.lemmas.Slice.Eq.{bytes_eq-Decides}
use Rattle.cwr_records.specs.Blanks.{trimmed}
use Rattle.share_rules.specs.Blocks.{AreAnswers, AreBytes, descend, halves, key_of, party_key, place_in, place_of, side_digit}
use Rattle.share_rules.specs.Parties.{same_number, same_side}
use Rattle.share_rules.specs.declared.party.Side.{Side}
use Rattle.share_rules.specs.declared.party.Side.TheVariants as side

-- above each key of some bytes
abbrev pub above_keys : ℕ → ℕ
above_keys zero = 3
above_keys (suc n) = above_keys n * 257

digit_small : (s : Side) → side_digit s < 3
digit_small side.Publisher = omega arith
digit_small side.Writer = omega arith

digits_small : (s : Side) (n : ℕ) → side_digit s < above_keys n
digits_small s zero = digit_small s
digits_small s (suc n) = let h = digits_small s n in omega (arith, h)

-- a key of a few bytes is small
pub key_small : (s : Side) (bs : List ℕ) (n : ℕ) → AreBytes bs → length bs ≤ n → key_of s bs < above_keys n
key_small s [] n bytes short = digits_small s n
key_small s (b ∷ bs) zero bytes short = absurd (omega arith)
key_small s (b ∷ bs) (suc n) bytes short =
    let first : b < 256 = bytes 0 in
    let low = key_small s bs n (λ k. bytes (suc k)) (omega arith) in
    omega (arith, first, low)

pub drop_bytes : (bs : List ℕ) (i : ℕ) → AreBytes bs → AreBytes (drop i bs)
drop_bytes bs i bytes k = rw get_or-drop (bytes (i + k))

no_digit : (s t : Side) (b : ℕ) (bs : List ℕ) → side_digit s ≡ key_of t bs * 257 + (b + 1) → b < 256 → ⊥
no_digit s t b bs e h = let d = digit_small s in let u = digits_above t bs in omega (arith, d, e, u)
  where
    digits_above : (t : Side) (bs : List ℕ) → 0 < key_of t bs
    digits_above side.Publisher [] = omega arith
    digits_above side.Writer [] = omega arith
    digits_above t (b ∷ bs) = omega arith

one_digit : (s t : Side) → side_digit s ≡ side_digit t → s ≡ t
one_digit side.Publisher side.Publisher e = refl
one_digit side.Writer side.Writer e = refl
one_digit side.Publisher side.Writer e = absurd (omega (arith, e))
one_digit side.Writer side.Publisher e = absurd (omega (arith, e))

last_digit : (x y b c : ℕ) → x * 257 + (b + 1) ≡ y * 257 + (c + 1) → b < 256 → c < 256 → b ≡ c
last_digit x y b c e h k = omega arith

other_digits : (x y b c : ℕ) → x * 257 + (b + 1) ≡ y * 257 + (c + 1) → b < 256 → c < 256 → x ≡ y
other_digits x y b c e h k = omega arith

-- one key is of one side and of the same bytes
pub one_key : (s t : Side) (bs cs : List ℕ) → AreBytes bs → AreBytes cs → key_of s bs ≡ key_of t cs → (s ≡ t) × (bs ≡ cs)
one_key s t [] [] h k e = (one_digit s t e, refl)
one_key s t [] (c ∷ cs) h k e = absurd (no_digit s t c cs e (k 0))
one_key s t (b ∷ bs) [] h k e = absurd (no_digit t s b bs (sym e) (h 0))
one_key s t (b ∷ bs) (c ∷ cs) h k e =
    let more = one_key s t bs cs (λ i. h (suc i)) (λ i. k (suc i)) (other_digits (key_of s bs) (key_of t cs) b c e (h 0) (k 0)) in
    let first = last_digit (key_of s bs) (key_of t cs) b c e (h 0) (k 0) in
    (more.0, ap (λ (x : ℕ). x ∷ bs) first ∙ ap (λ (xs : List ℕ). c ∷ xs) more.1)

same_sides : (s : Side) → same_side s s ≡ true
same_sides side.Publisher = refl
same_sides side.Writer = refl

one_side : (a b : Side) → same_side a b ≡ true → a ≡ b
one_side side.Publisher side.Publisher e = refl
one_side side.Writer side.Writer e = refl
one_side side.Publisher side.Writer e = absurd (false≢true e)
one_side side.Writer side.Publisher e = absurd (false≢true e)

both_of : (a b : Bool) → (a && b) ≡ true → (a ≡ true) × (b ≡ true)
both_of true b e = (refl, e)
both_of false b e = absurd (false≢true e)

-- whether a party of a side with a number is of another side with another number too
abbrev pub alike : Side → List ℕ → Side → List ℕ → Bool
alike s number t other = same_side s t && same_number number other

-- what is alike has one key
pub alike_key : (s t : Side) (n m : List ℕ) → alike s n t m ≡ true → party_key s n ≡ party_key t m
unfolding party_key
alike_key s t n m e =
    let parts = both_of (same_side s t) (same_number n m) e in
    ap (λ (x : Side). key_of x (trimmed n)) (one_side s t parts.0)
    ∙ ap (λ (bs : List ℕ). key_of t bs) ((bytes_eq-Decides (trimmed n) (trimmed m)).0 parts.1)

-- what has one key is alike
pub key_alike : (s t : Side) (n m : List ℕ) → AreBytes (trimmed n) → AreBytes (trimmed m) → party_key s n ≡ party_key t m → alike s n t m ≡ true
unfolding party_key
key_alike s t n m h k e =
    let parts = one_key s t (trimmed n) (trimmed m) h k e in
    ap (λ (x : Side). same_side s x && same_number n m) (sym parts.0)
    ∙ ap (λ (b : Bool). b && same_number n m) (same_sides s)
    ∙ (bytes_eq-Decides (trimmed n) (trimmed m)).1 parts.1

sum-cons : (x : ℕ) (xs : List ℕ) → sum (x ∷ xs) ≡ x + sum xs
sum-cons x xs = sum_by-cons (λ (n : ℕ). n) x xs

-- the steps that are left have room for the next one
pub room_left : (xs : List ℕ) (i place n : ℕ) → i < length xs → place + sum (drop i xs) < n → place + get_or xs i 0 + sum (drop (i + 1) xs) < n
room_left xs i place n h room =
    let d = at_drop_more sum xs i 0 h in
    let e = sum-cons (get_or xs i 0) (drop (i + 1) xs) in
    omega (arith, d, e, room)

taken : (keys : List ℕ) (key step : ℕ) (steps : List ℕ) (place : ℕ) → get_or keys (place + step) 0 ≤ key → descend keys key (step ∷ steps) place ≡ descend keys key steps (place + step)
unfolding descend
taken keys key step steps place h = ap (λ (b : Bool). descend keys key steps (if b then place + step else place)) (le-leb (get_or keys (place + step) 0) key h)

passed : (keys : List ℕ) (key step : ℕ) (steps : List ℕ) (place : ℕ) → key < get_or keys (place + step) 0 → descend keys key (step ∷ steps) place ≡ descend keys key steps place
unfolding descend
passed keys key step steps place h = ap (λ (b : Bool). descend keys key steps (if b then place + step else place)) (lt-leb (get_or keys (place + step) 0) key h)

-- a step that is taken
pub step_taken : (keys : List ℕ) (key : ℕ) (xs : List ℕ) (i place : ℕ) → i < length xs → get_or keys (place + get_or xs i 0) 0 ≤ key → descend keys key (drop (i + 1) xs) (place + get_or xs i 0) ≡ descend keys key (drop i xs) place
step_taken keys key xs i place h low =
    sym (at_drop_more (λ (ys : List ℕ). descend keys key ys place) xs i 0 h ∙ taken keys key (get_or xs i 0) (drop (i + 1) xs) place low)

-- a step that is not
pub step_passed : (keys : List ℕ) (key : ℕ) (xs : List ℕ) (i place : ℕ) → i < length xs → key < get_or keys (place + get_or xs i 0) 0 → descend keys key (drop (i + 1) xs) place ≡ descend keys key (drop i xs) place
step_passed keys key xs i place h high =
    sym (at_drop_more (λ (ys : List ℕ). descend keys key ys place) xs i 0 h ∙ passed keys key (get_or xs i 0) (drop (i + 1) xs) place high)

-- behind the last step
pub no_step : (keys : List ℕ) (key : ℕ) (xs : List ℕ) (i place : ℕ) → length xs ≤ i → descend keys key (drop i xs) place ≡ place
unfolding descend
no_step keys key xs i place h = at_drop_all (λ (ys : List ℕ). descend keys key ys place) xs i h

-- the key is at its place
pub place_there : (keys : List ℕ) (s : Side) (number : List ℕ) (place : ℕ) → place ≡ descend keys (party_key s number) halves 0 → get_or keys place 0 ≡ party_key s number → place_in keys s number ≡ Some place
unfolding place_in place_of
place_there keys s number place at is =
    let key = party_key s number in
    let there : nat_eq (get_or keys (descend keys key halves 0) 0) key ≡ true = eq-eqb _ _ (ap (λ (p : ℕ). get_or keys p 0) (sym at) ∙ is) in
    ap (λ (b : Bool). if b then Some (descend keys key halves 0) else None) there ∙ ap Some (sym at)

-- another key is there
pub place_missed : (keys : List ℕ) (s : Side) (number : List ℕ) (place : ℕ) → place ≡ descend keys (party_key s number) halves 0 → (get_or keys place 0 ≡ party_key s number → ⊥) → place_in keys s number ≡ None
unfolding place_in place_of
place_missed keys s number place at other =
    let key = party_key s number in
    by_case (nat_eq (get_or keys (descend keys key halves 0) 0) key) refl
  where
    by_case : (b : Bool) → nat_eq (get_or keys (descend keys (party_key s number) halves 0) 0) (party_key s number) ≡ b → (if b then Some (descend keys (party_key s number) halves 0) else None) ≡ None
    by_case false e = refl
    by_case true e = absurd (other (ap (λ (p : ℕ). get_or keys p 0) at ∙ eqb-true _ _ e))

none_is_some : (place : ℕ) → ◌≡◌ {A = Option ℕ} None (Some place) → ⊥
none_is_some place e = cc

some_is : (a b : ℕ) → ◌≡◌ {A = Option ℕ} (Some a) (Some b) → a ≡ b
some_is a b e = cc

-- a key stands at its place
pub key_at : (keys : List ℕ) (s : Side) (number : List ℕ) (place : ℕ) → place_in keys s number ≡ Some place → get_or keys place 0 ≡ party_key s number
unfolding place_in place_of
key_at keys s number place e = by_case (nat_eq (get_or keys (descend keys (party_key s number) halves 0) 0) (party_key s number)) refl e
  where
    by_case : (b : Bool) → nat_eq (get_or keys (descend keys (party_key s number) halves 0) 0) (party_key s number) ≡ b → ◌≡◌ {A = Option ℕ} (if b then Some (descend keys (party_key s number) halves 0) else None) (Some place) → get_or keys place 0 ≡ party_key s number
    by_case false is e = absurd (none_is_some place e)
    by_case true is e = ap (λ (p : ℕ). get_or keys p 0) (sym (some_is _ place e)) ∙ eqb-true _ _ is

-- what fits eight bits is a byte
pub all_bytes : (bs : List ℕ) → ((i : ℕ) → Fits w8 (get_or bs i 0)) → AreBytes bs
all_bytes bs fit k = let h = fit k in omega (arith, h)

alike_keys : (s t : Side) (n m : List ℕ) (keys : List ℕ) (b : Bool) → alike s n t m ≡ b → b ≡ true → place_in keys s n ≡ place_in keys t m
unfolding place_in
alike_keys s t n m keys b is so = ap (place_of halves keys) (alike_key s t n m (is ∙ so))

-- what is alike has one place
pub alike_place : (s t : Side) (n m : List ℕ) (keys : List ℕ) → alike s n t m ≡ true → place_in keys s n ≡ place_in keys t m
alike_place s t n m keys is = alike_keys s t n m keys true is refl

-- what has one place is alike
pub place_alike : (s t : Side) (n m : List ℕ) (keys : List ℕ) (place : ℕ) → AreBytes (trimmed n) → AreBytes (trimmed m) → place_in keys s n ≡ Some place → place_in keys t m ≡ Some place → alike s n t m ≡ true
place_alike s t n m keys place h k p q = key_alike s t n m h k (sym (key_at keys s n place p) ∙ key_at keys t m place q)

-- where a party has no place, the answers for others stay
pub answers_stay : {V : Type 0} (before after : Side → List ℕ → V) (keys : List ℕ) (values : List V) (s : Side) (n : List ℕ) → place_in keys s n ≡ None → ((t : Side) (m : List ℕ) → alike s n t m ≡ false → after t m ≡ before t m) → AreAnswers before keys values → AreAnswers after keys values
answers_stay {V} before after keys values s n none others answers t m place d bytes there =
    by_case (alike s n t m) refl
  where
    by_case : (b : Bool) → alike s n t m ≡ b → get_or values place d ≡ after t m
    by_case true is = absurd (none_is_some place (sym none ∙ alike_place s t n m keys is ∙ there))
    by_case false is = answers t m place d bytes there ∙ sym (others t m is)

-- where a party has a place, its answer goes there
pub answers_set : {V : Type 0} (before after : Side → List ℕ → V) (keys : List ℕ) (values : List V) (s : Side) (n : List ℕ) (place : ℕ) (v : V) → place_in keys s n ≡ Some place → AreBytes (trimmed n) → place < length values → ((t : Side) (m : List ℕ) → alike s n t m ≡ false → after t m ≡ before t m) → ((t : Side) (m : List ℕ) (d : V) → alike s n t m ≡ true → get_or values place d ≡ before t m → after t m ≡ v) → AreAnswers before keys values → AreAnswers after keys (set values place v)
answers_set {V} before after keys values s n place v at own_bytes room others own answers t m other d bytes there =
    by_place (cases_eq other place)
  where
    by_case : (other ≡ place → ⊥) → (b : Bool) → alike s n t m ≡ b → get_or (set values place v) other d ≡ after t m
    by_case ne true is = absurd (ne (some_is other place (sym there ∙ sym (alike_place s t n m keys is) ∙ at)))
    by_case ne false is = get_or-set_other values place other v d ne ∙ answers t m other d bytes there ∙ sym (others t m is)

    by_place : (other ≡ place) ⊎ (other ≡ place → ⊥) → get_or (set values place v) other d ≡ after t m
    by_place (inl same) =
        let kept = ap (λ (i : ℕ). get_or values i d) (sym same) ∙ answers t m other d bytes there in
        ap (λ (i : ℕ). get_or (set values place v) i d) same
        ∙ get_or-set_same values place v d room
        ∙ sym (own t m d (place_alike s t n m keys place own_bytes bytes at (there ∙ ap Some same)) kept)
    by_place (inr ne) = by_case ne (alike s n t m) refl

-- where a party has a place, and the answer there stays too
pub answers_hold : {V : Type 0} (before after : Side → List ℕ → V) (keys : List ℕ) (values : List V) (s : Side) (n : List ℕ) (place : ℕ) → place_in keys s n ≡ Some place → ((t : Side) (m : List ℕ) → alike s n t m ≡ false → after t m ≡ before t m) → ((t : Side) (m : List ℕ) (d : V) → alike s n t m ≡ true → get_or values place d ≡ before t m → after t m ≡ before t m) → AreAnswers before keys values → AreAnswers after keys values
answers_hold {V} before after keys values s n place at others own answers t m other d bytes there =
    by_case (alike s n t m) refl
  where
    by_case : (b : Bool) → alike s n t m ≡ b → get_or values other d ≡ after t m
    by_case false is = answers t m other d bytes there ∙ sym (others t m is)
    by_case true is =
        let same = some_is other place (sym there ∙ sym (alike_place s t n m keys is) ∙ at) in
        let kept = ap (λ (i : ℕ). get_or values i d) (sym same) ∙ answers t m other d bytes there in
        answers t m other d bytes there ∙ sym (own t m d is kept)

-- steps lead no further than they are long
pub descend_within : (keys : List ℕ) (key : ℕ) (steps : List ℕ) (place : ℕ) → descend keys key steps place ≤ place + sum steps
unfolding descend
descend_within keys key [] place = omega arith
descend_within keys key (step ∷ steps) place = by_case (nat_le (get_or keys (place + step) 0) key) (descend_within keys key steps (place + step)) (descend_within keys key steps place)
  where
    by_case : (b : Bool) → descend keys key steps (place + step) ≤ place + step + sum steps → descend keys key steps place ≤ place + sum steps → descend keys key steps (if b then place + step else place) ≤ place + sum (step ∷ steps)
    by_case true h k = let e = sum-cons step steps in omega (arith, h, e)
    by_case false h k = let e = sum-cons step steps in omega (arith, k, e)

-- a place is one of 2,048
pub place_within : (keys : List ℕ) (s : Side) (n : List ℕ) (place : ℕ) → place_in keys s n ≡ Some place → place < 2048
unfolding place_in place_of
place_within keys s n place e = by_case (nat_eq (get_or keys (descend keys (party_key s n) halves 0) 0) (party_key s n)) e
  where
    by_case : (b : Bool) → ◌≡◌ {A = Option ℕ} (if b then Some (descend keys (party_key s n) halves 0) else None) (Some place) → place < 2048
    by_case false e = absurd (none_is_some place e)
    by_case true e = let h = descend_within keys (party_key s n) halves 0 in let is = some_is _ place e in omega (arith, h, is)

-- one value for all is the answer where each has it
pub one_for_all : {V : Type 0} (answer : Side → List ℕ → V) (keys : List ℕ) (v : V) → ((t : Side) (m : List ℕ) → answer t m ≡ v) → AreAnswers answer keys (replicate 2048 v)
one_for_all {V} answer keys v all t m place d bytes there = get_or-replicate 2048 place v d (place_within keys t m place there) ∙ sym (all t m)
