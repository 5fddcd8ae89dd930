-- What a pass over the keys of a map finds is what the book's line says.
use Rattle.std.proofs.Common.{◌≡◌, ℕ, ◌&&◌, Bool, true, false, cond, List, [], ◌∷◌, Option, Some, None, bytes_eq, filter, map, nat_le, not, refl, ap, sym, ◌∙◌}
use Rattle.std.specs.FinMap as finite
use Rattle.std.specs.List.{last_or}
use Rattle.sender_segments.specs.Ways.{numbers_up_to}
use Rattle.society_core.specs.Book.{Book, Ends, ends_among, ends_of, front, held, is_in_line, is_one_of, line, numbers_led_through, numbers_of, numbers_to}
use Rattle.society_core.specs.Ends.{is_past, last_number_of, number_past}
use Rattle.society_core.specs.PlainLines.{numbers_passing}
use Rattle.society_core.specs.declared.transmission_key.TransmissionKey.{TransmissionKey}
use Rattle.society_core.proofs.lemmas.LineNumbers.{in_line_is}
use Rattle.society_core.proofs.lemmas.NumbersThere.{chosen_twice, is_of}

-- tests that agree let the same pass
filter_same : (p q : ℕ → Bool) → ((n : ℕ) → p n ≡ q n) → (ns : List ℕ) → filter p ns ≡ filter q ns
filter_same p q same [] = refl
filter_same p q same (n ∷ ns) = ap (λ (b : Bool). cond b (n ∷ filter p ns) (filter p ns)) (same n) ∙ ap (λ (l : List ℕ). cond (q n) (n ∷ l) l) (filter_same p q same ns)

-- two tests at once, or one behind the other
filter_twice : (p q : ℕ → Bool) (ns : List ℕ) → filter (λ n. p n && q n) ns ≡ filter q (filter p ns)
filter_twice p q [] = refl
filter_twice p q (n ∷ ns) = by_case (p n) (filter_twice p q ns)
  where
    once : List ℕ
    once = filter (λ m. p m && q m) ns

    by_case : (b : Bool) → once ≡ filter q (filter p ns) → cond (b && q n) (n ∷ once) once ≡ filter q (cond b (n ∷ filter p ns) (filter p ns))
    by_case true same = ap (λ (l : List ℕ). cond (q n) (n ∷ l) l) same
    by_case false same = same

-- the numbers that ends which are a sender's lead through
pub led_by : (b : Book) (s : List ℕ) (ends : Ends) (t : List ℕ) (f : ℕ) → ends ≡ b.ends → t ≡ s → f ≡ front b s → numbers_up_to (ends_among ends t) f ≡ numbers_led_through b s
led_by b s ends t f stated sender is =
    ap (λ (es : Ends). numbers_up_to (ends_among es t) f) stated
    ∙ ap (λ (q : List ℕ). numbers_up_to (ends_among b.ends q) f) sender
    ∙ ap (λ (n : ℕ). numbers_up_to (ends_of b s) n) is

module _ (b : Book) (s : List ℕ) (led : List ℕ) (is : led ≡ numbers_led_through b s) where
  -- a number is in the line where it is one of them
  pub in_line_by : (n : ℕ) → is_one_of led n ≡ is_in_line b s n
  in_line_by n = ap (λ (ns : List ℕ). is_one_of ns n) is ∙ sym (in_line_is b s n)

  module _ (keys : List TransmissionKey) (are : finite.keys b.transmissions ≡ keys) where
    -- the numbers that are held
    pub held_by_keys : map (λ k. k.number) (filter (λ k. bytes_eq k.sender s && not (is_one_of led k.number)) keys) ≡ held b s
    held_by_keys =
        chosen_twice s (λ n. not (is_one_of led n)) keys
        ∙ ap (λ (ks : List TransmissionKey). filter (λ n. not (is_one_of led n)) (map (λ k. k.number) (filter (is_of s) ks))) (sym are)
        ∙ filter_same (λ n. not (is_one_of led n)) (λ n. not (is_in_line b s n)) (λ n. ap not (in_line_by n)) (numbers_of b s)

    -- the numbers of the line up to one
    pub to_by_keys : (last : ℕ) → map (λ k. k.number) (filter (λ k. bytes_eq k.sender s && (is_one_of led k.number && nat_le k.number last)) keys) ≡ numbers_to b s last
    unfolding line
    to_by_keys last =
        chosen_twice s (λ n. is_one_of led n && nat_le n last) keys
        ∙ ap (λ (ks : List TransmissionKey). filter (λ n. is_one_of led n && nat_le n last) (map (λ k. k.number) (filter (is_of s) ks))) (sym are)
        ∙ filter_twice (is_one_of led) (λ n. nat_le n last) (numbers_of b s)
        ∙ ap (λ (ns : List ℕ). filter (λ m. nat_le m last) (filter (is_one_of ns) (numbers_of b s))) is

-- the greatest number above the last of a segment
pub past_by_keys : (b : Book) (s : List ℕ) (g last : ℕ) (keys : List TransmissionKey) → finite.keys b.transmissions ≡ keys
    → last_number_of (map (λ k. k.number) (filter (λ k. bytes_eq k.sender s && is_past g last k.number) keys)) ≡ number_past b s g last
past_by_keys b s g last keys are =
    ap last_number_of
    (chosen_twice s (is_past g last) keys
    ∙ ap (λ (ks : List TransmissionKey). filter (is_past g last) (map (λ k. k.number) (filter (is_of s) ks))) (sym are))

-- whether a key is of a sender and of a number above the last of a segment
abbrev pub is_key_past : List ℕ → ℕ → ℕ → TransmissionKey → Bool
is_key_past s g last k = bytes_eq k.sender s && is_past g last k.number

-- the last of them, found key by key
pub last_next : (passes : TransmissionKey → Bool) (so_far : Option ℕ) (left rest : List TransmissionKey) (k : TransmissionKey) (b : Bool) → left ≡ k ∷ rest → passes k ≡ b
    → last_or (cond b (Some k.number) so_far) (numbers_passing passes rest) ≡ last_or so_far (numbers_passing passes left)
last_next passes so_far left rest k b next is = by_test b ∙ sym (ap (λ (ks : List TransmissionKey). last_or so_far (numbers_passing passes ks)) next ∙ ap (λ (t : Bool). last_or so_far (map (λ j. j.number) (cond t (k ∷ filter passes rest) (filter passes rest)))) is)
  where
    by_test : (t : Bool) → last_or (cond t (Some k.number) so_far) (numbers_passing passes rest) ≡ last_or so_far (map (λ j. j.number) (cond t (k ∷ filter passes rest) (filter passes rest)))
    by_test true = refl
    by_test false = refl

pub last_is : (ns : List ℕ) → last_or None ns ≡ last_number_of ns
last_is [] = refl
last_is (n ∷ ns) = behind n ns
  where
    behind : (m : ℕ) (ms : List ℕ) → last_or (Some m) ms ≡ last_number_of (m ∷ ms)
    behind m [] = refl
    behind m (k ∷ ms) = behind k ms
