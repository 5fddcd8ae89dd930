-- Worked books of a sender that goes over from plain numbers to those of a year: its front, its line, and what is held.
use Rattle.std.specs.Prelude.{codes}
use Rattle.std.proofs.Common.{◌≡◌, ◌&&◌, ◌<◌, ◌≤◌, ℕ, zero, suc, Bool, true, false, cond, List, [], ◌∷◌, Option, Some, None, bytes_eq, filter, is_some, map, not, refl, ap, ap₂, sym, subst, ◌∙◌, arith}
use Rattle.std.specs.FinMap as finite
use Rattle.std.specs.List.Sorted.{IsStrictlySortedBy}
use Rattle.std.specs.Ordering.{is_eq, nat_cmp}
use Rattle.std.specs.declared.cmp.Ordering.{Ordering}
use Rattle.std.specs.declared.cmp.Ordering.TheVariants.{Greater}
use Rattle.std.proofs.lemmas.Bool.Decides.{nat_tests}
use Rattle.sender_segments.specs.Ways.{AreRight, End, IsGap, StatedEnds, is_reached, numbers_up_to}
use Rattle.work_ids.specs.Segments.{most_in}
use Rattle.society_core.specs.Answers.{place_in_book, place_by}
use Rattle.society_core.specs.Book.{Book, ends_among, front, held, is_among, is_one_of, numbers_led_through}
use Rattle.society_core.specs.Ends.{end_known_as, end_known_by, ended_before, last_below, number_past}
use Rattle.society_core.specs.Keys.{segment_cmp, segment_key, transmission_cmp, transmission_key}
use Rattle.society_core.specs.declared.segment_key.SegmentKey.{SegmentKey}
use Rattle.society_core.specs.declared.store.Known.TheVariants.{Other, Same}
use Rattle.society_core.specs.declared.transmission_key.TransmissionKey.{TransmissionKey}
use Rattle.society_core.proofs.lemmas.Fronts.{front_only}
use Rattle.society_core.proofs.lemmas.KeyOrders.{exact_transmissions, segments_total, transmissions_total}
use Rattle.society_core.proofs.lemmas.KeysOfMaps.{entries_in_order}
use Rattle.society_core.proofs.lemmas.LineKeys.{held_by_keys, in_line_by, past_by_keys}

abbrev sender : List ℕ
sender = codes "PB000000012"

-- the body under a number of the sender
abbrev sent : ℕ → TransmissionKey × List ℕ
sent n = (transmission_key sender n, codes "A")

-- the book of some bodies and ends
abbrev book_of : List (TransmissionKey × List ℕ) → List (SegmentKey × End) → Book
book_of bodies ends = record { transmissions = finite.from_entries bodies; ends = finite.from_entries ends; returns = finite.empty; pools = finite.empty }

-- whether a number of the sender is among some bodies
abbrev has : List (TransmissionKey × List ℕ) → ℕ → Bool
has bodies n = is_some (finite.find transmission_cmp (transmission_key sender n) bodies)

-- what a book of two lists is known by: its ends, and a number that is reached and at which there is a gap
record IsKnown (bodies : List (TransmissionKey × List ℕ)) (stated : List (SegmentKey × End)) (ends : StatedEnds) (n : ℕ) : Type 0 where
  same : (g : ℕ) → finite.find segment_cmp (segment_key sender g) stated ≡ ends g
  right : AreRight ends
  reached : is_reached (has bodies) ends n ≡ true
  gap : IsGap (has bodies) ends n
  sorted : IsStrictlySortedBy transmission_cmp (map (λ e. e.0) bodies)

module _ (bodies : List (TransmissionKey × List ℕ)) (stated : List (SegmentKey × End)) (ends : StatedEnds) (n : ℕ) (known : IsKnown bodies stated ends n) where
  there_are : is_among (finite.from_entries bodies) sender ≡ has bodies
  there_are = λ i k. is_some (finite.get-from_entries transmissions_total bodies (transmission_key sender k) i)

  ends_are : ends_among (finite.from_entries stated) sender ≡ ends
  ends_are = λ i g. (finite.get-from_entries segments_total stated (segment_key sender g) ∙ known.same g) i

  front_is : front (book_of bodies stated) sender ≡ n
  front_is =
      sym (front_only (finite.from_entries bodies) (finite.from_entries stated) sender (subst AreRight (sym ends_are) known.right) n
      (ap₂ (λ (there : ℕ → Bool) (es : StatedEnds). is_reached there es n) there_are ends_are ∙ known.reached)
      (subst (λ (es : StatedEnds). IsGap (is_among (finite.from_entries bodies) sender) es n) (sym ends_are)
      (subst (λ (there : ℕ → Bool). IsGap there ends n) (sym there_are) known.gap)))

  led_is : numbers_up_to ends n ≡ numbers_led_through (book_of bodies stated) sender
  led_is = sym (ap₂ numbers_up_to ends_are front_is)

  keys_are : finite.keys (book_of bodies stated).transmissions ≡ map (λ e. e.0) bodies
  keys_are = ap (map (λ (e : TransmissionKey × List ℕ). e.0)) (entries_in_order transmissions_total exact_transmissions bodies known.sorted)

  -- where a number stands
  place_is : (k : ℕ) → place_in_book (book_of bodies stated) sender k ≡ place_by n (is_one_of (numbers_up_to ends n) k)
  place_is k = ap₂ place_by front_is (sym (in_line_by (book_of bodies stated) sender (numbers_up_to ends n) led_is k))

  -- what is held
  held_is : held (book_of bodies stated) sender ≡ map (λ k. k.number) (filter (λ k. bytes_eq k.sender sender && not (is_one_of (numbers_up_to ends n) k.number)) (map (λ e. e.0) bodies))
  held_is = sym (held_by_keys (book_of bodies stated) sender (numbers_up_to ends n) led_is (map (λ e. e.0) bodies) keys_are)

-- nothing is stated, or that plain numbers end with one and 26 comes next
no_ends : StatedEnds
no_ends g = None

abbrev plain_end : ℕ → StatedEnds
plain_end last zero = Some (record { last = last; next = 27 })
plain_end last (suc g) = None

abbrev stated : ℕ → List (SegmentKey × End)
stated last = (segment_key sender 0, record { last = last; next = 27 }) ∷ []

none_is : (e : End) → ◌≡◌ {A = Option End} None (Some e) → ⊥
none_is e h = cc

same_plain : (last g : ℕ) → finite.find segment_cmp (segment_key sender g) (stated last) ≡ plain_end last g
same_plain last zero = refl
same_plain last (suc g) = ap (λ (r : Ordering). cond (is_eq r) (Some (record { last = last; next = 27 })) None) (above g)
  where
    above : (k : ℕ) → nat_cmp (suc k) 0 ≡ Greater
    above k = grind (arith, nat_tests)

one_end : (x y : End) → Some x ≡ Some y → x ≡ y
one_end x y h = cc

right_plain : (last : ℕ) → last ≤ 999999 → AreRight (plain_end last)
right_plain last fits = record { within = within; later = later }
  where
    stated_end : End
    stated_end = record { last = last; next = 27 }

    within : (g : ℕ) (e : End) → plain_end last g ≡ Some e → e.last ≤ most_in g
    within zero e is = let same : last ≡ e.last = ap (λ (x : End). x.last) (one_end (record { last = last; next = 27 }) e is) in omega (arith, same, fits)
    within (suc g) e is = absurd (none_is e is)

    later : (g : ℕ) (e : End) → plain_end last g ≡ Some e → g < e.next
    later zero e is = let same : 27 ≡ e.next = ap (λ (x : End). x.next) (one_end (record { last = last; next = 27 }) e is) in omega (arith, same)
    later (suc g) e is = absurd (none_is e is)

-- a file under 1 and one under 26-0001, and nothing stated: 26-0001 waits behind the front 1
abbrev two : List (TransmissionKey × List ℕ)
two = sent 1 ∷ sent 1260001 ∷ []

unstated : IsKnown two [] no_ends 1
unfolding IsStrictlySortedBy no_ends
unstated = record {
  same = λ g. refl;
  right = record { within = λ g e is. absurd (none_is e is); later = λ g e is. absurd (none_is e is) };
  reached = refl;
  gap = record { missing = refl; before_end = λ e is. absurd (none_is e is) };
  sorted = ((refl, tt), (tt, tt));
}

waits : place_in_book (book_of two []) sender 1260001 ≡ place_by 1 false
waits = place_is two [] no_ends 1 unstated 1260001

held_before : held (book_of two []) sender ≡ 1260001 ∷ []
held_before = held_is two [] no_ends 1 unstated

-- with the end stated, 26-0001 is the front, and nothing is held
led_on : IsKnown two (stated 1) (plain_end 1) 1260001
unfolding IsStrictlySortedBy
led_on = record {
  same = same_plain 1;
  right = right_plain 1 (omega arith);
  reached = refl;
  gap = record { missing = refl; before_end = λ e is. absurd (none_is e is) };
  sorted = ((refl, tt), (tt, tt));
}

applied : place_in_book (book_of two (stated 1)) sender 1260001 ≡ place_by 1260001 true
applied = place_is two (stated 1) (plain_end 1) 1260001 led_on 1260001

none_held : held (book_of two (stated 1)) sender ≡ []
none_held = held_is two (stated 1) (plain_end 1) 1260001 led_on

-- the same end is known, another one is another, and a file under 2 is above it
known_again : end_known_as (book_of two (stated 1)) sender 0 (record { last = 1; next = 27 }) ≡ Same
known_again = ap (λ (es : StatedEnds). end_known_by (record { last = 1; next = 27 }) (es 0)) (ends_are two (stated 1) (plain_end 1) 1260001 led_on)

another_end : end_known_as (book_of two (stated 1)) sender 0 (record { last = 2; next = 27 }) ≡ Other
another_end = ap (λ (es : StatedEnds). end_known_by (record { last = 2; next = 27 }) (es 0)) (ends_are two (stated 1) (plain_end 1) 1260001 led_on)

above_it : ended_before (book_of two (stated 1)) sender 2 ≡ Some 1
above_it = ap (λ (es : StatedEnds). last_below 2 (es 0)) (ends_are two (stated 1) (plain_end 1) 1260001 led_on)

-- where the statement came first, the front is 0 until 1 has come
first_stated : IsKnown [] (stated 1) (plain_end 1) 0
unfolding IsStrictlySortedBy
first_stated = record {
  same = same_plain 1;
  right = right_plain 1 (omega arith);
  reached = refl;
  gap = record { missing = refl; before_end = λ e is. let same : 1 ≡ e.last = ap (λ (x : End). x.last) (one_end (record { last = 1; next = 27 }) e is) in omega (arith, same) };
  sorted = tt;
}

front_of_none : front (book_of [] (stated 1)) sender ≡ 0
front_of_none = front_is [] (stated 1) (plain_end 1) 0 first_stated

-- plain numbers that end before the first lead at once to 26, of which nothing is there
none_plain : IsKnown [] (stated 0) (plain_end 0) 1260000
unfolding IsStrictlySortedBy
none_plain = record {
  same = same_plain 0;
  right = right_plain 0 (omega arith);
  reached = refl;
  gap = record { missing = refl; before_end = λ e is. absurd (none_is e is) };
  sorted = tt;
}

year_begun : front (book_of [] (stated 0)) sender ≡ 1260000
year_begun = front_is [] (stated 0) (plain_end 0) 1260000 none_plain

-- a file under 2 stands against an end with last number 1
abbrev second : List (TransmissionKey × List ℕ)
second = sent 2 ∷ []

second_alone : IsKnown second [] no_ends 0
unfolding IsStrictlySortedBy no_ends
second_alone = record {
  same = λ g. refl;
  right = record { within = λ g e is. absurd (none_is e is); later = λ g e is. absurd (none_is e is) };
  reached = refl;
  gap = record { missing = refl; before_end = λ e is. absurd (none_is e is) };
  sorted = (tt, tt);
}

past_the_end : number_past (book_of second []) sender 0 1 ≡ Some 2
past_the_end = sym (past_by_keys (book_of second []) sender 0 1 (map (λ e. e.0) second) (keys_are second [] no_ends 0 second_alone))

-- a file of a year that no end leads to waits behind a front that is greater
abbrev skipped : List (TransmissionKey × List ℕ)
skipped = sent 1 ∷ sent 1250001 ∷ sent 1260001 ∷ []

led_past : IsKnown skipped (stated 1) (plain_end 1) 1260001
unfolding IsStrictlySortedBy
led_past = record {
  same = same_plain 1;
  right = right_plain 1 (omega arith);
  reached = refl;
  gap = record { missing = refl; before_end = λ e is. absurd (none_is e is) };
  sorted = ((refl, (refl, tt)), ((refl, tt), (tt, tt)));
}

skipped_waits : place_in_book (book_of skipped (stated 1)) sender 1250001 ≡ place_by 1260001 false
skipped_waits = place_is skipped (stated 1) (plain_end 1) 1260001 led_past 1250001

skipped_held : held (book_of skipped (stated 1)) sender ≡ 1250001 ∷ []
skipped_held = held_is skipped (stated 1) (plain_end 1) 1260001 led_past
