-- Worked values of the book's numbers and of what a put is answered.
use Rattle.std.specs.Prelude.{ℕ, ◌≡◌, false, true, [], ◌∷◌, Some, None, filter, nat_le, refl, codes}
use Rattle.std.proofs.Common.{Less, Greater}
use Rattle.sender_segments.specs.Ways.{greatest_passing, numbers_up_to}
use Rattle.share_rules.specs.declared.office.Office.{Office}
use Rattle.work_ids.specs.declared.segment.Segment.TheVariants.{Year}
use Rattle.work_ids.specs.declared.segment_end.SegmentFault.TheVariants as segment_faults
use Rattle.society_core.specs.Answers.{answer, arrival_at, known_by, place_by, put_answer, shown_answer}
use Rattle.society_core.specs.Book.{empty_book, greatest_of, is_one_of}
use Rattle.society_core.specs.Ends.{is_past, last_below, last_number_of}
use Rattle.society_core.specs.Orders.{order_fault}
use Rattle.society_core.specs.Owners.{sole}
use Rattle.society_core.specs.Requests.{Refused, States}
use Rattle.society_core.specs.declared.order_fault.OrderFault.TheVariants.{NamedTwice, OutOfRange}
use Rattle.society_core.specs.declared.refusal.Refusal.TheVariants.{End, Reused, Unknown}
use Rattle.society_core.specs.declared.end_fault.EndFault.TheVariants.{Numbers}
use Rattle.society_core.specs.Keys.{transmission_cmp, transmission_key}
use Rattle.society_core.specs.declared.answers.Standing.TheVariants.{Applied, Held}
use Rattle.society_core.specs.declared.store.Known.TheVariants.{Absent, Other, Same}

-- the greatest number that passes
up_to_three : greatest_passing 5 (λ n. nat_le n 3) ≡ 3
up_to_three = refl

none_passes : greatest_passing 5 (λ n. nat_le 9 n) ≡ 0
none_passes = refl

-- the numbers of a sender that stated nothing begin with 1
line_to_three : numbers_up_to (λ _. None) 3 ≡ 1 ∷ 2 ∷ 3 ∷ []
line_to_three = refl

last_of_it : is_one_of (numbers_up_to (λ _. None) 3) 3 ≡ true
last_of_it = refl

none_before : is_one_of (numbers_up_to (λ _. None) 3) 0 ≡ false
none_before = refl

-- what is applied, and what is held
in_the_line : arrival_at false (place_by 3 true) ≡ record { known = false; front = 3; standing = Applied }
in_the_line = refl

not_in_the_line : arrival_at false (place_by 3 false) ≡ record { known = false; front = 3; standing = Held }
not_in_the_line = refl

-- the end of a segment, above which a number is
above_the_end : last_below 2 (Some (record { last = 1; next = 27 })) ≡ Some 1
above_the_end = refl

at_the_end : last_below 1 (Some (record { last = 1; next = 27 })) ≡ None
at_the_end = refl

-- the numbers of a year above a last one
past_one : last_number_of (filter (is_past 27 1) (1 ∷ 1260001 ∷ 1260002 ∷ 1270009 ∷ [])) ≡ Some 1260002
past_one = refl

-- what is stated at fault: a next year that is not later, and a last number that no year has
not_later : (office : Office) → answer office empty_book (States (codes "PB000000012") (record { segment = Year 26; last = 3; next = 26 })) ≡ Refused (End (Numbers segment_faults.NotLater))
not_later office = refl

past_a_year : (office : Office) → answer office empty_book (States (codes "PB000000012") (record { segment = Year 26; last = 10000; next = 27 })) ≡ Refused (End (Numbers segment_faults.OutOfRange))
past_a_year office = refl

-- what is under a number
nothing_there : known_by (codes "A") None ≡ Absent
nothing_there = refl

the_same : known_by (codes "A") (Some (codes "A")) ≡ Same
the_same = refl

another : known_by (codes "A") (Some (codes "B")) ≡ Other
another = refl

-- other bytes under a number are answered as reused
reused : put_answer empty_book (codes "PB000000012") 3 (codes "B") Other ≡ Refused Reused
reused = refl

-- what is not there is unknown
not_there : shown_answer None ≡ Refused Unknown
not_there = refl

-- the greatest number of some keys, whoever sent them
greatest : greatest_of (transmission_key (codes "PB000000012") 3 ∷ transmission_key (codes "PB000000034") 7 ∷ transmission_key (codes "PB000000012") 1 ∷ []) ≡ 7
greatest = refl

-- keys are in the order of senders, and then of numbers
by_number : transmission_cmp (transmission_key (codes "PB000000012") 9) (transmission_key (codes "PB000000012") 10) ≡ Less
by_number = refl

by_sender : transmission_cmp (transmission_key (codes "PB000000034") 1) (transmission_key (codes "PB000000012") 2) ≡ Greater
by_sender = refl

-- numbers of an order: an amount past the limit goes before a sender named twice
out_of_range : order_fault 1000000000001 ((codes "PB000000012", 1) ∷ (codes "PB000000012", 2) ∷ []) [] ≡ Some OutOfRange
out_of_range = refl

twice : order_fault 5 ((codes "PB000000012", 1) ∷ (codes "PB000000012", 2) ∷ []) [] ≡ Some NamedTwice
twice = refl

named_twice : order_fault 5 [] ((codes "RADIO1", 1) ∷ (codes "RADIO2", 1) ∷ (codes "RADIO1", 1) ∷ []) ≡ Some NamedTwice
named_twice = refl

cut_of_nothing : order_fault 5 ((codes "PB000000012", 0) ∷ []) [] ≡ Some OutOfRange
cut_of_nothing = refl

-- a number of a year may stand in a cut, and a year's 0 not
dated_cut : order_fault 5 ((codes "PB000000012", 1260001) ∷ []) [] ≡ None
dated_cut = refl

cut_of_a_base : order_fault 5 ((codes "PB000000012", 1260000) ∷ []) [] ≡ Some OutOfRange
cut_of_a_base = refl

past_all_years : order_fault 5 ((codes "PB000000012", 2000001) ∷ []) [] ≡ Some OutOfRange
past_all_years = refl

an_order : order_fault 1000000000000 ((codes "PB000000012", 999999) ∷ []) ((codes "RADIO1", 1) ∷ (codes "RADIO1", 2) ∷ []) ≡ None
an_order = refl

-- an owner is there only where it is the only one
lone : sole {X = ℕ} (3 ∷ []) ≡ Some 3
lone = refl

contested : sole {X = ℕ} (3 ∷ 4 ∷ []) ≡ None
contested = refl
