-- Worked values: bodies byte for byte, and what bodies that close a pool ask.
use Rattle.std.specs.Prelude.{◌≡◌, ℕ, List, [], ◌∷◌, ◌++◌, Some, None, option_and_then, refl, codes}
use Rattle.std.specs.Fmt.{digits}
use Rattle.csv.specs.Writing.{escaped, fields_text, is_blank}
use Rattle.percent_encoding.specs.Percent.{percent_encode_byte}
use Rattle.serde_json.proofs.OnLiterals.{serde_json_on_literals}
use Rattle.serde_json.specs.Read.{read}
use Rattle.share_rules.specs.declared.kind.Kind.{Kind}
use Rattle.share_rules.specs.declared.kind.Kind.TheVariants.{Performing, Mechanical}
use Rattle.work_ids.specs.Digits.{last_digits}
use Rattle.work_ids.specs.SpelledNumber.{dated_in_text, is_dated_text}
use Rattle.work_ids.specs.declared.account.Account.TheVariants.{Party, Unclaimed}
use Rattle.work_ids.specs.declared.segment.Segment.{Segment}
use Rattle.work_ids.specs.declared.segment.Segment.TheVariants.{Plain, Year}
use Rattle.work_ids.specs.declared.segment_end.SegmentFault.TheVariants as faults
use Rattle.works_core.specs.declared.verdict.Verdict.TheVariants.{Accepted, Rejected}
use Rattle.society_core.specs.Orders.{order_of}
use Rattle.society_core.specs.Requests.{Query, Closes, ClosesFaulty, States, StatesFaulty}
use Rattle.society_core.specs.declared.end_fault.EndFault.TheVariants as ends
use Rattle.society_core.specs.declared.order_fault.OrderFault.TheVariants.{NamedTwice, OutOfRange, Shape}
use Rattle.http_text.specs.EndText.{end_numbers_in, state_asked}
use Rattle.http_text.specs.Json.{balance_json_text, number_json, sender_json_text, title_text, verdicts_json_text}
use Rattle.http_text.specs.OrderText.{close_asked, order_in}
use Rattle.http_text.specs.Table.{table_text}

two_held : sender_json_text 0 (2 ∷ 3 ∷ []) ≡ codes "{\"front\":0,\"held\":[2,3]}"
unfolding sender_json_text number_json serde_json_on_literals digits
two_held = refl

held_of_a_year : sender_json_text 1 (1260001 ∷ []) ≡ codes "{\"front\":1,\"held\":[\"26-0001\"]}"
unfolding sender_json_text number_json serde_json_on_literals digits last_digits
held_of_a_year = refl

at_a_year_with_nothing : sender_json_text 1260000 [] ≡ codes "{\"front\":\"26-0000\",\"held\":[]}"
unfolding sender_json_text number_json serde_json_on_literals digits last_digits
at_a_year_with_nothing = refl

nobody : sender_json_text 0 [] ≡ codes "{\"front\":0,\"held\":[]}"
unfolding sender_json_text number_json serde_json_on_literals digits
nobody = refl

two_verdicts : verdicts_json_text (Accepted 1 0 ∷ Rejected 5 ∷ []) ≡ codes "[{\"ordinal\":1,\"revision\":0},{\"fault\":5}]"
unfolding verdicts_json_text serde_json_on_literals digits
two_verdicts = refl

-- a party's number that has a quotation mark and a backslash
escaped_account : balance_json_text (Party (codes "PB000000012") (codes "a\"b\\     ")) 0 ≡ codes "{\"account\":\"PPB000000012a\\\"b\\\\\",\"units\":0}"
unfolding balance_json_text serde_json_on_literals digits
escaped_account = refl

escaped_title : title_text (195 ∷ 137 ∷ 84 ∷ 37 ∷ []) ≡ codes "%C3%89T%25"
unfolding percent_encode_byte
escaped_title = refl

unowned : table_text (record { isrc = None; account = Unclaimed; units = 5 } ∷ []) ≡ codes "isrc,account,units\n-,UNCLAIMED,5\n"
unfolding table_text fields_text escaped is_blank digits
unowned = refl

-- a party's number that has a comma and a quotation mark
quoted_account : table_text (record { isrc = Some (codes "ATABC2600001"); account = Party (codes "PB000000012") (codes "a,\"      "); units = 0 } ∷ []) ≡ codes "isrc,account,units\nATABC2600001,\"PPB000000012a,\"\"\",0\n"
unfolding table_text fields_text escaped is_blank digits
quoted_account = refl

-- what a text of ASCII asks of pool 7
abbrev close_of : List ℕ → Query
close_of text = close_asked 7 (order_in (read text))

an_array : close_of (codes "[]") ≡ ClosesFaulty Shape
unfolding serde_json_on_literals
an_array = refl

another_member : close_of (codes "{\"amount\":1,\"cut\":[],\"returns\":[],\"note\":0}") ≡ ClosesFaulty Shape
unfolding serde_json_on_literals
another_member = refl

-- what a close of pool 7 with these members before an amount of 1, no cut and no returns asks
abbrev close_with : List ℕ → Query
close_with members = close_of (codes "{" ++ members ++ codes "\"amount\":1,\"cut\":[],\"returns\":[]}")

-- what the close of pool 7 by an order of this kind over nothing asks
abbrev closes_nothing : Kind → Query
closes_nothing kind = Closes 7 (order_of kind 1 [] [])

kind_not_named : close_with [] ≡ closes_nothing Performing
unfolding serde_json_on_literals
kind_not_named = refl

kind_of_performance : close_with (codes "\"kind\":\"PR\",") ≡ closes_nothing Performing
unfolding serde_json_on_literals
kind_of_performance = refl

kind_of_reproduction : close_with (codes "\"kind\":\"MR\",") ≡ closes_nothing Mechanical
unfolding serde_json_on_literals
kind_of_reproduction = refl

-- of two members with one key the last counts
kind_named_twice : close_with (codes "\"kind\":\"PR\",\"kind\":\"MR\",") ≡ closes_nothing Mechanical
unfolding serde_json_on_literals
kind_named_twice = refl

kind_of_another_right : close_with (codes "\"kind\":\"XR\",") ≡ ClosesFaulty Shape
unfolding serde_json_on_literals
kind_of_another_right = refl

kind_in_small_letters : close_with (codes "\"kind\":\"pr\",") ≡ ClosesFaulty Shape
unfolding serde_json_on_literals
kind_in_small_letters = refl

kind_as_a_number : close_with (codes "\"kind\":1,") ≡ ClosesFaulty Shape
unfolding serde_json_on_literals
kind_as_a_number = refl

kind_null : close_with (codes "\"kind\":null,") ≡ ClosesFaulty Shape
unfolding serde_json_on_literals
kind_null = refl

another_member_beside_the_kind : close_with (codes "\"kind\":\"MR\",\"note\":0,") ≡ ClosesFaulty Shape
unfolding serde_json_on_literals
another_member_beside_the_kind = refl

-- four members, of which the kind is one and an amount is none
kind_for_an_amount : close_of (codes "{\"kind\":\"MR\",\"note\":1,\"cut\":[],\"returns\":[]}") ≡ ClosesFaulty Shape
unfolding serde_json_on_literals
kind_for_an_amount = refl

amount_over_the_limit : close_of (codes "{\"amount\":1000000000001,\"cut\":[],\"returns\":[]}") ≡ ClosesFaulty OutOfRange
unfolding serde_json_on_literals
amount_over_the_limit = refl

return_named_twice : close_of (codes "{\"amount\":1,\"cut\":[],\"returns\":[[\"R\",1],[\"R\",1]]}") ≡ ClosesFaulty NamedTwice
unfolding serde_json_on_literals
return_named_twice = refl

-- what a close of pool 7 with this number in its cut asks
abbrev close_at : List ℕ → Query
close_at number = close_of (codes "{\"amount\":1,\"cut\":[[\"PB000000012\"," ++ number ++ codes "]],\"returns\":[]}")

cut_at_a_year : close_at (codes "\"26-0001\"") ≡ Closes 7 (order_of Performing 1 ((codes "PB000000012", 1260001) ∷ []) [])
unfolding serde_json_on_literals dated_in_text is_dated_text
cut_at_a_year = refl

cut_at_none_of_a_year : close_at (codes "\"26-0000\"") ≡ ClosesFaulty OutOfRange
unfolding serde_json_on_literals dated_in_text is_dated_text
cut_at_none_of_a_year = refl

cut_above_the_plain_numbers : close_at (codes "1260001") ≡ ClosesFaulty OutOfRange
unfolding serde_json_on_literals dated_in_text is_dated_text
cut_above_the_plain_numbers = refl

cut_at_another_text : close_at (codes "\"26-1\"") ≡ ClosesFaulty Shape
unfolding serde_json_on_literals dated_in_text is_dated_text
cut_at_another_text = refl

-- what a text of ASCII asks of a segment of a sender
abbrev state_of : Segment → List ℕ → Query
state_of segment text = state_asked (codes "PB000000012") segment (option_and_then end_numbers_in (read text))

plain_end : state_of Plain (codes "{\"last\":1,\"next\":26}") ≡ States (codes "PB000000012") (record { segment = Plain; last = 1; next = 26 })
unfolding serde_json_on_literals
plain_end = refl

one_more_member : state_of Plain (codes "{\"last\":1,\"next\":26,\"kind\":0}") ≡ StatesFaulty ends.Shape
unfolding serde_json_on_literals
one_more_member = refl

next_as_a_text : state_of Plain (codes "{\"last\":1,\"next\":\"26\"}") ≡ StatesFaulty ends.Shape
unfolding serde_json_on_literals
next_as_a_text = refl

last_over_the_greatest : state_of (Year 26) (codes "{\"last\":10000,\"next\":26}") ≡ StatesFaulty (ends.Numbers faults.OutOfRange)
unfolding serde_json_on_literals
last_over_the_greatest = refl

next_the_same_year : state_of (Year 26) (codes "{\"last\":3,\"next\":26}") ≡ StatesFaulty (ends.Numbers faults.NotLater)
unfolding serde_json_on_literals
next_the_same_year = refl
