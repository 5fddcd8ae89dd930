-- The book: what has been accepted, as finite maps that know no order of arrival.
use Rattle.std.specs.Prelude.{ℕ, Bool, true, false, List, [], ◌∷◌, ◌≡◌, ◌&&◌, ◌==◌, Option, Some, None, is_some, is_none, not, Result, Ok, Err, map, max, nat_le, nat_lt, unwrap_or, if◌then◌else◌, bytes_eq}
use Rattle.std.specs.FinMap as finite
use Rattle.std.specs.List.{filter, list_all, list_any, slice_get}
use Rattle.std.specs.Ordering.{nat_cmp}
use Rattle.cwr_files.specs.Contents.{transmission_in, transactions_of}
use Rattle.cwr_files.specs.FileFault.{file_fault}
use Rattle.cwr_files.specs.declared.transmission.Transaction.{Transaction}
use Rattle.perf_returns.specs.Returns.{return_fault}
use Rattle.share_rules.specs.declared.office.Office.{Office}
use Rattle.work_ids.specs.Blanks.{without_trailing_blanks}
use Rattle.work_ids.specs.Numbers.{is_pool_number, is_return_number}
use Rattle.work_ids.specs.Segments.{base_of, is_transmission_number, most_in}
use Rattle.work_ids.specs.Reporter.{reporter_of}
use Rattle.work_ids.specs.SenderKey.{is_sender_key}
use Rattle.work_ids.specs.declared.fault.IdFault.{IdFault}
use Rattle.works_core.specs.declared.verdict.Verdict.{Verdict}
use Rattle.works_core.specs.Line.{NumberedTransmission, line_of, verdicts_at}
use Rattle.works_core.specs.Versions.{work_at}
use Rattle.works_core.specs.declared.version.WorkVersion.{WorkVersion}
use Rattle.ack_files.specs.Acknowledgement.{acknowledgement_file}
use Rattle.sender_segments.specs.Ways.{AreRight, End, IsWithinEnd, LeadToYears, StatedEnds, greatest_passing, is_reached, numbers_up_to}
use Rattle.society_core.specs.Keys.{return_cmp, segment_cmp, segment_key, transmission_cmp, transmission_key}
use Rattle.society_core.specs.Orders.{IsOrder, Order, names_return}
use Rattle.society_core.specs.declared.return_key.ReturnKey.{ReturnKey}
use Rattle.society_core.specs.declared.transmission_key.TransmissionKey.{TransmissionKey}

-- bodies of transmissions by sender and number
abbrev pub Transmissions : Type 0
Transmissions = finite.FinMap transmission_cmp (List ℕ)

-- ends of segments by sender and the place of the segment
abbrev pub Ends : Type 0
Ends = finite.FinMap segment_cmp End

-- what was accepted: of a sender and a number the body of a transmission, of a sender and a segment its end, of a reporter and a number the body of a return, of a pool its order
pub record Book : Type 0 where
  pub transmissions : Transmissions
  pub ends : Ends
  pub returns : finite.FinMap return_cmp (List ℕ)
  pub pools : finite.FinMap nat_cmp Order

-- the book of an office to which nothing has come
abbrev pub empty_book : Book
empty_book = record { transmissions = finite.empty; ends = finite.empty; returns = finite.empty; pools = finite.empty }

-- the body of a sender's transmission, if it is there
abbrev pub body_at : Book → List ℕ → ℕ → Option (List ℕ)
body_at book sender number = finite.get book.transmissions (transmission_key sender number)

-- whether a sender's transmission is there
abbrev pub is_there : Book → List ℕ → ℕ → Bool
is_there book sender number = is_some (body_at book sender number)

-- the end that a sender stated of a segment, if it did
abbrev pub end_at : Book → List ℕ → ℕ → Option End
end_at book sender segment = finite.get book.ends (segment_key sender segment)

-- the ends that a sender stated, each by the place of its segment
abbrev pub ends_of : Book → List ℕ → StatedEnds
ends_of book sender = λ segment. end_at book sender segment

-- the body of a return, if it is there
abbrev pub return_at : Book → ReturnKey → Option (List ℕ)
return_at book key = finite.get book.returns key

-- the order of a pool, if it is closed
abbrev pub order_at : Book → ℕ → Option Order
order_at book pool = finite.get book.pools pool

-- the book with one transmission more
abbrev pub with_transmission : Book → List ℕ → ℕ → List ℕ → Book
with_transmission book sender number body =
    record book { transmissions = finite.insert book.transmissions (transmission_key sender number) body }

-- the book with one end more
abbrev pub with_end : Book → List ℕ → ℕ → End → Book
with_end book sender segment end = record book { ends = finite.insert book.ends (segment_key sender segment) end }

-- the book with one return more
abbrev pub with_return : Book → ReturnKey → List ℕ → Book
with_return book key body = record book { returns = finite.insert book.returns key body }

-- the book with one pool more
abbrev pub with_pool : Book → ℕ → Order → Book
with_pool book pool order = record book { pools = finite.insert book.pools pool order }

-- whether a body may stand in the book: it has a sender and a number within the limits, and no file fault (profile)
abbrev pub is_entry : List ℕ → ℕ → List ℕ → Bool
is_entry sender number body = is_sender_key sender && is_transmission_number number && is_none (file_fault sender body)

-- whether an end may stand in the book: it has a sender and a segment within the limits, and no segment fault (profile)
abbrev pub is_end_entry : List ℕ → ℕ → End → Bool
is_end_entry sender segment end =
    is_sender_key sender && nat_le segment 100 && nat_le end.last (most_in segment) && nat_lt segment end.next && nat_le end.next 100

-- whether bytes were read as these
abbrev pub is_read_as : List ℕ → Result (List ℕ) IdFault → Bool
is_read_as bytes (Ok read) = bytes_eq read bytes
is_read_as bytes (Err fault) = false

-- whether bytes are those of a reporter, filled with blanks: they are what their own text is read as (profile)
abbrev pub is_reporter : List ℕ → Bool
is_reporter bytes = is_read_as bytes (reporter_of (without_trailing_blanks bytes))

-- whether a body may stand in the book as a return: it has a reporter and a number within the limits, and no return fault (profile)
abbrev pub is_return_entry : ReturnKey → List ℕ → Bool
is_return_entry key body = is_reporter key.reporter && is_return_number key.number && is_none (return_fault body)

-- the greatest number of some keys, 0 where there are none
abbrev pub greatest_of : List TransmissionKey → ℕ
greatest_of [] = 0
greatest_of (key ∷ keys) = max key.number (greatest_of keys)

-- the greatest rank from which some ends let a segment begin, 0 where there are none
abbrev pub greatest_base : List End → ℕ
greatest_base [] = 0
greatest_base (end ∷ more) = max (base_of end.next) (greatest_base more)

-- whether a sender's transmission is among some
abbrev pub is_among : Transmissions → List ℕ → ℕ → Bool
is_among bodies sender number = is_some (finite.get bodies (transmission_key sender number))

-- the ends of a sender's segments among some, each by the place of its segment
abbrev pub ends_among : Ends → List ℕ → StatedEnds
ends_among ends sender = λ segment. finite.get ends (segment_key sender segment)

-- a sender's front among some transmissions and ends: the greatest number that the ends lead to and up to which all are there, 0 where there is none
unfoldable pub front_in : Transmissions → Ends → List ℕ → ℕ
front_in bodies ends sender =
    greatest_passing (max (greatest_of (finite.keys bodies)) (greatest_base (finite.values ends))) (is_reached (is_among bodies sender) (ends_among ends sender))

-- a sender's front: the greatest number that its stated ends lead to and up to which all have come, 0 where there is none (profile)
abbrev pub front : Book → List ℕ → ℕ
front book sender = front_in book.transmissions book.ends sender

-- whether a number is one of some
abbrev pub is_one_of : List ℕ → ℕ → Bool
is_one_of numbers n = list_any (λ m. m == n) numbers

-- the numbers of a sender's transmissions, ascending
abbrev pub numbers_of : Book → List ℕ → List ℕ
numbers_of book sender = map (λ key. key.number) (filter (λ key. bytes_eq key.sender sender) (finite.keys book.transmissions))

-- the numbers that a sender's ends lead through up to its front, in order
abbrev pub numbers_led_through : Book → List ℕ → List ℕ
numbers_led_through book sender = numbers_up_to (ends_of book sender) (front book sender)

-- the numbers of a sender's line, ascending: those of its transmissions that its ends lead through up to its front; these are applied (profile)
unfoldable pub line : Book → List ℕ → List ℕ
line book sender = filter (is_one_of (numbers_led_through book sender)) (numbers_of book sender)

-- the numbers of a sender's line up to one of them, in order
abbrev pub numbers_to : Book → List ℕ → ℕ → List ℕ
numbers_to book sender n = filter (λ m. nat_le m n) (line book sender)

-- whether a number is in a sender's line (profile)
abbrev pub is_in_line : Book → List ℕ → ℕ → Bool
is_in_line book sender n = is_one_of (line book sender) n

-- whether a key's number is in its sender's line
abbrev pub is_applied : Book → TransmissionKey → Bool
is_applied book key = is_in_line book key.sender key.number

-- a sender's transmission under its number
abbrev pub sent_under : Book → List ℕ → ℕ → NumberedTransmission
sent_under book sender n = (n, transmission_in (unwrap_or (body_at book sender n) []))

-- a sender's transmissions under their numbers up to one of its line, in order
abbrev pub transmissions_to : Book → List ℕ → ℕ → List NumberedTransmission
transmissions_to book sender n = map (sent_under book sender) (numbers_to book sender n)

-- the verdicts of a sender's transmission n, by its transmissions up to n alone
abbrev pub verdicts_in : Office → Book → List ℕ → ℕ → List Verdict
verdicts_in office book sender n = verdicts_at (line_of office (transmissions_to book sender n)) n

-- the verdicts of a sender's transmission n: there once n is in the line (profile)
abbrev pub shown_verdicts : Office → Book → List ℕ → ℕ → Option (List Verdict)
shown_verdicts office book sender n = if is_in_line book sender n then Some (verdicts_in office book sender n) else None

-- the acknowledgement of a sender's transmission n: there once n is in the line (profile)
abbrev pub ack : Office → Book → List ℕ → ℕ → Option (List ℕ)
ack office book sender n =
    if is_in_line book sender n then Some (acknowledgement_file office sender (transmission_in (unwrap_or (body_at book sender n) [])) (verdicts_in office book sender n)) else None

-- the numbers of a sender's held transmissions: those that are not in its line, ascending (profile)
abbrev pub held : Book → List ℕ → List ℕ
held book sender = filter (λ n. not (is_in_line book sender n)) (numbers_of book sender)

-- the version of a sender's work at a cut, by its transmissions up to the cut alone
abbrev pub version_in : Office → Book → List ℕ → List ℕ → ℕ → Option WorkVersion
version_in office book sender work cut = work_at (line_of office (transmissions_to book sender cut)) work cut

-- the transaction at a place of a sender's transmission, among those of types NWR and REV
abbrev pub transaction_at : Book → List ℕ → ℕ → ℕ → Option Transaction
transaction_at book sender n place = slice_get (transactions_of (transmission_in (unwrap_or (body_at book sender n) []))) place

-- whether an order may stand in a book: each number of its cut is in its sender's line, and each return that it names is there (profile)
abbrev pub is_pool_entry : Book → ℕ → Order → Bool
is_pool_entry book pool order =
    is_pool_number pool && list_all (is_applied book) order.cut && list_all (λ key. is_some (return_at book key)) order.returns

-- each entry of the book may stand in it, no number is above the stated end of its segment, and no return is named by two pools (profile)
pub record IsSound (book : Book) : Type 0 where
  pub transmissions : (sender : List ℕ) (number : ℕ) (body : List ℕ) → body_at book sender number ≡ Some body → is_entry sender number body ≡ true
  pub ends : (sender : List ℕ) (segment : ℕ) (end : End) → end_at book sender segment ≡ Some end → is_end_entry sender segment end ≡ true
  pub within : (sender : List ℕ) (number : ℕ) → is_there book sender number ≡ true → IsWithinEnd (ends_of book sender) number
  pub returns : (key : ReturnKey) (body : List ℕ) → return_at book key ≡ Some body → is_return_entry key body ≡ true
  pub pools : (pool : ℕ) (order : Order) → order_at book pool ≡ Some order → is_pool_entry book pool order ≡ true
  pub orders : (pool : ℕ) (order : Order) → order_at book pool ≡ Some order → IsOrder order
  pub paid_once : (pool other : ℕ) (order another : Order) (key : ReturnKey) → order_at book pool ≡ Some order → order_at book other ≡ Some another → names_return key order ≡ true → names_return key another ≡ true → pool ≡ other

-- what is kept of a sender is in order: its numbers and ends are within the limits, each end leads to a later year, and no number is above the end of its segment
pub record AreOrderly (bodies : Transmissions) (ends : Ends) (sender : List ℕ) : Type 0 where
  pub numbers : (n : ℕ) → is_among bodies sender n ≡ true → is_transmission_number n ≡ true
  pub right : AreRight (ends_among ends sender)
  pub years : LeadToYears (ends_among ends sender)
  pub within : (n : ℕ) → is_among bodies sender n ≡ true → IsWithinEnd (ends_among ends sender) n
