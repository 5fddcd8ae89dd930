-- The answer to each request over a book, and the book after it.
use Rattle.std.specs.Prelude.{ℕ, ◌≡◌, Bool, true, false, List, [], ◌∷◌, Option, Some, None, if◌then◌else◌, option_map}
use Rattle.std.specs.Option.{option_and_then}
use Rattle.std.specs.FinMap as finite
use Rattle.std.specs.List.{find}
use Rattle.std.specs.Str.{bytes_eq}
use Rattle.cwr_records.specs.Blanks.{without_trailing_blanks}
use Rattle.cwr_files.specs.FileFault.{file_fault}
use Rattle.cwr_files.specs.Transaction.{iswc_of_work, title_of}
use Rattle.cwr_files.specs.declared.fault.FileFault.{FileFault}
use Rattle.cwr_files.specs.declared.transmission.Transaction.{Transaction}
use Rattle.perf_returns.specs.Returns.{return_fault}
use Rattle.perf_returns.specs.declared.fault.ReturnFault.{ReturnFault}
use Rattle.share_rules.specs.Weights.{weights_of}
use Rattle.share_rules.specs.declared.kind.Kind.TheVariants.{Performing}
use Rattle.share_rules.specs.declared.office.Office.{Office}
use Rattle.society_core.specs.Book.{Book, ack, body_at, front, held, is_applied, is_in_line, order_at, return_at, shown_verdicts, transaction_at, version_in, with_end, with_pool, with_return, with_transmission}
use Rattle.sender_segments.specs.Ways.{End, end_stated}
use Rattle.work_ids.specs.SegmentEnds.{StatedEnd}
use Rattle.work_ids.specs.declared.segment_end.SegmentFault.{SegmentFault}
use Rattle.society_core.specs.Ends.{end_known_as, ended_before, fault_stated, number_past, place_stated}
use Rattle.society_core.specs.Orders.{Order, names_return, same_order}
use Rattle.society_core.specs.Pools.{balance, credits_of}
use Rattle.society_core.specs.Requests.{Query, Puts, States, StatesFaulty, PutsReturn, Closes, ClosesFaulty, Inquires, AsksElsewhere, Reply, Arrived, Ended, Stored, Closed, Showed, Refused, Showing, Acknowledged, Stands, Described, Judged, Credited, Owed, Shown}
use Rattle.society_core.specs.declared.answers.Arrival.{Arrival}
use Rattle.society_core.specs.declared.answers.Receipt.TheVariants.{New, Repeated}
use Rattle.society_core.specs.declared.answers.Standing.{Standing}
use Rattle.society_core.specs.declared.answers.Standing.TheVariants.{Applied, Held}
use Rattle.society_core.specs.declared.end_fault.EndFault.TheVariants.{Numbers}
use Rattle.society_core.specs.declared.inquiry.Inquiry.{Inquiry}
use Rattle.society_core.specs.declared.inquiry.Inquiry.TheVariants as inquiries
use Rattle.society_core.specs.declared.refusal.Refusal.{Refusal}
use Rattle.society_core.specs.declared.refusal.Refusal.TheVariants.{Reused, File, Csv, Unknown}
use Rattle.society_core.specs.declared.refusal.Refusal.TheVariants as refusals
use Rattle.society_core.specs.declared.return_key.ReturnKey.{ReturnKey}
use Rattle.society_core.specs.declared.store.Known.{Known}
use Rattle.society_core.specs.declared.store.Known.TheVariants.{Absent, Same, Other}
use Rattle.society_core.specs.declared.store.KnownEnd.{KnownEnd}
use Rattle.society_core.specs.declared.store.KnownEnd.TheVariants as ends
use Rattle.society_core.specs.declared.store.KnownTransmission.{KnownTransmission}
use Rattle.society_core.specs.declared.store.KnownTransmission.TheVariants as transmissions
use Rattle.society_core.specs.declared.store.Payment.{Payment}
use Rattle.society_core.specs.declared.store.NumberPlace.{NumberPlace}
use Rattle.society_core.specs.declared.store.Payment.TheVariants as payments
use Rattle.society_core.specs.declared.transmission_key.TransmissionKey.{TransmissionKey}
use Rattle.works_core.specs.Recordings.{isrcs_of, right_one}
use Rattle.works_core.specs.declared.version.WorkVersion.{WorkVersion}

-- where a number stands: its sender's front, and whether it is in the sender's line
abbrev pub place_by : ℕ → Bool → NumberPlace
place_by front is_applied = record { front = front; is_applied = is_applied }

-- where a number stands in a book
abbrev pub place_in_book : Book → List ℕ → ℕ → NumberPlace
place_in_book book sender number = place_by (front book sender) (is_in_line book sender number)

-- a transmission is applied where its number is in its sender's line, else it is held (profile)
abbrev pub standing_at : Bool → Standing
standing_at is_applied = if is_applied then Applied else Held

-- how a transmission stands at a place, and whether it came again
abbrev pub arrival_at : Bool → NumberPlace → Arrival
arrival_at known place = record { known = known; front = place.front; standing = standing_at place.is_applied }

-- how a transmission stands in a book, and whether it came again
abbrev pub arrival_in : Bool → Book → List ℕ → ℕ → Arrival
arrival_in known book sender number = arrival_at known (place_in_book book sender number)

-- whether what the book has under a number is this body
abbrev pub known_by : List ℕ → Option (List ℕ) → Known
known_by body None = Absent
known_by body (Some kept) = if bytes_eq kept body then Same else Other

-- whether the book has this transmission, another one under its number, or none
abbrev pub known_as : Book → List ℕ → ℕ → List ℕ → Known
known_as book sender number body = known_by body (body_at book sender number)

-- what is said of a number under which nothing is: the last number of its segment, where it is above that
abbrev pub free_under : Option ℕ → KnownTransmission
free_under None = transmissions.Absent
free_under (Some last) = transmissions.Ended last

-- what the book has under a transmission's number, with its place where it is these bytes
abbrev pub known_with : NumberPlace → Option ℕ → Known → KnownTransmission
known_with place ended Absent = free_under ended
known_with place ended Same = transmissions.Same place
known_with place ended Other = transmissions.Other

-- what a book has under a transmission's number, beside a body
abbrev pub transmission_known : Book → List ℕ → ℕ → List ℕ → KnownTransmission
transmission_known book sender number body =
    known_with (place_in_book book sender number) (ended_before book sender number) (known_as book sender number body)

-- the answer to a put of a transmission under a number that is free: that its segment ended before, or how it stands once it is added (profile)
abbrev pub taken_answer : Book → List ℕ → ℕ → List ℕ → Option ℕ → Reply
taken_answer book sender number body (Some last) = Refused (refusals.Ended last)
taken_answer book sender number body None = Arrived (arrival_in false (with_transmission book sender number body) sender number)

-- the book after a put of a transmission under a number that is free
abbrev pub taken_book : Book → List ℕ → ℕ → List ℕ → Option ℕ → Book
taken_book book sender number body (Some last) = book
taken_book book sender number body None = with_transmission book sender number body

-- the answer to a put of what is not known: the file fault first
abbrev pub added_answer : Book → List ℕ → ℕ → List ℕ → Option FileFault → Reply
added_answer book sender number body (Some fault) = Refused (File fault)
added_answer book sender number body None = taken_answer book sender number body (ended_before book sender number)

-- the book after a put of what is not known
abbrev pub added_book : Book → List ℕ → ℕ → List ℕ → Option FileFault → Book
added_book book sender number body (Some fault) = book
added_book book sender number body None = taken_book book sender number body (ended_before book sender number)

-- the answer to a put: a repeat, a reused number, or what is not known
abbrev pub put_answer : Book → List ℕ → ℕ → List ℕ → Known → Reply
put_answer book sender number body Same = Arrived (arrival_in true book sender number)
put_answer book sender number body Other = Refused Reused
put_answer book sender number body Absent = added_answer book sender number body (file_fault sender body)

-- the book after a put
abbrev pub put_book : Book → List ℕ → ℕ → List ℕ → Known → Book
put_book book sender number body Same = book
put_book book sender number body Other = book
put_book book sender number body Absent = added_book book sender number body (file_fault sender body)

-- the answer to a statement of an end that is not known: the greatest number above it, or the front once it is added (profile)
abbrev pub stated_answer : Book → List ℕ → ℕ → End → Option ℕ → Reply
stated_answer book sender segment end (Some number) = Refused (refusals.Segment number)
stated_answer book sender segment end None = Ended New (front (with_end book sender segment end) sender)

-- the book after a statement of an end that was not known
abbrev pub stated_book : Book → List ℕ → ℕ → End → Option ℕ → Book
stated_book book sender segment end (Some number) = book
stated_book book sender segment end None = with_end book sender segment end

-- the answer to a statement without a fault: a repeat, another end of the segment, or what is not known
abbrev pub end_answer : Book → List ℕ → ℕ → End → Known → Reply
end_answer book sender segment end Same = Ended Repeated (front book sender)
end_answer book sender segment end Other = Refused Reused
end_answer book sender segment end Absent = stated_answer book sender segment end (number_past book sender segment end.last)

-- the book after a statement without a fault
abbrev pub end_book : Book → List ℕ → ℕ → End → Known → Book
end_book book sender segment end Same = book
end_book book sender segment end Other = book
end_book book sender segment end Absent = stated_book book sender segment end (number_past book sender segment end.last)

-- the answer to what was stated: its fault first (profile)
abbrev pub stating_answer : Book → List ℕ → StatedEnd → Option SegmentFault → Reply
stating_answer book sender stated (Some fault) = Refused (refusals.End (Numbers fault))
stating_answer book sender stated None =
    end_answer book sender (place_stated stated) (end_stated stated) (end_known_as book sender (place_stated stated) (end_stated stated))

-- the book after what was stated
abbrev pub stating_book : Book → List ℕ → StatedEnd → Option SegmentFault → Book
stating_book book sender stated (Some fault) = book
stating_book book sender stated None =
    end_book book sender (place_stated stated) (end_stated stated) (end_known_as book sender (place_stated stated) (end_stated stated))

-- what is said of an end that the book does not have: the greatest number above it, if there is one
abbrev pub unstated_under : Option ℕ → KnownEnd
unstated_under None = ends.Absent
unstated_under (Some number) = ends.Passed number

-- what the book has of a segment, with the front where it is this end
abbrev pub end_known_with : ℕ → Option ℕ → Known → KnownEnd
end_known_with front past Absent = unstated_under past
end_known_with front past Same = ends.Same front
end_known_with front past Other = ends.Other

-- what a book has of a segment, beside an end
abbrev pub end_known : Book → List ℕ → ℕ → End → KnownEnd
end_known book sender segment end =
    end_known_with (front book sender) (number_past book sender segment end.last) (end_known_as book sender segment end)

-- what is shown of a version: the title without the blanks at its end, the ISWC where there is one, the ISRCs in order, and the holders with their weights in the performing right (profile)
abbrev pub shown_by : Office → List ℕ → List ℕ → WorkVersion → Transaction → Shown
shown_by office sender work version transaction = record {
  number = work;
  version = version;
  title = without_trailing_blanks (title_of transaction);
  iswc = right_one (iswc_of_work transaction);
  isrcs = isrcs_of transaction;
  holders = weights_of Performing sender office transaction;
}

-- what a version shows, if its transaction is there
abbrev pub shown_version : Office → Book → List ℕ → List ℕ → WorkVersion → Option Shown
shown_version office book sender work version =
    option_map (shown_by office sender work version) (transaction_at book sender version.transmission version.place)

-- what is shown of a work: its version at the sender's front, if there is one (profile)
abbrev pub shown_in : Office → Book → List ℕ → List ℕ → Option Shown
shown_in office book sender work = option_and_then (shown_version office book sender work) (version_in office book sender work (front book sender))

-- whether the book has this return, another one under its key, or none
abbrev pub return_known_as : Book → ReturnKey → List ℕ → Known
return_known_as book key body = known_by body (return_at book key)

-- the answer to a return that is not known: its fault, or that it is stored
abbrev pub stored_answer : Option ReturnFault → Reply
stored_answer (Some fault) = Refused (Csv fault)
stored_answer None = Stored New

-- the book after a return that was not known
abbrev pub stored_book : Book → ReturnKey → List ℕ → Option ReturnFault → Book
stored_book book key body (Some fault) = book
stored_book book key body None = with_return book key body

-- the answer to a put of a return: a repeat, a reused number, or what is not known
abbrev pub return_answer : List ℕ → Known → Reply
return_answer body Same = Stored Repeated
return_answer body Other = Refused Reused
return_answer body Absent = stored_answer (return_fault body)

-- the book after a put of a return
abbrev pub return_book : Book → ReturnKey → List ℕ → Known → Book
return_book book key body Same = book
return_book book key body Other = book
return_book book key body Absent = stored_book book key body (return_fault body)

-- a refusal, or else a later one
abbrev pub refusal_or_later : Option Refusal → Option Refusal → Option Refusal
refusal_or_later (Some refused) later = Some refused
refusal_or_later None later = later

-- the first refusal that a list gives rise to
abbrev pub first_refusal : {X : Type 0} → (X → Option Refusal) → List X → Option Refusal
first_refusal refusal [] = None
first_refusal refusal (x ∷ xs) = refusal_or_later (refusal x) (first_refusal refusal xs)

-- a cut whose number is not in its sender's line is refused, with the sender's front (profile)
abbrev pub cut_refusal : Book → TransmissionKey → Option Refusal
cut_refusal book key = if is_applied book key then None else Some (refusals.Cut key.sender (front book key.sender))

-- the pool of an entry
abbrev pub pool_of : Option (ℕ × Order) → Option ℕ
pool_of (Some entry) = Some entry.0
pool_of None = None

-- the pool that pays a return: the one that names it
abbrev pub payer : Book → ReturnKey → Option ℕ
payer book key = pool_of (find (λ entry. names_return key entry.1) (finite.entries book.pools))

-- whether a return that is there is paid, and by which pool
abbrev pub paid_by : Option ℕ → Payment
paid_by (Some pool) = payments.Paid pool
paid_by None = payments.Unpaid

-- a return that is there or not
abbrev pub payment_by : Option (List ℕ) → Option ℕ → Payment
payment_by None pool = payments.Unknown
payment_by (Some body) pool = paid_by pool

-- whether a return is unknown, unpaid or paid
abbrev pub payment_in : Book → ReturnKey → Payment
payment_in book key = payment_by (return_at book key) (payer book key)

-- a return that is unknown, or paid by another pool, is refused (profile)
abbrev pub payment_refusal : ReturnKey → Payment → Option Refusal
payment_refusal key payments.Unknown = Some (refusals.ReturnUnknown key)
payment_refusal key (payments.Paid pool) = Some (refusals.ReturnPaid key pool)
payment_refusal key payments.Unpaid = None

-- why a return can't be paid, if it can't
abbrev pub return_refusal : Book → ReturnKey → Option Refusal
return_refusal book key = payment_refusal key (payment_in book key)

-- why a pool is not closed by an order: its first cut that is not in its sender's line, else its first return that is unknown or paid (profile)
abbrev pub close_refusal : Book → Order → Option Refusal
close_refusal book order = refusal_or_later (first_refusal (cut_refusal book) order.cut) (first_refusal (return_refusal book) order.returns)

-- whether what the book has under a pool is this order
abbrev pub pool_known_by : Order → Option Order → Known
pool_known_by order None = Absent
pool_known_by order (Some kept) = if same_order kept order then Same else Other

-- whether the book has this order, another one under its pool, or none
abbrev pub pool_known_as : Book → ℕ → Order → Known
pool_known_as book pool order = pool_known_by order (order_at book pool)

-- the answer to a close of a pool that is not known
abbrev pub closed_answer : ℕ → Option Refusal → Reply
closed_answer pool (Some refusal) = Refused refusal
closed_answer pool None = Closed New pool

-- the book after a close of a pool that was not known
abbrev pub closed_book : Book → ℕ → Order → Option Refusal → Book
closed_book book pool order (Some refusal) = book
closed_book book pool order None = with_pool book pool order

-- the answer to a close: a repeat, a reused number, or what is not known
abbrev pub close_answer : Book → ℕ → Order → Known → Reply
close_answer book pool order Same = Closed Repeated pool
close_answer book pool order Other = Refused Reused
close_answer book pool order Absent = closed_answer pool (close_refusal book order)

-- the book after a close
abbrev pub close_book : Book → ℕ → Order → Known → Book
close_book book pool order Same = book
close_book book pool order Other = book
close_book book pool order Absent = closed_book book pool order (close_refusal book order)

-- what a book shows to a question, where it is there (profile)
abbrev pub showing : Office → Book → Inquiry → Option Showing
showing office book (inquiries.Acknowledgement sender number) = option_map Acknowledged (ack office book sender number)
showing office book (inquiries.Sender sender) = Some (Stands (front book sender) (held book sender))
showing office book (inquiries.Work sender work) = option_map Described (shown_in office book sender work)
showing office book (inquiries.Verdicts sender number) = option_map Judged (shown_verdicts office book sender number)
showing office book (inquiries.Credits pool) = option_map (λ order. Credited (credits_of office book order)) (order_at book pool)
showing office book (inquiries.Balance account) = Some (Owed account (balance office book account))

-- what is there is shown, else it is unknown
abbrev pub shown_answer : Option Showing → Reply
shown_answer (Some shown) = Showed shown
shown_answer None = Refused Unknown

-- the answer to a request over a book (profile)
abbrev pub answer : Office → Book → Query → Reply
answer office book (Puts sender number body) = put_answer book sender number body (known_as book sender number body)
answer office book (States sender stated) = stating_answer book sender stated (fault_stated stated)
answer office book (StatesFaulty fault) = Refused (refusals.End fault)
answer office book (PutsReturn key body) = return_answer body (return_known_as book key body)
answer office book (Closes pool order) = close_answer book pool order (pool_known_as book pool order)
answer office book (ClosesFaulty fault) = Refused (refusals.Order fault)
answer office book (Inquires inquiry) = shown_answer (showing office book inquiry)
answer office book AsksElsewhere = Refused Unknown

-- the book after a request: another one only for what is accepted, and then by that one entry (profile)
abbrev pub next : Book → Query → Book
next book (Puts sender number body) = put_book book sender number body (known_as book sender number body)
next book (States sender stated) = stating_book book sender stated (fault_stated stated)
next book (StatesFaulty fault) = book
next book (PutsReturn key body) = return_book book key body (return_known_as book key body)
next book (Closes pool order) = close_book book pool order (pool_known_as book pool order)
next book (ClosesFaulty fault) = book
next book (Inquires inquiry) = book
next book AsksElsewhere = book

-- two books answer a request alike
abbrev pub AnswersAlike : Office → Book → Book → Query → Type 0
AnswersAlike office a b query = answer office a query ≡ answer office b query
