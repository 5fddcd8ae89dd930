-- What each question of a store is answered, by the office and the book that it shows.
use Rattle.std.specs.Prelude.{ℕ, ◌≡◌, List, Option, Result, option_map}
use Rattle.share_rules.specs.declared.office.Office.{Office}
use Rattle.society_core.specs.Answers.{end_known, place_in_book, return_known_as, showing, transmission_known}
use Rattle.society_core.specs.Book.{Book, front, with_end, with_transmission}
use Rattle.society_core.specs.Ends.{place_stated}
use Rattle.society_core.specs.Requests.{showing_of}
use Rattle.society_core.specs.State.{Addition, State}
use Rattle.society_core.specs.declared.inquiry.Inquiry.{Inquiry}
use Rattle.society_core.specs.declared.inquiry.Showing.{Showing}
use Rattle.society_core.specs.declared.return_key.ReturnKey.{ReturnKey}
use Rattle.society_core.specs.declared.store.Known.{Known}
use Rattle.society_core.specs.declared.store.KnownEnd.{KnownEnd}
use Rattle.society_core.specs.declared.store.KnownTransmission.{KnownTransmission}
use Rattle.society_core.specs.declared.store.NumberPlace.{NumberPlace}
use Rattle.society_core.specs.declared.store.StoreFault.{StoreFault}
use Rattle.sender_segments.specs.Ways.{end_stated}
use Rattle.work_ids.specs.SegmentEnds.{StatedEnd}

-- what the book has under a transmission's number, beside these bytes
abbrev pub KnowsAs : State → List ℕ → ℕ → List ℕ → KnownTransmission → Type 0
KnowsAs s sender number body known = known ≡ transmission_known s.book sender number body

-- what the book has of the segment of an end, beside that end
abbrev pub KnowsEndAs : State → List ℕ → StatedEnd → KnownEnd → Type 0
KnowsEndAs s sender stated known = known ≡ end_known s.book sender (place_stated stated) (end_stated stated)

-- where a number of a sender stands
abbrev pub IsPlaceOf : State → List ℕ → ℕ → NumberPlace → Type 0
IsPlaceOf s sender number place = place ≡ place_in_book s.book sender number

-- whether the book has a return, another one under its key, or none
abbrev pub IsReturnKnownAs : State → ReturnKey → List ℕ → Known → Type 0
IsReturnKnownAs s key body known = known ≡ return_known_as s.book key body

-- what is shown to a question, none where it is not there
abbrev pub IsShownTo : Office → Book → Inquiry → Option Showing → Type 0
IsShownTo office book inquiry shown = option_map showing_of shown ≡ showing office book inquiry

-- a sender's transmission is added, and it is told where its number stands then
abbrev pub AddsArrival : State → State → List ℕ → ℕ → List ℕ → Result NumberPlace StoreFault → Type 0
AddsArrival old new sender number body result =
    let next = with_transmission old.book sender number body in
    Addition old new next result (λ place. place ≡ place_in_book next sender number)

-- the end of a sender's segment is added, and the sender's front is told then
abbrev pub AddsEnd : State → State → List ℕ → StatedEnd → Result ℕ StoreFault → Type 0
AddsEnd old new sender stated result =
    let next = with_end old.book sender (place_stated stated) (end_stated stated) in
    Addition old new next result (λ n. n ≡ front next sender)
