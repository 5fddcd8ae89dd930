-- What a transmission that comes, and an end that is stated, change in the tables that hold a book.
use Rattle.std.specs.Prelude.{ℕ, pos, ◌≡◌, ◌⊎◌, List, [], ◌∷◌, None}
use Rattle.share_rules.specs.declared.office.Office.{Office}
use Rattle.sqlite_trees.specs.Tree.{Trees}
use Rattle.sqlite_value.specs.declared.value.Value.TheVariants.{Int, Text}
use Rattle.sqlite_value.specs.Order.{Row}
use Rattle.sender_segments.specs.Ways.{end_stated}
use Rattle.society_core.specs.Answers.{place_in_book}
use Rattle.society_core.specs.Book.{Book, body_at, end_at, front, with_end, with_transmission}
use Rattle.society_core.specs.Ends.{ended_before, number_past, place_stated}
use Rattle.society_core.specs.declared.store.NumberPlace.{NumberPlace}
use Rattle.society_book.specs.DerivedRows.{works_to}
use Rattle.society_book.specs.Kept.{HoldsBook}
use Rattle.work_ids.specs.SegmentEnds.{StatedEnd}

-- how far a sender came in a book: its front, and how many NWR are accepted up to it
abbrev pub HasReached : Office → Book → List ℕ → ℕ → ℕ → Type 0
HasReached office book sender reached works = (reached ≡ front book sender) × (works ≡ works_to office book sender)

-- the rows of how far a sender came: the one row of its front, or none where both numbers are 0
abbrev pub ShowReached : ℕ → ℕ → List Row → Type 0
ShowReached reached works rows =
    ((rows ≡ []) × (reached ≡ 0) × (works ≡ 0)) ⊎ ((sender : List ℕ) × (rows ≡ (Text sender ∷ Int (pos reached) ∷ Int (pos works) ∷ []) ∷ []))

-- tables that held a book of the office without a transmission, whose segment did not end before it, hold it with that transmission
abbrev pub Arrives : Office → List ℕ → ℕ → List ℕ → Trees → Trees → Type 0
Arrives office sender number body old new =
    (book : Book) → HoldsBook office book old → body_at book sender number ≡ None → ended_before book sender number ≡ None
    → HoldsBook office (with_transmission book sender number body) new

-- and its number stands there then
abbrev pub ArrivesTo : Office → List ℕ → ℕ → List ℕ → Trees → NumberPlace → Type 0
ArrivesTo office sender number body old place =
    (book : Book) → HoldsBook office book old → body_at book sender number ≡ None → ended_before book sender number ≡ None
    → place ≡ place_in_book (with_transmission book sender number body) sender number

-- tables that held a book of the office in which a segment has no end, and no number above this one, hold it with that end
abbrev pub StatesEnd : Office → List ℕ → StatedEnd → Trees → Trees → Type 0
StatesEnd office sender stated old new =
    (book : Book) → HoldsBook office book old → end_at book sender (place_stated stated) ≡ None → number_past book sender (place_stated stated) stated.last ≡ None
    → HoldsBook office (with_end book sender (place_stated stated) (end_stated stated)) new

-- and this is its sender's front then
abbrev pub StatesEndTo : Office → List ℕ → StatedEnd → Trees → ℕ → Type 0
StatesEndTo office sender stated old front_then =
    (book : Book) → HoldsBook office book old → end_at book sender (place_stated stated) ≡ None → number_past book sender (place_stated stated) stated.last ≡ None
    → front_then ≡ front (with_end book sender (place_stated stated) (end_stated stated)) sender
