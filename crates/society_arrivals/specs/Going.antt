-- How a run goes on: from number to number, and over the ends of segments (representation).
use Rattle.std.specs.Prelude.{ℕ, ◌+◌, ◌++◌, ◌<◌, ◌≡◌, ◌≤◌, List, false, true}
use Rattle.share_rules.specs.declared.office.Office.{Office}
use Rattle.sqlite_trees.specs.Tree.{Trees}
use Rattle.sender_segments.specs.Ways.{IsGap, is_reached, numbers_up_to}
use Rattle.society_core.specs.Book.{AreOrderly, Book, body_at, ends_of, is_there, is_entry}
use Rattle.society_book.specs.EndLists.{end_listed}
use Rattle.society_arrivals.specs.Runs.{AreNoted, IsWhole, RunValue, numbers_of_run}
use Rattle.society_book.specs.Sources.{HasTransmissions, KeepsSent}
use Rattle.work_ids.specs.SegmentEnds.{StatedEnd}
use Rattle.work_ids.specs.Segments.{segment_of}
use Rattle.sqlite_value.specs.Order.{Row}
use Rattle.society_book.specs.BookRows.{transmission_key_of, transmission_row}
use Rattle.society_book.specs.Columns.{blob_at, text_at, whole_number_at}

-- the row is that of a transmission that may stand in a book
pub record IsRightSent (row : Row) : Type 0 where
  pub form : row ≡ transmission_row (transmission_key_of row) (blob_at 2 row)
  pub entry : is_entry (text_at 0 row) (whole_number_at 1 row) (blob_at 2 row) ≡ true

-- a run has come to its number over the numbers and the ends of a sender: up to it all are there, behind those up to where it began come its own, and each is noted
pub record ComesTo (office : Office) (book : Book) (sender : List ℕ) (from : ℕ) (run : RunValue) : Type 0 where
  pub its : run.office ≡ office
  pub reached : is_reached (is_there book sender) (ends_of book sender) run.reached ≡ true
  pub numbers : numbers_up_to (ends_of book sender) run.reached ≡ numbers_up_to (ends_of book sender) from ++ numbers_of_run run.notes
  pub each : AreNoted office book sender run.notes

-- and the next number is not there
pub record ComesToGap (office : Office) (book : Book) (sender : List ℕ) (from : ℕ) (run : RunValue) : Type 0 where
  pub comes : ComesTo office book sender from run
  pub missing : is_there book sender (run.reached + 1) ≡ false

-- and no end is reached there
pub record ComesToEnd (office : Office) (book : Book) (sender : List ℕ) (from : ℕ) (run : RunValue) : Type 0 where
  pub comes : ComesTo office book sender from run
  pub gap : IsGap (is_there book sender) (ends_of book sender) run.reached

-- a database has the transmissions of a sender of a book above a number
pub record HasAbove (book : Book) (sender : List ℕ) (low : ℕ) (db : Trees) : Type 0 where
  pub before : Book
  pub has : HasTransmissions before db
  pub same : (k : ℕ) → low < k → body_at before sender k ≡ body_at book sender k

-- a run comes to a later number of the same segment
pub record StaysIn (old new : RunValue) : Type 0 where
  pub later : old.reached ≤ new.reached
  pub segment : segment_of new.reached ≡ segment_of old.reached

-- a run goes on by the numbers behind its own, up to the first that is not there
abbrev pub RunsOn : List ℕ → RunValue → RunValue → Trees → Type 0
RunsOn sender old new db =
    (office : Office) (book : Book) (from : ℕ) → HasAbove book sender old.reached db → AreOrderly book.transmissions book.ends sender → ComesTo office book sender from old
    → ComesToGap office book sender from new × StaysIn old new

-- a run that has come to a gap in the segment of a rank goes on over the ends that it reaches
abbrev pub RunsOver : List ℕ → List StatedEnd → ℕ → RunValue → RunValue → Trees → Type 0
RunsOver sender ends begun old new db =
    (office : Office) (book : Book) (from : ℕ) → HasAbove book sender old.reached db → AreOrderly book.transmissions book.ends sender → end_listed ends ≡ ends_of book sender
    → segment_of old.reached ≡ segment_of begun → ComesToGap office book sender from old → ComesToEnd office book sender from new

-- a run has gone on over the ends that it reaches to a gap in the segment of a rank, not before its own number
abbrev pub RunsPast : List ℕ → List StatedEnd → ℕ → RunValue → ℕ → RunValue → Trees → Type 0
RunsPast sender ends begun old rank new db =
    (office : Office) (book : Book) (from : ℕ) → HasAbove book sender old.reached db → AreOrderly book.transmissions book.ends sender → end_listed ends ≡ ends_of book sender
    → segment_of old.reached ≡ segment_of begun → ComesToGap office book sender from old
    → ComesToGap office book sender from new × (old.reached ≤ new.reached) × (segment_of new.reached ≡ segment_of rank)

-- a run is the whole line of a sender, in every book with what its senders sent
abbrev pub IsWholeIn : Office → List ℕ → Trees → RunValue → Type 0
IsWholeIn office sender db run = (book : Book) → KeepsSent book db → AreOrderly book.transmissions book.ends sender → IsWhole office book sender run
