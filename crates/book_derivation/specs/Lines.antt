-- What is written of senders' lines.
use Rattle.std.specs.Prelude.{ℕ, pos, List, [], ◌∷◌, map}
use Rattle.std.specs.List.{AllByRecursion}
use Rattle.share_rules.specs.declared.office.Office.{Office}
use Rattle.sqlite_trees.specs.Tree.{Trees}
use Rattle.sqlite_value.specs.declared.value.Value.TheVariants.{Int, Text}
use Rattle.society_core.specs.Book.{AreOrderly, Book, front}
use Rattle.society_rows.specs.Layout as layout
use Rattle.society_rows.specs.Rows.{front_values, recording_values, verdict_values, version_values}
use Rattle.society_rows.specs.Stored.{AreNumbered}
use Rattle.society_rows.specs.declared.fronts.FrontRow.{FrontRow}
use Rattle.society_rows.specs.declared.recordings.RecordingRow.{RecordingRow}
use Rattle.society_rows.specs.declared.verdicts.VerdictRow.{VerdictRow}
use Rattle.society_rows.specs.declared.versions.VersionRow.{VersionRow}
use Rattle.society_book.specs.DerivedRows.{tells_recordings, tells_verdict, tells_version, told_to_front, works_to}
use Rattle.society_arrivals.specs.LineTables.{KeepsUnlined, PutsLine}
use Rattle.society_book.specs.Sources.{KeepsSent}
use Rattle.book_audit.specs.Auditing.{AreLinesOf, AreSenders, HasLine}
use Rattle.book_derivation.specs.Deriving.{HasNoLines}

-- this front is put, and these verdicts, versions and recordings are added
abbrev pub PutsRows : FrontRow → List VerdictRow → List VersionRow → List RecordingRow → Trees → Trees → Type 0
PutsRows front verdicts versions recordings = PutsLine (front_values front) (map verdict_values verdicts) (map version_values versions) (map recording_values recordings)

-- the front of a sender is put, and what is derived of its line is added
abbrev pub PutsOwnLine : Office → Book → List ℕ → Trees → Trees → Type 0
PutsOwnLine office book sender =
    PutsLine (Text sender ∷ Int (pos (front book sender)) ∷ Int (pos (works_to office book sender)) ∷ []) (told_to_front tells_verdict office book sender)
    (told_to_front tells_version office book sender) (told_to_front tells_recordings office book sender)

-- what is derived of the line of a sender is written, and nothing else
pub record WritesLine (office : Office) (sender : List ℕ) (old new : Trees) : Type 0 where
  pub others : KeepsUnlined old new
  pub puts : (book : Book) → KeepsSent book old → AreOrderly book.transmissions book.ends sender → PutsOwnLine office book sender old new

-- tables to which no line was written have exactly what is derived of the lines of these senders
pub record HoldsLinesOf (office : Office) (book : Book) (senders : List (List ℕ)) (db : Trees) : Type 0 where
  pub lines : AllByRecursion (λ sender. HasLine office book sender db) senders
  pub owners : AreLinesOf senders db
  pub numbered : AreNumbered layout.fronts db

-- what is derived of the lines of these senders is written, and nothing else
pub record WritesLines (office : Office) (senders : List (List ℕ)) (old new : Trees) : Type 0 where
  pub others : KeepsUnlined old new
  pub holds : (book : Book) → KeepsSent book old → ((sender : List ℕ) → AreOrderly book.transmissions book.ends sender) → AreSenders book senders → HasNoLines old → HoldsLinesOf office book senders new
