-- What an audit finds of the rows of what is derived of senders' lines.
use Rattle.std.specs.Prelude.{is_ok, ℕ, ◌≡◌, Bool, true, ◌&&◌, List, [], ◌∷◌, IsPermutation, flat_map, map, filter, length, pos}
use Rattle.std.specs.BTreeSet.{BTreeSet, contains}
use Rattle.std.specs.List.{AllByRecursion}
use Rattle.sqlite_value.specs.declared.value.Value.TheVariants.{Int, Text}
use Rattle.sqlite_value.specs.Order.{Row, column}
use Rattle.share_rules.specs.declared.office.Office.{Office}
use Rattle.sqlite_schema.specs.declared.schema.Table.{Table}
use Rattle.sqlite_trees.specs.Tree.{Trees}
use Rattle.society_core.specs.Book.{Book, front}
use Rattle.society_core.specs.Keys.{ascending, bytes_cmp}
use Rattle.society_rows.specs.Layout as layout
use Rattle.society_rows.specs.Reads.{has_key}
use Rattle.society_rows.specs.Stored.{rows_in}
use Rattle.society_book.specs.Columns.{text_at}
use Rattle.society_book.specs.DerivedRows.{knows_sender, tells_recordings, tells_verdict, tells_version, told_to_front, works_to}
use Rattle.society_arrivals.specs.Outcomes.{settled}
use Rattle.society_arrivals.specs.Runs.{RunValue, behind_run, is_key_among, settled_recordings, settled_run, settled_verdict, settled_version}
use Rattle.society_arrivals.specs.declared.outcomes.Outcome.{Outcome}
use Rattle.book_audit.specs.Entries.{is_text}
use Rattle.work_ids.specs.SenderKey.{sender_key_of}
use Rattle.works_core.specs.Verdicts.{works_in}
use Rattle.works_core.specs.Versions.{judged_of}

-- the rows of a sender
abbrev pub of_sender : List ℕ → Row → Bool
of_sender sender = has_key (Text sender ∷ [])

-- these are the rows that a table has of a sender, in any order
abbrev pub HasRowsOf : Table → List ℕ → List Row → Trees → Type 0
HasRowsOf table sender rows db = IsPermutation (filter (of_sender sender) (rows_in table db)) rows

-- the rows that a database has of a sender are this front, and these of verdicts, of versions and of recordings, in any order
pub record HasTold (sender : List ℕ) (front_row : Row) (judged told named : List Row) (db : Trees) : Type 0 where
  pub fronts : HasRowsOf layout.fronts sender (front_row ∷ []) db
  pub verdicts : HasRowsOf layout.verdicts sender judged db
  pub versions : HasRowsOf layout.versions sender told db
  pub recordings : HasRowsOf layout.recordings sender named db

-- they are this front and what outcomes tell
abbrev pub HasOutcomes : List ℕ → Row → List Outcome → Trees → Type 0
HasOutcomes sender front_row outcomes =
    HasTold sender front_row (map (λ x. settled_verdict sender (settled x)) outcomes) (flat_map (λ x. settled_version sender (settled x)) outcomes)
    (flat_map (λ x. settled_recordings sender (settled x)) outcomes)

-- they are what the transmissions of a sender's whole line tell, as it is noted
abbrev pub HasRun : List ℕ → RunValue → Trees → Type 0
HasRun sender run =
    HasTold sender (Text sender ∷ Int (pos run.reached) ∷ Int (pos (works_in (judged_of (behind_run [] run.notes)))) ∷ []) (map (settled_verdict sender) (settled_run [] run.notes))
    (flat_map (settled_version sender) (settled_run [] run.notes)) (flat_map (settled_recordings sender) (settled_run [] run.notes))

-- they are what is derived of the sender's line
abbrev pub HasLine : Office → Book → List ℕ → Trees → Type 0
HasLine office book sender =
    HasTold sender (Text sender ∷ Int (pos (front book sender)) ∷ Int (pos (works_to office book sender)) ∷ []) (told_to_front tells_verdict office book sender)
    (told_to_front tells_version office book sender) (told_to_front tells_recordings office book sender)

-- whether a row begins with a sender's key
abbrev pub is_of_sender : Row → Bool
is_of_sender row = is_text (column row 0) && is_ok (sender_key_of (text_at 0 row))

-- whether it is that of one of these
abbrev pub is_of_one : BTreeSet (List ℕ) → Row → Bool
is_of_one senders row = is_of_sender row && contains bytes_cmp senders (text_at 0 row)

-- each row begins with the text of one of these senders
abbrev pub AreNamed : List (List ℕ) → List Row → Type 0
AreNamed senders rows = AllByRecursion (λ row. (is_text (column row 0) ≡ true) × (is_key_among senders (text_at 0 row) ≡ true)) rows

-- so do all rows of what is derived of senders' lines
pub record AreLinesOf (senders : List (List ℕ)) (db : Trees) : Type 0 where
  pub fronts : AreNamed senders (rows_in layout.fronts db)
  pub verdicts : AreNamed senders (rows_in layout.verdicts db)
  pub versions : AreNamed senders (rows_in layout.versions db)
  pub recordings : AreNamed senders (rows_in layout.recordings db)

-- these are the senders of a book's transmissions and ends, each once
pub record AreSenders (book : Book) (senders : List (List ℕ)) : Type 0 where
  pub each : AllByRecursion (λ sender. knows_sender book sender ≡ true) senders
  pub once : length (ascending bytes_cmp senders) ≡ length senders
  pub all : (sender : List ℕ) → is_key_among senders sender ≡ knows_sender book sender
