-- What the steps of an audit find of senders' lines, and what they say is wrong (representation).
use Rattle.std.specs.Prelude.{ℕ, pos, ◌≡◌, true, List, [], ◌∷◌, Result, map}
use Rattle.std.specs.BTreeSet.{BTreeSet}
use Rattle.std.specs.List.{AllByRecursion}
use Rattle.share_rules.specs.declared.office.Office.{Office}
use Rattle.sqlite_schema.specs.declared.schema.Table.{Table}
use Rattle.sqlite.specs.State.{State}
use Rattle.sqlite_trees.specs.Tree.{Trees}
use Rattle.sqlite_value.specs.Order.{Row}
use Rattle.sqlite_value.specs.declared.value.Value.TheVariants.{Int, Text}
use Rattle.society_core.specs.Book.{AreOrderly, Book}
use Rattle.society_rows.specs.Layout as layout
use Rattle.society_rows.specs.Reads.{Lists, has_key}
use Rattle.society_rows.specs.Rows.{front_values}
use Rattle.society_rows.specs.Stored.{rows_in}
use Rattle.society_rows.specs.declared.fronts.FrontRow.{FrontRow}
use Rattle.society_book.specs.BookRows.{book_of}
use Rattle.society_book.specs.DerivedRows.{knows_sender}
use Rattle.society_arrivals.specs.Outcomes.{settled}
use Rattle.society_arrivals.specs.Runs.{RunValue, behind_run, settled_run}
use Rattle.society_book.specs.Sources.{KeepsSent}
use Rattle.society_arrivals.specs.declared.outcomes.Outcome.{Outcome}
use Rattle.works_core.specs.Verdicts.{works_in}
use Rattle.works_core.specs.Versions.{judged_of}
use Rattle.society_book.specs.Steps.{Examines}
use Rattle.society_rows.specs.declared.fault.RowFault.{RowFault}
use Rattle.book_audit.specs.Examining.{HoldsNot, IsNot}
use Rattle.book_audit.specs.Alike.{IsExact}
use Rattle.book_audit.specs.Auditing.{AreSenders, HasLine, HasOutcomes, HasRowsOf, is_of_one}

-- a front and outcomes are what the transmissions of a sender's whole line come to, as it is noted
pub record SettlesLine (sender : List ℕ) (run : RunValue) (front : FrontRow) (outcomes : List Outcome) : Type 0 where
  pub name : front.sender.now ≡ sender
  pub row : front_values front ≡ Text sender ∷ Int (pos run.reached) ∷ Int (pos (works_in (judged_of (behind_run [] run.notes)))) ∷ []
  pub settled : map settled outcomes ≡ settled_run [] run.notes

-- of a sender a database has exactly what is derived of its transmissions
abbrev pub FindsLine : Office → List ℕ → Trees → Type 0
FindsLine office sender db = (book : Book) → KeepsSent book db → AreOrderly book.transmissions book.ends sender → HasLine office book sender db

-- so of each of these senders
abbrev pub FindsLines : Office → List (List ℕ) → Trees → Type 0
FindsLines office senders db =
    (book : Book) → KeepsSent book db → ((sender : List ℕ) → AreOrderly book.transmissions book.ends sender) → AllByRecursion (λ sender. HasLine office book sender db) senders

-- if this is a sender of the book that the tables stand for, they do not hold that book of this office
abbrev pub DeniesLine : Office → List ℕ → Trees → Type 0
DeniesLine office sender db = knows_sender (book_of db) sender ≡ true → HoldsNot office db

-- the same where these are all its senders
abbrev pub DeniesLines : Office → List (List ℕ) → Trees → Type 0
DeniesLines office senders db = AreSenders (book_of db) senders → HoldsNot office db

-- the rows that answer a question are all that a table has of a sender
abbrev pub AnswersFor : (Trees → List Row → Type 0) → Table → List ℕ → ℕ → Type 0
AnswersFor Answers table sender width = (db : Trees) (rows : List Row) → Answers db rows → Lists table (has_key (Text sender ∷ [])) width db rows

-- an examination of whether the rows that a table has of a sender are these
abbrev pub Compares : Table → List ℕ → List Row → State → State → Result (Unit {0}) RowFault → Type 0
Compares table sender rows old new result = Examines (IsNot (HasRowsOf table sender rows)) old new result (λ db _. HasRowsOf table sender rows db)

-- the same of rows that answer a question, where the rows that are wanted are told apart
abbrev pub ComparesAnswer : (Trees → List Row → Type 0) → List Row → State → State → Result (Unit {0}) RowFault → Type 0
ComparesAnswer Answers wanted old new result =
    (table : Table) (sender : List ℕ) (width : ℕ) → AnswersFor Answers table sender width → AllByRecursion IsExact wanted → Compares table sender wanted old new result

-- the tables have of a sender this front and what these outcomes tell
abbrev pub HasSettled : FrontRow → List Outcome → Trees → Type 0
HasSettled front outcomes = HasOutcomes front.sender.now (front_values front) outcomes

-- each row of a table begins with one of these senders
abbrev pub AreOfThese : BTreeSet (List ℕ) → Table → Trees → Type 0
AreOfThese senders table db = AllByRecursion (λ row. is_of_one senders row ≡ true) (rows_in table db)

-- so does each row of what is derived of senders' lines
pub record AreAllOfThese (senders : BTreeSet (List ℕ)) (db : Trees) : Type 0 where
  pub fronts : AreOfThese senders layout.fronts db
  pub verdicts : AreOfThese senders layout.verdicts db
  pub versions : AreOfThese senders layout.versions db
  pub recordings : AreOfThese senders layout.recordings db
