-- A run: the transmissions with which a sender's front goes on, what is noted of them, and what their transactions tell.
use Rattle.std.specs.Prelude.{ℕ, pos, ◌+◌, ◌≡◌, Bool, List, [], ◌∷◌, ◌++◌, Some, map, unwrap_or, bytes_eq}
use Rattle.std.specs.List.{AllByRecursion, list_any, slice_get}
use Rattle.cwr_files.specs.Contents.{transactions_of, transmission_in}
use Rattle.cwr_files.specs.declared.transmission.Transmission.{Transmission}
use Rattle.share_rules.specs.declared.office.Office.{Office}
use Rattle.society_core.specs.Book.{Book, body_at, front, line}
use Rattle.society_core.specs.Growth.{GoesOn}
use Rattle.society_core.specs.Keys.{ascending, bytes_cmp}
use Rattle.sqlite_value.specs.declared.value.Value.TheVariants.{Int, Text}
use Rattle.sqlite_value.specs.Order.{Row}
use Rattle.society_book.specs.Columns.{blob_at, whole_number_at}
use Rattle.society_book.specs.DerivedRows.{line_at_front, verdict_row}
use Rattle.work_ids.specs.Blanks.{without_trailing_blanks}
use Rattle.works_core.specs.Ends.{EndsAt, KnowsWorks}
use Rattle.works_core.specs.Line.{judged_in}
use Rattle.works_core.specs.Recordings.{isrcs_of}
use Rattle.works_core.specs.Tracks.{number_in}
use Rattle.works_core.specs.Verdicts.{verdicts_from}
use Rattle.works_core.specs.Versions.{Placed, judged_of, placed_behind}
use Rattle.works_core.specs.declared.judged.Judged.{Judged}
use Rattle.works_core.specs.declared.judged.Judged.TheVariants.{Clean, Faulty}
use Rattle.works_core.specs.declared.line_end.LineEnd.{LineEnd}
use Rattle.works_core.specs.declared.verdict.Verdict.{Verdict}
use Rattle.works_core.specs.declared.verdict.Verdict.TheVariants.{Accepted, Rejected}

-- what is noted of a transmission: its number, what is judged of each of its transactions, and the ISRCs of each, ascending, each once
pub record Notes : Type 0 where
  pub number : ℕ
  pub judged : List Judged
  pub isrcs : List (List (List ℕ))

-- what an office notes of a transmission under its number
abbrev pub notes_of : Office → ℕ → Transmission → Notes
notes_of office number t =
    record { number = number; judged = judged_in office t; isrcs = map (λ x. ascending bytes_cmp (isrcs_of x)) (transactions_of t) }

-- what an office notes of the transmission that a body is
abbrev pub notes_in : Office → ℕ → List ℕ → Notes
notes_in office number body = notes_of office number (transmission_in body)

-- an office, the number that a run has come to, and what the office noted of its transmissions, one after another
pub record RunValue : Type 0 where
  pub office : Office
  pub reached : ℕ
  pub notes : List Notes

-- a run with the transmission of one more row
abbrev pub take_row : RunValue → Row → RunValue
take_row run row = record run {
  reached = whole_number_at 1 row;
  notes = run.notes ++ notes_in run.office (whole_number_at 1 row) (blob_at 2 row) ∷ [];
}

-- the numbers of the transmissions of a run
abbrev pub numbers_of_run : List Notes → List ℕ
numbers_of_run notes = map (λ x. x.number) notes

-- a sender's transmissions are noted, each under its number
abbrev pub AreNoted : Office → Book → List ℕ → List Notes → Type 0
AreNoted office book sender notes = AllByRecursion (λ x. x ≡ notes_in office x.number (unwrap_or (body_at book sender x.number) [])) notes

-- from one book to another a sender's line goes on by these transmissions
pub record GoesOnBy (office : Office) (a b : Book) (sender : List ℕ) (notes : List Notes) : Type 0 where
  pub goes : GoesOn a b sender (numbers_of_run notes)
  pub each : AreNoted office b sender notes

-- a run is a sender's whole line, up to its front
pub record IsWhole (office : Office) (book : Book) (sender : List ℕ) (run : RunValue) : Type 0 where
  pub reached : run.reached ≡ front book sender
  pub numbers : numbers_of_run run.notes ≡ line book sender
  pub each : AreNoted office book sender run.notes

-- a transaction of a run: its transmission's number, its place there, its work number as text, its ISRCs and its verdict
pub record Settled : Type 0 where
  pub number : ℕ
  pub place : ℕ
  pub work : List ℕ
  pub isrcs : List (List ℕ)
  pub verdict : Verdict

-- the work number of a transaction as text, nothing where it is not clean
abbrev pub clean_work_number : Judged → List ℕ
clean_work_number judged = without_trailing_blanks (number_in judged)

-- the transactions of a transmission from a place on
abbrev pub settled_from : ℕ → ℕ → List Judged → List (List (List ℕ)) → List Verdict → List Settled
settled_from number place (judged ∷ more) (isrcs ∷ others) (verdict ∷ verdicts) =
    record { number = number; place = place; work = clean_work_number judged; isrcs = isrcs; verdict = verdict } ∷ settled_from number (place + 1) more others verdicts
settled_from number place _ _ _ = []

-- some transactions have the one at a place of a transmission more, with this verdict
pub record AddsAt (notes : Notes) (place : ℕ) (verdict : Verdict) (old new : List Settled) : Type 0 where
  pub judged : Judged
  pub isrcs : List (List ℕ)
  pub judged_there : slice_get notes.judged place ≡ Some judged
  pub isrcs_there : slice_get notes.isrcs place ≡ Some isrcs
  pub more : new ≡ old ++ record { number = notes.number; place = place; work = clean_work_number judged; isrcs = isrcs; verdict = verdict } ∷ []

-- the transactions of the transmissions of a run, behind those before them
abbrev pub settled_run : List Placed → List Notes → List Settled
settled_run past [] = []
settled_run past (x ∷ xs) =
    settled_from x.number 0 x.judged x.isrcs (verdicts_from (judged_of past) x.judged) ++ settled_run (placed_behind past x.number 0 x.judged) xs

-- what stands before once they have come
abbrev pub behind_run : List Placed → List Notes → List Placed
behind_run past [] = past
behind_run past (x ∷ xs) = behind_run (placed_behind past x.number 0 x.judged) xs

-- the works of all clean transactions of a run are known
abbrev pub KnowsRun : (List ℕ → Bool) → List Notes → Type 0
KnowsRun known notes = AllByRecursion (λ x. KnowsWorks known x.judged) notes

-- the work numbers of the clean ones
abbrev pub clean_works : List Judged → List (List ℕ)
clean_works [] = []
clean_works (Clean kind number ∷ more) = number ∷ clean_works more
clean_works (Faulty fault ∷ more) = clean_works more

-- whether a key is among some: the number of a work, or a sender
abbrev pub is_key_among : List (List ℕ) → List ℕ → Bool
is_key_among keys key = list_any (λ other. bytes_eq other key) keys

-- the end of a sender's line up to its front, at which the works of a run are known
abbrev pub EndsReady : Office → Book → List ℕ → List Notes → LineEnd → Type 0
EndsReady office book sender notes end = (known : List ℕ → Bool) × EndsAt known (line_at_front office book sender) end × KnowsRun known notes

-- a transaction's verdict as a row
abbrev pub settled_verdict : List ℕ → Settled → Row
settled_verdict sender x = verdict_row sender x.number x.place x.verdict

-- the version that a transaction with a verdict is, as a row
abbrev pub version_by : List ℕ → Settled → Verdict → List Row
version_by sender x (Rejected fault) = []
version_by sender x (Accepted ordinal revision) = (Text sender ∷ Text x.work ∷ Int (pos revision) ∷ Int (pos x.number) ∷ Int (pos x.place) ∷ Int (pos ordinal) ∷ []) ∷ []

abbrev pub settled_version : List ℕ → Settled → List Row
settled_version sender x = version_by sender x x.verdict

-- its recordings as rows
abbrev pub recordings_by : List ℕ → Settled → Verdict → List Row
recordings_by sender x (Rejected fault) = []
recordings_by sender x (Accepted ordinal revision) = map (λ isrc. Text sender ∷ Text x.work ∷ Int (pos revision) ∷ Text isrc ∷ []) x.isrcs

abbrev pub settled_recordings : List ℕ → Settled → List Row
settled_recordings sender x = recordings_by sender x x.verdict
