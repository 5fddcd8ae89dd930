-- What the steps of an arrival and of a statement say of every book that the tables hold (representation).
use Rattle.std.specs.Prelude.{ℕ, pos, ◌+◌, ◌≡◌, ◌||◌, Bool, List, [], ◌∷◌, None, bytes_eq, false, flat_map, map, nat_lt, true}
use Rattle.share_rules.specs.declared.office.Office.{Office}
use Rattle.sqlite_trees.specs.Tree.{Trees}
use Rattle.sqlite_value.specs.Order.{Row}
use Rattle.sqlite_value.specs.declared.value.Value.TheVariants.{Int, Text}
use Rattle.sender_segments.specs.Ways.{end_stated}
use Rattle.society_core.specs.Book.{Book, body_at, end_at, front, is_entry, is_in_line, with_end, with_transmission}
use Rattle.society_core.specs.Ends.{ended_before, fault_stated, number_past, place_stated}
use Rattle.society_core.specs.declared.store.NumberPlace.{NumberPlace}
use Rattle.society_book.specs.DerivedRows.{works_to, line_at_front}
use Rattle.society_book.specs.Kept.{HoldsBook}
use Rattle.society_arrivals.specs.Outcomes.{settled}
use Rattle.society_arrivals.specs.Runs.{EndsReady, GoesOnBy, Notes, RunValue, behind_run, is_key_among, settled_recordings, settled_run, settled_verdict, settled_version}
use Rattle.society_arrivals.specs.LineTables.{PutsLine}
use Rattle.society_arrivals.specs.Arrivals.{Arrives, ArrivesTo, StatesEnd, StatesEndTo}
use Rattle.society_arrivals.specs.declared.outcomes.Outcome.{Outcome}
use Rattle.work_ids.specs.SegmentEnds.{StatedEnd}
use Rattle.work_ids.specs.SenderKey.{is_sender_key}
use Rattle.works_core.specs.Ends.{EndsAt}
use Rattle.works_core.specs.Verdicts.{works_in}
use Rattle.works_core.specs.Versions.{Placed, judged_of}
use Rattle.works_core.specs.declared.line_end.LineEnd.{LineEnd}

-- a transmission may come to a book: nothing is under its number, it may stand there, and its segment did not end before it
pub record MayCome (book : Book) (sender : List ℕ) (number : ℕ) (body : List ℕ) : Type 0 where
  pub free : body_at book sender number ≡ None
  pub entry : is_entry sender number body ≡ true
  pub within : ended_before book sender number ≡ None

-- an end may be stated of a segment in a book: it may stand there, the segment has none yet, and no number is above it
pub record MayBeStated (book : Book) (sender : List ℕ) (stated : StatedEnd) : Type 0 where
  pub key : is_sender_key sender ≡ true
  pub right : fault_stated stated ≡ None
  pub free : end_at book sender (place_stated stated) ≡ None
  pub above : number_past book sender (place_stated stated) stated.last ≡ None

-- a run is the one with which a sender's line goes on from one book to another, up to its front there
pub record GoesOnTo (office : Office) (a b : Book) (sender : List ℕ) (run : RunValue) : Type 0 where
  pub goes : GoesOnBy office a b sender run.notes
  pub reached : run.reached ≡ front b sender

-- it is the run that begins with a transmission which comes as the next one of its sender's line
abbrev pub BeginsRun : Office → List ℕ → ℕ → List ℕ → Trees → RunValue → Type 0
BeginsRun office sender number body db run =
    (book : Book) → HoldsBook office book db → number ≡ front book sender + 1 → MayCome book sender number body
    → GoesOnTo office book (with_transmission book sender number body) sender run

-- it is the run with which the sender goes on from this front when the transmission comes, which is applied where the front goes on
abbrev pub ArrivesBy : Office → List ℕ → ℕ → List ℕ → ℕ → Trees → RunValue → Type 0
ArrivesBy office sender number body reached db run =
    (book : Book) → HoldsBook office book db → reached ≡ front book sender → MayCome book sender number body
    → GoesOnTo office book (with_transmission book sender number body) sender run
    × (is_in_line (with_transmission book sender number body) sender number ≡ nat_lt reached run.reached)

-- it is the run with which the sender goes on from this front when the end comes
abbrev pub StatesBy : Office → List ℕ → StatedEnd → ℕ → Trees → RunValue → Type 0
StatesBy office sender stated reached db run =
    (book : Book) → HoldsBook office book db → reached ≡ front book sender → MayBeStated book sender stated
    → GoesOnTo office book (with_end book sender (place_stated stated) (end_stated stated)) sender run

-- of the end of the sender's line at its front one work more is known
abbrev pub LearnsWork : List ℕ → List ℕ → LineEnd → LineEnd → Trees → Type 0
LearnsWork sender work old new db =
    (office : Office) (book : Book) (known : List ℕ → Bool) → HoldsBook office book db → EndsAt known (line_at_front office book sender) old
    → EndsAt (λ other. known other || bytes_eq work other) (line_at_front office book sender) new

-- of the end of the sender's line at its front these works are known, where none was
abbrev pub LearnsWorks : List ℕ → List (List ℕ) → LineEnd → LineEnd → Trees → Type 0
LearnsWorks sender works old new db =
    (office : Office) (book : Book) → HoldsBook office book db → EndsAt (λ _. false) (line_at_front office book sender) old
    → EndsAt (is_key_among works) (line_at_front office book sender) new

-- it is the end of the sender's line at its front, with so many accepted NWR, at which the works of the run are known
abbrev pub EndsAtFront : List ℕ → ℕ → List Notes → Trees → LineEnd → Type 0
EndsAtFront sender works run db end =
    (office : Office) (book : Book) → HoldsBook office book db → works ≡ works_to office book sender → EndsReady office book sender run end

-- the tables have the row of a front in place of its sender's, and what the outcomes tell of this sender
abbrev pub PutsOutcomes : Row → List ℕ → List Outcome → Trees → Trees → Type 0
PutsOutcomes front sender outcomes =
    PutsLine front (map (λ x. settled_verdict sender (settled x)) outcomes) (flat_map (λ x. settled_version sender (settled x)) outcomes)
    (flat_map (λ x. settled_recordings sender (settled x)) outcomes)

-- the tables have the front of a sender to which its line goes on by a run, and what the run tells behind that line
abbrev pub SettlesRun : List ℕ → List Placed → RunValue → Trees → Trees → Type 0
SettlesRun sender past run =
    PutsLine (Text sender ∷ Int (pos run.reached) ∷ Int (pos (works_in (judged_of (behind_run past run.notes)))) ∷ []) (map (settled_verdict sender) (settled_run past run.notes))
    (flat_map (settled_version sender) (settled_run past run.notes)) (flat_map (settled_recordings sender) (settled_run past run.notes))

-- so behind the sender's line up to its front in the book that the tables held, with so many accepted NWR
abbrev pub PutsRun : List ℕ → ℕ → RunValue → Trees → Trees → Type 0
PutsRun sender works run old new =
    (office : Office) (book : Book) → HoldsBook office book old → works ≡ works_to office book sender → SettlesRun sender (line_at_front office book sender) run old new

-- the tables hold the book with the transmission, whose sender's line went on by this run
abbrev pub TakesRun : List ℕ → ℕ → List ℕ → ℕ → RunValue → Trees → Trees → Type 0
TakesRun sender number body works run old new =
    (office : Office) (book : Book) → HoldsBook office book old → works ≡ works_to office book sender → MayCome book sender number body
    → GoesOnTo office book (with_transmission book sender number body) sender run → HoldsBook office (with_transmission book sender number body) new

-- the tables hold the book with the end, whose sender's line went on by this run
abbrev pub EndsRun : List ℕ → StatedEnd → ℕ → RunValue → Trees → Trees → Type 0
EndsRun sender stated works run old new =
    (office : Office) (book : Book) → HoldsBook office book old → works ≡ works_to office book sender → MayBeStated book sender stated
    → GoesOnTo office book (with_end book sender (place_stated stated) (end_stated stated)) sender run
    → HoldsBook office (with_end book sender (place_stated stated) (end_stated stated)) new

-- the transmission comes, and its number stands there then
abbrev pub ArrivesWith : Office → List ℕ → ℕ → List ℕ → Trees → Trees → NumberPlace → Type 0
ArrivesWith office sender number body old new place =
    Arrives office sender number body old new × ArrivesTo office sender number body old place

-- the end comes, and this is its sender's front then
abbrev pub StatesWith : Office → List ℕ → StatedEnd → Trees → Trees → ℕ → Type 0
StatesWith office sender stated old new front_then = StatesEnd office sender stated old new × StatesEndTo office sender stated old front_then
