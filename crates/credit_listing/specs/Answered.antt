-- What lines that spell orders are answered, and how that is told.
use Rattle.std.specs.Prelude.{ℕ, ◌≡◌, ◌+◌, ◌&&◌, Bool, true, is_ok, length, ⊤, List, [], ◌∷◌, Option, Result, Ok, Err, Vec}
use Rattle.std.specs.BTreeSet.{BTreeSet}
use Rattle.std.specs.Io.KnownBytes.{Appends}
use Rattle.std.specs.declared.alloc.Global.{Global}
use Rattle.csv.specs.Writing.{default_writer, row_text}
use Rattle.desk_connections.specs.Connections.{Prints}
use Rattle.http_desk.specs.Counted.{Known, failures_of, inner_of}
use Rattle.http_desk.specs.declared.counted.Counted.{Counted}
use Rattle.http_desk.specs.declared.fault.DeskFault.{DeskFault}
use Rattle.http_desk.specs.declared.fault.FaultKind.{FaultKind}
use Rattle.http_desk.specs.declared.fault.FaultKind.TheVariants.{Memory, Read, Write}
use Rattle.share_rules.specs.declared.office.Office.{Office}
use Rattle.society_book.specs.Shown.{ByOwnBook}
use Rattle.society_core.specs.State.{Rises}
use Rattle.society_core.specs.declared.order_fault.OrderFault.{OrderFault}
use Rattle.society_core.specs.declared.refusal.Refusal.{Refusal}
use Rattle.society_core.specs.declared.refusal.Refusal.TheVariants as refusals
use Rattle.sqlite_trees.specs.Tree.{Trees}
use Rattle.order_credits.specs.Refused.{credit_answer, listed}
use Rattle.order_credits.specs.declared.share.RecordingShare.{RecordingShare}
use Rattle.credit_listing.specs.Lines.{AreFirst, AreRead}
use Rattle.credit_listing.specs.Rows.{listing_columns, shares_text}
use Rattle.credit_listing.specs.Spelled.{AreWanted, Spelled, order_on_line}
use Rattle.credit_listing.specs.Told.{refusal_line}

-- the shares of an order, or why it is not answered
abbrev pub Answer : Type 0
Answer = Result (Vec RecordingShare Global) Refusal

-- an answer to what a line spells: what the order would credit of the recordings that are wanted, by every book of the office that the tables
-- hold; or the fault of the line
abbrev pub AnswersSpelled : Office → Trees → Result Spelled OrderFault → Answer → Type 0
AnswersSpelled office db (Err fault) answer = answer ≡ Err (refusals.Order fault)
AnswersSpelled office db (Ok spelled) answer =
    (wanted : Option (BTreeSet (List ℕ))) × AreWanted spelled.1 wanted
    × ByOwnBook office (λ book told. listed told ≡ credit_answer office book spelled.0 wanted) db answer

-- an answer to a line
abbrev pub AnswersLine : Office → List ℕ → Trees → Answer → Type 0
AnswersLine office line db answer = AnswersSpelled office db (order_on_line line) answer

-- what is written of the answer to the order of this number: its rows where it is answered, else the line that says why not, elsewhere
abbrev pub TellsAnswer : {W E : Type 0} → (W → Option (List ℕ)) → Counted W → Counted W → (E → Option (List ℕ)) → Counted E → Counted E → ℕ → Answer → Type 0
TellsAnswer contents out new_out says err new_err number (Ok shares) =
    Appends (contents (inner_of out)) (contents (inner_of new_out)) (shares_text number shares.items) × (new_err ≡ err)
TellsAnswer contents out new_out says err new_err number (Err refusal) = (new_out ≡ out) × Prints says err new_err (refusal_line number refusal)

-- lines were answered by tables, one after another, from this number on, and each answer was told; this is whether each was answered by rows
abbrev pub TellsLines : {W E : Type 0} → Office → Trees → (W → Option (List ℕ)) → (E → Option (List ℕ)) → ℕ → List (List ℕ) → Bool → Counted W → Counted W → Counted E
    → Counted E → Type 0
TellsLines office db contents says number [] all out new_out err new_err = (new_out ≡ out) × (new_err ≡ err) × (all ≡ true)
TellsLines {W = W} {E = E} office db contents says number (line ∷ lines) all out new_out err new_err =
    (answer : Answer) × (between_out : Counted W) × (between_err : Counted E) × (others : Bool) × AnswersLine office line db answer
    × TellsAnswer contents out between_out says err between_err number answer × (all ≡ is_ok answer && others)
    × TellsLines office db contents says (number + 1) lines others between_out new_out between_err new_err

-- all that a reader gave was read, line by line; the columns were written, and then the lines were answered by tables and told; this is whether
-- each was answered by rows, and where each was, nothing was said elsewhere
pub record ListsCredits {R W E : Type 0} (office : Office) (remaining : Known R) (contents : W → Option (List ℕ)) (says : E → Option (List ℕ))
    (reader new_reader : Counted R) (out new_out : Counted W) (err new_err : Counted E)
    (db : Trees) (all : Bool) : Type 0 where
  pub lines : List (List ℕ)
  pub read : AreRead remaining reader new_reader lines
  pub begun : Counted W
  pub columns : Appends (contents (inner_of out)) (contents (inner_of begun)) (row_text default_writer listing_columns)
  pub told : TellsLines office db contents says 1 lines all begun new_out err new_err
  pub rows : all ≡ true → new_err ≡ err

-- rows could not be written: memory was refused for them, and the writer is as it was; or the writer failed
abbrev pub IsWriteFault : {W : Type 0} → FaultKind → Counted W → Counted W → Type 0
IsWriteFault Memory out new_out = new_out ≡ out
IsWriteFault Write out new_out = Rises (failures_of out) (failures_of new_out)
IsWriteFault kind out new_out = ⊥

-- a fault of a listing has its cause in that way that it names: the reader failed, or the writer
abbrev pub HasWayFailed : FaultKind → ℕ → ℕ → ℕ → ℕ → Type 0
HasWayFailed Read reader new_reader out new_out = Rises reader new_reader
HasWayFailed Write reader new_reader out new_out = Rises out new_out
HasWayFailed kind reader new_reader out new_out = ⊤

-- A listing broke off at this fault, which has its cause: it came after so many lines, the first that a reader gave, which were answered by tables
-- and told. Where the reader failed, the columns and what was told of them are all that was written.
pub record BreaksListing {R W E : Type 0} (office : Office) (remaining : Known R) (contents : W → Option (List ℕ)) (says : E → Option (List ℕ))
    (reader new_reader : Counted R) (out new_out : Counted W) (err new_err : Counted E)
    (db : Trees) (fault : DeskFault) : Type 0 where
  pub lines : List (List ℕ)
  pub count : fault.requests ≡ length lines
  pub read : AreFirst remaining reader new_reader lines
  pub begun : Counted W
  pub last : Counted W
  pub all : Bool
  pub told : TellsLines office db contents says 1 lines all begun last err new_err
  pub written : fault.kind ≡ Read → Appends (contents (inner_of out)) (contents (inner_of begun)) (row_text default_writer listing_columns) × (new_out ≡ last)
  pub cause : HasWayFailed fault.kind (failures_of reader) (failures_of new_reader) (failures_of out) (failures_of new_out)

-- how a listing of orders ended: all that a reader gave was listed, or it broke off
abbrev pub EndsListing : {R W E : Type 0} → Office → Known R → (W → Option (List ℕ)) → (E → Option (List ℕ)) → Counted R → Counted R → Counted W → Counted W
    → Counted E → Counted E → Trees → Result Bool DeskFault → Type 0
EndsListing office remaining contents says reader new_reader out new_out err new_err db (Ok all) =
    ListsCredits office remaining contents says reader new_reader out new_out err new_err db all
EndsListing office remaining contents says reader new_reader out new_out err new_err db (Err fault) =
    BreaksListing office remaining contents says reader new_reader out new_out err new_err db fault
