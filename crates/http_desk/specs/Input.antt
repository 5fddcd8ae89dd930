-- Representation, not meaning: bytes that were read and not taken yet, and what reading on does to them.
use Rattle.std.specs.Prelude.{◌≡◌, ℕ, ◌+◌, ◌*◌, ◌≤◌, List, [], ◌∷◌, ◌++◌, length, drop, Option}
use Rattle.std.specs.Io.KnownBytes.{Consumes}
use Rattle.std.specs.List.{flat_map, AllByRecursion}
use Rattle.http_desk.specs.Counted.{Known, counted_on, bytes_known, reads_of}
use Rattle.http_desk.specs.declared.counted.Counted.{Counted}
use Rattle.http_desk.specs.declared.fault.FaultKind.{FaultKind}
use Rattle.http_desk.specs.declared.fault.FaultKind.TheVariants.{Read, Write, Turns, Memory}
use Rattle.http_desk.specs.declared.input.Input.{Input}
use Rattle.http_text.specs.Reads.{Awaits}
use Rattle.society_core.specs.State.{Rises}

-- the bytes that were read and not taken yet
abbrev pub unread : Input → List ℕ
unread input = drop input.start input.bytes.items

-- the most bytes that one read gives
abbrev pub max_piece : ℕ
max_piece = 16384

-- a piece is what one read gave: 1 to 16,384 bytes
abbrev pub IsPiece : List ℕ → Type 0
IsPiece piece = (1 ≤ length piece) × (length piece ≤ max_piece)

-- the bytes of pieces, one behind another
abbrev pub all_of : List (List ℕ) → List ℕ
all_of pieces = flat_map (λ (piece : List ℕ). piece) pieces

-- before each of these pieces came behind the bytes, this held of the bytes so far
abbrev pub BeforeEach : (List ℕ → Type 0) → List ℕ → List (List ℕ) → Type 0
BeforeEach Holds bytes [] = Unit {0}
BeforeEach Holds bytes (piece ∷ pieces) = Holds bytes × BeforeEach Holds (bytes ++ piece) pieces

-- bytes that the reader gave went to the end of those not answered yet; each turn that was spent is a read that gave 1 to 16,384 of
-- them, and before each of these this held of the bytes so far
pub record ReadsOn (Holds : List ℕ → Type 0) (old new : List ℕ) (turns new_turns : ℕ) (known new_known : Option (List ℕ)) (reads new_reads : ℕ) : Type 0 where
  pub more : List ℕ
  pub spent : ℕ
  pub grown : new ≡ old ++ more
  pub consumed : Consumes known new_known more
  pub turned : turns ≡ new_turns + spent
  pub counts : new_reads ≡ counted_on reads spent
  pub most : length more ≤ spent * max_piece
  pub least : spent ≤ length more
  pub pieces : List (List ℕ)
  pub joined : more ≡ all_of pieces
  pub number : length pieces ≡ spent
  pub each : AllByRecursion IsPiece pieces
  pub needed : BeforeEach Holds old pieces

-- the same of a reader
abbrev pub ReadsBy : {R : Type 0} → (List ℕ → Type 0) → Known R → Counted R → Counted R → List ℕ → List ℕ → ℕ → ℕ → Type 0
ReadsBy Holds remaining reader new_reader old new turns new_turns =
    ReadsOn Holds old new turns new_turns (bytes_known remaining reader) (bytes_known remaining new_reader) (reads_of reader) (reads_of new_reader)

-- the same of an input too, which keeps all that the reader gives
abbrev pub ReadsWhere : {R : Type 0} → (List ℕ → Type 0) → Known R → Counted R → Counted R → Input → Input → Type 0
ReadsWhere Holds remaining reader new_reader input new_input =
    ReadsBy Holds remaining reader new_reader (unread input) (unread new_input) input.turns new_input.turns

-- the same for a reason that is the caller's
abbrev pub ReadsFrom : {R : Type 0} → Known R → Counted R → Counted R → Input → Input → Type 0
ReadsFrom remaining reader new_reader input new_input = ReadsWhere (λ bytes. Unit {0}) remaining reader new_reader input new_input

-- the same, where each read was needed: more bytes were awaited before it
abbrev pub ReadsAwaited : {R : Type 0} → Known R → Counted R → Counted R → Input → Input → Type 0
ReadsAwaited remaining reader new_reader input new_input = ReadsWhere Awaits remaining reader new_reader input new_input

-- why reading failed: the reader did, or no turn was left
abbrev pub FailsBy : FaultKind → ℕ → ℕ → ℕ → Type 0
FailsBy Read turns failures new_failures = Rises failures new_failures
FailsBy Turns turns failures new_failures = turns ≡ 0
FailsBy Write turns failures new_failures = ⊥
FailsBy Memory turns failures new_failures = ⊥
