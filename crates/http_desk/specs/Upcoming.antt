-- Representation, not meaning: what was found at the front of the bytes that were read, and why nothing was.
use Rattle.std.specs.Prelude.{◌≡◌, ℕ, Bool, true, false, List, [], ◌∷◌, ◌++◌, length, unwrap_or, Option}
use Rattle.std.specs.Io.KnownBytes.{Appends}
use Rattle.http_desk.specs.Counted.{AppendsFront, Known, failures_between, bytes_known}
use Rattle.http_text.specs.declared.connection_end.End.{End}
use Rattle.http_text.specs.declared.connection_end.End.TheVariants.{Quiet, Bad}
use Rattle.http_desk.specs.declared.counted.Counted.{Counted}
use Rattle.http_desk.specs.declared.fault.FaultKind.{FaultKind}
use Rattle.http_desk.specs.declared.fault.FaultKind.TheVariants.{Read, Write, Turns, Memory}
use Rattle.http_desk.specs.declared.head.Head.{Head}
use Rattle.http_desk.specs.declared.input.Input.{Input}
use Rattle.http_desk.specs.declared.upcoming.Upcoming.{Upcoming}
use Rattle.http_desk.specs.declared.upcoming.Upcoming.TheVariants.{Request, Ended}
use Rattle.http_desk.specs.Head.{HasHead, IsHeadKept}
use Rattle.http_desk.specs.Input.{unread}
use Rattle.http_text.specs.Part.{Part, print_part, IsPart}
use Rattle.http_text.specs.Reads.{Awaits, IsRemainder}
use Rattle.society_core.specs.State.{Rises}

-- the bytes begin with a whole request, of whose head this is kept
pub record HasPart (bytes : List ℕ) (kept : Head) : Type 0 where
  pub part : Part
  pub rest : List ℕ
  pub whole : bytes ≡ print_part part ++ rest
  pub is_part : IsPart part
  pub is_kept : IsHeadKept part.head kept
  pub size : kept.body ≡ length part.body

-- the bytes, with what the reader is known to have left, are this end at the office of a society, and no further request
abbrev pub EndsSo : ℕ → List ℕ → Option (List ℕ) → End → Type 0
EndsSo society bytes known end = IsRemainder society (bytes ++ unwrap_or known []) [] end

-- the end of a connection that has no further byte, after these bytes of a head
abbrev pub ended_with : List ℕ → End
ended_with [] = Quiet
ended_with (byte ∷ bytes) = Bad

-- a head stands there, or the end
abbrev pub IsUpcomingHead : ℕ → Upcoming → List ℕ → Option (List ℕ) → Type 0
IsUpcomingHead society (Request kept) bytes known = HasHead bytes kept
IsUpcomingHead society (Ended end) bytes known = EndsSo society bytes known end

-- a whole request stands there, or the end
abbrev pub IsUpcoming : ℕ → Upcoming → List ℕ → Option (List ℕ) → Type 0
IsUpcoming society (Request kept) bytes known = HasPart bytes kept
IsUpcoming society (Ended end) bytes known = EndsSo society bytes known end

-- whether the end stands there
abbrev pub is_at_end : Upcoming → Bool
is_at_end (Request kept) = false
is_at_end (Ended end) = true

-- why no request came: the reader failed or no turn was left, where more bytes were awaited and all that waited was written; or the writer failed
abbrev pub StopsBy : FaultKind → List ℕ → ℕ → (ℕ × ℕ) → (ℕ × ℕ) → Option (List ℕ) → Option (List ℕ) → List ℕ → Type 0
StopsBy Read bytes turns reader writer holds new_holds waiting =
    Awaits bytes × Rises reader.0 reader.1 × Appends holds new_holds waiting
StopsBy Turns bytes turns reader writer holds new_holds waiting =
    Awaits bytes × (turns ≡ 0) × Appends holds new_holds waiting
StopsBy Write bytes turns reader writer holds new_holds waiting =
    Rises writer.0 writer.1 × AppendsFront holds new_holds waiting
StopsBy Memory bytes turns reader writer holds new_holds waiting = ⊥

-- the same of a reader, a writer and the bytes that were read, while these texts waited
abbrev pub IsStopped : {R W : Type 0} → Known W → Counted R → Counted R → Counted W → Counted W → Input → List ℕ → FaultKind → Type 0
IsStopped contents reader new_reader writer new_writer input waiting kind =
    StopsBy kind (unread input) input.turns (failures_between reader new_reader) (failures_between writer new_writer)
    (bytes_known contents writer) (bytes_known contents new_writer) waiting
