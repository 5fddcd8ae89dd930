-- Representation, not meaning: what came next on a connection, and what was read for it.
use Rattle.std.specs.Prelude.{◌≡◌, ℕ, Bool, true, false, List, ◌++◌, Option, Result, Ok, Err, ⊤}
use Rattle.society_core.specs.State.{State}
use Rattle.http_text.specs.BodyLength.{closes}
use Rattle.http_desk.specs.Counted.{Known, failures_between, bytes_known}
use Rattle.http_desk.specs.declared.answering.Next.{Next}
use Rattle.http_desk.specs.declared.answering.Next.TheVariants.{Request, Ended}
use Rattle.http_desk.specs.declared.counted.Counted.{Counted}
use Rattle.http_desk.specs.declared.fault.FaultKind.{FaultKind}
use Rattle.http_desk.specs.declared.input.Input.{Input}
use Rattle.http_desk.specs.declared.room.Room.{Room}
use Rattle.http_text.specs.declared.told.Told.{Told}
use Rattle.http_desk.specs.Input.{unread, ReadsBy}
use Rattle.http_desk.specs.Outbox.{waiting}
use Rattle.http_text.specs.Part.{Part, print_part, IsPart}
use Rattle.http_text.specs.Reads.{Awaits}
use Rattle.http_desk.specs.Serves.{Steps}
use Rattle.http_text.specs.Told.{IsReadyToSend, told_reply}
use Rattle.http_desk.specs.Upcoming.{EndsSo, StopsBy}

-- the body of what is told was made
abbrev pub IsReadyNext : Next → Type 0
IsReadyNext (Request answered) = IsReadyToSend answered.told
IsReadyNext (Ended end) = ⊤

-- whether the end came
abbrev pub is_end : Next → Bool
is_end (Request answered) = false
is_end (Ended end) = true

-- the request at the front of the bytes was answered so by a step, and taken
pub record TakesRequest {S : Type 0} (state : S → State) (desk new_desk : S) (bytes rest : List ℕ) (told : Told) (close : Bool) : Type 0 where
  pub part : Part
  pub is_part : IsPart part
  pub whole : bytes ≡ print_part part ++ rest
  pub is_last : close ≡ closes part.head
  pub step : Steps state desk new_desk part (told_reply told)

-- a request was taken, or the bytes have this end, or more are awaited
abbrev pub TakesOrEnds : {S : Type 0} → (S → State) → S → S → List ℕ → List ℕ → Option (List ℕ) → Result Next FaultKind → Type 0
TakesOrEnds state desk new_desk bytes rest known (Ok (Request answered)) = TakesRequest state desk new_desk bytes rest answered.told answered.closes
TakesOrEnds state desk new_desk bytes rest known (Ok (Ended end)) = EndsSo (state desk).office.society bytes known end × (new_desk ≡ desk)
TakesOrEnds state desk new_desk bytes rest known (Err kind) = Awaits bytes × (new_desk ≡ desk)

-- what came next, and the bytes that were read for it and not answered before; each read was needed
pub record ComesNext {S R : Type 0} (state : S → State) (remaining : Known R) (desk new_desk : S) (reader new_reader : Counted R) (input new_input : Input) (result : Result Next FaultKind) : Type 0 where
  pub bytes : List ℕ
  pub reads : ReadsBy Awaits remaining reader new_reader (unread input) bytes input.turns new_input.turns
  pub comes : TakesOrEnds state desk new_desk bytes (unread new_input) (bytes_known remaining new_reader) result

-- why no request came, while these texts waited
pub record IsLeft {S R W : Type 0} (state : S → State) (remaining : Known R) (contents : Known W) (desk new_desk : S) (reader new_reader : Counted R) (writer new_writer : Counted W) (input new_input : Input) (waiting : List ℕ) (kind : FaultKind) : Type 0 where
  pub bytes : List ℕ
  pub reads : ReadsBy Awaits remaining reader new_reader (unread input) bytes input.turns new_input.turns
  pub same : new_desk ≡ desk
  pub stops : StopsBy kind bytes new_input.turns (failures_between reader new_reader) (failures_between writer new_writer)
      (bytes_known contents writer) (bytes_known contents new_writer) waiting

-- a request or the end came next
abbrev pub CameNext : {S R : Type 0} → (S → State) → Known R → S → S → Counted R → Counted R → Input → Input → Next → Type 0
CameNext state remaining desk new_desk reader new_reader input new_input next = ComesNext state remaining desk new_desk reader new_reader input new_input (Ok next)

-- why no request came, by what is in the room
abbrev pub IsLeftIn : {S R W : Type 0} → (S → State) → Known R → Known W → S → S → Counted R → Counted R → Counted W → Counted W → Room → Room → FaultKind → Type 0
IsLeftIn state remaining contents desk new_desk reader new_reader writer new_writer room new_room =
    IsLeft state remaining contents desk new_desk reader new_reader writer new_writer room.input new_room.input (waiting room.outbox)
