-- What connections come to that are served one after another, and the lines that are printed of them.
use Rattle.std.specs.Prelude.{◌≡◌, ◌⊎◌, ℕ, ◌+◌, ◌<◌, Bool, true, IfErr, IfOk, List, OnOk, [], ◌∷◌, ◌++◌, Option, Result, Ok, Err, codes, decimal, length}
use Rattle.std.specs.Io.KnownBytes.{Appends}
use Rattle.std.specs.List.{flat_map, AllByRecursion}
use Rattle.http_desk.specs.Counted.{failures_of, inner_of}
use Rattle.http_desk.specs.Serves.{AreAnswered, IsGivenUp, IsServed, KeepsTurns, NeitherFails}
use Rattle.http_desk.specs.declared.connection.Served.{Served}
use Rattle.http_desk.specs.declared.counted.Counted.{Counted}
use Rattle.http_desk.specs.declared.fault.DeskFault.{DeskFault}
use Rattle.http_text.specs.Part.{Part}
use Rattle.society_core.specs.Requests.{Reply}
use Rattle.society_core.specs.State.{Rises, State}
use Rattle.desk_connections.specs.Doors.{Admits, ComeInOrder, Connection, HasAdmitted, Ways}
use Rattle.desk_connections.specs.Faults.{fault_text, most_turns}

-- how many requests a connection brought, by what it came to
abbrev pub requests_of : Result Served DeskFault → ℕ
requests_of (Ok served) = served.requests
requests_of (Err fault) = fault.requests

-- what was served of a connection whose bytes, and what goes to whom, are these: what was read are its requests, what was written is their
-- answers and the text of its end, and these are they
abbrev pub IsServedSo : {D R V S : Type 0} → Ways D R V → (S → State) → S → S → Counted R → Counted V → Counted V → Connection R V → Served → Type 0
IsServedSo ways state desk new_desk reader writer new_writer c served =
    (is : IsServed state ways.sent ways.given desk new_desk reader writer new_writer served) × (is.parts ≡ c.parts) × (is.replies ≡ c.replies)

-- or it was given up, for this fault
abbrev pub IsGivenUpSo : {D R V S : Type 0} → Ways D R V → (S → State) → S → S → Counted R → Counted R → Counted V → Counted V → Connection R V → DeskFault → Type 0
IsGivenUpSo ways state desk new_desk reader new_reader writer new_writer c fault =
    (is : IsGivenUp state ways.sent ways.given desk new_desk reader new_reader writer new_writer most_turns fault) × (is.breaks.parts ≡ c.parts) × (is.breaks.replies ≡ c.replies)

-- A connection came in by a door and was served from its two ways as they came in: it brought these requests, as many as it tells, they were
-- read from what its peer sent and answered in turn, each by a call that led the store on, and their answers went to that peer; a fault is
-- told as what it was. The door took the two ways back as the serving left them, so nothing else was read of them or written to them. The peer
-- was waited for as long as the door has patience.
pub record ServesOne {D R V S : Type 0} (ways : Ways D R V) (state : S → State) (desk new_desk : S) (door new_door : D) (c : Connection R V) : Type 0 where
  pub open_door : D
  pub reader : Counted R
  pub new_reader : Counted R
  pub writer : Counted V
  pub new_writer : Counted V
  pub admitted : Admits ways door c.sent c.given open_door
  pub waits : ways.doors.patience new_door ≡ ways.doors.patience door
  pub begins : (inner_of reader ≡ c.sent) × (inner_of writer ≡ c.given)
  pub parted : ways.doors.parts open_door (inner_of new_reader) (inner_of new_writer) new_door
  pub served : IfOk c.outcome (IsServedSo ways state desk new_desk reader writer new_writer c)
  pub given_up : IfErr c.outcome (IsGivenUpSo ways state desk new_desk reader new_reader writer new_writer c)
  pub kept : OnOk c.outcome (NeitherFails reader new_reader writer new_writer)
  pub turns : KeepsTurns ways.sent reader new_reader most_turns
  pub count : requests_of c.outcome ≡ length c.parts
  pub answers : AreAnswered state c.parts c.replies desk new_desk

-- the next connection came in by a door and was served to this
abbrev pub ServesNext : {D R V S : Type 0} → Ways D R V → (S → State) → S → S → D → D → Result Served DeskFault → Type 0
ServesNext {R = R} {V = V} ways state desk new_desk door new_door outcome =
    (c : Connection R V) × (c.outcome ≡ outcome) × ServesOne ways state desk new_desk door new_door c × HasAdmitted ways new_door (ways.doors.accepted door + 1) (ways.doors.has_failed door)
    × (ways.doors.sent_by c.sent ≡ ways.doors.accepted door + 1) × (ways.doors.given_to c.given ≡ ways.doors.accepted door + 1)

-- connections were served one after another, each from where the one before had left the store and the door
abbrev pub ServesEach : {D R V S : Type 0} → Ways D R V → (S → State) → List (Connection R V) → S → S → D → D → Type 0
ServesEach ways state [] desk new_desk door new_door = (new_desk ≡ desk) × (new_door ≡ door)
ServesEach {D = D} {S = S} ways state (c ∷ connections) desk new_desk door new_door =
    (middle : S) × (between : D) × ServesOne ways state desk middle door between c × ServesEach ways state connections middle new_desk between new_door

-- what a connection came to tells how many requests it brought
abbrev pub IsCounted : {R V : Type 0} → Connection R V → Type 0
IsCounted connection = requests_of connection.outcome ≡ length connection.parts

-- the requests of connections, in order
abbrev pub parts_brought : {R V : Type 0} → List (Connection R V) → List Part
parts_brought connections = flat_map (λ c. c.parts) connections

-- their answers
abbrev pub replies_given : {R V : Type 0} → List (Connection R V) → List Reply
replies_given connections = flat_map (λ c. c.replies) connections

-- how a connection ended, and after how many requests (profile)
abbrev pub outcome_text : Result Served DeskFault → List ℕ
outcome_text (Ok served) = decimal served.requests
outcome_text (Err fault) = fault_text fault

-- the line of a connection under its number (profile)
abbrev pub connection_line : ℕ → Result Served DeskFault → List ℕ
connection_line number outcome = codes "connection " ++ decimal number ++ codes ": " ++ outcome_text outcome ++ codes " requests\n"

-- the lines of connections that are numbered from here on
abbrev pub connection_lines : {R V : Type 0} → ℕ → List (Connection R V) → List ℕ
connection_lines number [] = []
connection_lines number (c ∷ connections) = connection_line number c.outcome ++ connection_lines (number + 1) connections

-- these bytes were printed, or the printer failed
abbrev pub Prints : {W : Type 0} → (W → Option (List ℕ)) → Counted W → Counted W → List ℕ → Type 0
Prints contents out new_out bytes =
    Rises (failures_of out) (failures_of new_out)
    ⊎ ((failures_of new_out ≡ failures_of out) × Appends (contents (inner_of out)) (contents (inner_of new_out)) bytes)

-- so many connections, those that came in one after another behind those that had come in by a door, were served in turn, and the door is
-- left as the last one left it: their requests were answered in turn, and a line was printed for each
pub record ServesConnections {D R V S W : Type 0} (ways : Ways D R V) (state : S → State) (desk new_desk : S) (contents : W → Option (List ℕ)) (out new_out : Counted W) (door new_door : D) (count : ℕ) : Type 0 where
  pub connections : List (Connection R V)
  pub number : length connections ≡ count
  pub numbered : ComeInOrder ways (ways.doors.accepted door + 1) connections
  pub each : ServesEach ways state connections desk new_desk door new_door
  pub counted : AllByRecursion IsCounted connections
  pub answers : AreAnswered state (parts_brought connections) (replies_given connections) desk new_desk
  pub printed : Prints contents out new_out (connection_lines 1 connections)

-- so many more came in by a door, and this is whether one could not be accepted there
abbrev pub AdmitsMore : {D R V : Type 0} → Ways D R V → D → D → ℕ → Bool → Type 0
AdmitsMore ways door new_door count failed = HasAdmitted ways new_door (ways.doors.accepted door + count) failed

-- fewer connections than were asked for were served, since one could not be accepted at the door as the last of them had left it
abbrev pub StopsEarly : {D R V S W : Type 0} → Ways D R V → (S → State) → S → S → (W → Option (List ℕ)) → Counted W → Counted W → D → D → ℕ → Type 0
StopsEarly ways state desk new_desk contents out new_out door new_door connections =
    (count : ℕ) × (count < connections)
    × ((last : _) × ServesConnections ways state desk new_desk contents out new_out door last count) × AdmitsMore ways door new_door count true
