-- Where connections come in: at which address, how many did, and whether one could not be accepted.
use Rattle.std.specs.Prelude.{◌≡◌, ℕ, ◌+◌, Bool, List, [], ◌∷◌, Result, ⊤}
use Rattle.std.specs.Net.Addr.{ipv4_octets}
use Rattle.std.specs.Net.Socket.{v4_ip, v4_port}
use Rattle.std.specs.declared.net.socket_addr.SocketAddrV4.{SocketAddrV4}
use Rattle.http_desk.specs.Counted.{Known}
use Rattle.http_desk.specs.declared.connection.Served.{Served}
use Rattle.http_desk.specs.declared.fault.DeskFault.{DeskFault}
use Rattle.http_text.specs.Part.{Part}
use Rattle.society_core.specs.Requests.{Reply}
use Rattle.desk_connections.specs.declared.door.Door.{Ghosts as Doors}
use Rattle.desk_connections.specs.declared.door.Listen.{Ghosts as Listens}

-- what is known of a door, and of the two ways of a connection: what its peer sends, and what goes to that peer
pub record Ways (D R V : Type 0) : Type 1 where
  pub doors : Doors D R V
  pub sent : Known R
  pub given : Known V

-- a network: what listens at an address, and the ways by the door that it gives
pub record Network (N D R V : Type 0) : Type 1 where
  pub listens : Listens N D R V
  pub ways : Ways D R V

-- the ways by a door of which this is known
abbrev pub ways_by : {D R V : Type 0} → Doors D R V → Known R → Known V → Ways D R V
ways_by doors sent given = record { doors = doors; sent = sent; given = given }

-- a network of which this is known
abbrev pub network : {N D R V : Type 0} → Listens N D R V → Doors D R V → Known R → Known V → Network N D R V
network listens doors sent given = record { listens = listens; ways = ways_by doors sent given }

-- a connection came in by a door, whose peer is waited for by both its ways for as long as the door has patience
abbrev pub Admits : {D R V : Type 0} → Ways D R V → D → R → V → D → Type 0
Admits ways door sent given new_door =
    ways.doors.admits door sent given new_door × (ways.doors.sent_patience sent ≡ ways.doors.patience door) × (ways.doors.given_patience given ≡ ways.doors.patience door)

-- so many came in by a door, and this is whether one could not be accepted there
abbrev pub HasAdmitted : {D R V : Type 0} → Ways D R V → D → ℕ → Bool → Type 0
HasAdmitted ways door count failed = (ways.doors.accepted door ≡ count) × (ways.doors.has_failed door ≡ failed)

-- an address is this port of this machine alone: 127.0.0.1 (RFC 1122, 3.2.1.3)
abbrev pub IsLoopback : ℕ → SocketAddrV4 → Type 0
IsLoopback port address = (ipv4_octets (v4_ip address) ≡ 127 ∷ 0 ∷ 0 ∷ 1 ∷ []) × (v4_port address ≡ port)

-- a door, as it was when something began to listen by it at this port of this machine alone, and as it was when so many connections had come
-- in, and this is whether one could not be accepted; it has so many seconds of patience
pub record CameIn {N D R V : Type 0} (net : Network N D R V) (port patience count : ℕ) (failed : Bool) (door ended : D) : Type 0 where
  pub address : SocketAddrV4
  pub is_here : IsLoopback port address
  pub listens : net.listens.listens_at address door
  pub patient : net.ways.doors.patience door ≡ patience
  pub admitted : HasAdmitted net.ways ended count failed

-- a connection: its two ways as it came in, the requests that it brought, their answers, and what it came to
pub record Connection (R V : Type 0) : Type 0 where
  pub sent : R
  pub given : V
  pub parts : List Part
  pub replies : List Reply
  pub outcome : Result Served DeskFault

-- they are the connections that came in one after another, from this number on
abbrev pub ComeInOrder : {D R V : Type 0} → Ways D R V → ℕ → List (Connection R V) → Type 0
ComeInOrder ways number [] = ⊤
ComeInOrder ways number (c ∷ connections) =
    (ways.doors.sent_by c.sent ≡ number) × (ways.doors.given_to c.given ≡ number) × ComeInOrder ways (number + 1) connections
