-- What was served over a store, and over a database.
use Rattle.std.proofs.Common.{◌≡◌, ◌+◌, ℕ, Bool, List, Option, arith, false, refl, subst, sym}
use Rattle.std.specs.Prelude.{codes}
use Rattle.std.specs.declared.net.socket_addr.SocketAddrV4.{SocketAddrV4}
use Rattle.http_desk.specs.declared.counted.Counted.{Counted}
use Rattle.society_core.specs.State.{State}
use Rattle.sqlite.specs.State as connection
use Rattle.share_rules.specs.declared.office.Office.{Office}
use Rattle.society_arguments.specs.declared.words.Listening.{Listening}
use Rattle.desk_connections.specs.Connections.{AdmitsMore, Prints, ServesConnections, connection_lines}
use Rattle.desk_connections.specs.Doors.{CameIn, ComeInOrder, IsLoopback, Network}
use Rattle.desk_connections.proofs.lemmas.ConnectionLemmas.{prints_on}
use Rattle.society_commands.specs.declared.listened.Listened.{Listened}
use Rattle.society_commands.specs.declared.listened.Listened.TheVariants as heard
use Rattle.society_commands.specs.declared.trouble.Trouble.{Trouble}
use Rattle.society_commands.specs.Connections.{IsLeftAs, IsOver, ServesDatabase, ServesStore, StopsServingDatabase, StopsServingStore}

-- connections came in at a port, by a door by which nobody had come in
pub came_in : {N D R V : Type 0} (net : Network N D R V) (address : SocketAddrV4) (door ended : D) (port patience count : ℕ) (failed : Bool)
    → IsLoopback port address → net.listens.listens_at address door → net.ways.doors.patience door ≡ patience → net.ways.doors.accepted door ≡ 0 → AdmitsMore net.ways door ended count failed
    → CameIn net port patience count failed door ended
came_in net address door ended port patience count failed here listens patient none admitted = record {
  address = address;
  is_here = here;
  listens = listens;
  patient = patient;
  admitted = (let e = admitted.0 in omega (arith, none, e), admitted.1);
}

-- what was served over a store, behind `listening`, by a door by which nobody had come in
pub serves_store : {N D R V S W : Type 0} (net : Network N D R V) (state : S → State) (desk new_desk : S) (contents : W → Option (List ℕ)) (first out new_out : Counted W) (door last ended : D) (place : Listening) (count : ℕ) (failed : Bool)
    → Prints contents first out (codes "listening\n") → net.ways.doors.accepted door ≡ 0 → ServesConnections net.ways state desk new_desk contents out new_out door last count
    → CameIn net place.port place.patience count failed door ended → IsLeftAs failed last ended
    → ServesStore net state desk new_desk contents first new_out place count failed (heard.Door ended)
serves_store net state desk new_desk contents first out new_out door last ended place count failed listening none s came kept = record {
  door = door;
  last = last;
  ended = ended;
  connections = s.connections;
  number = s.number;
  numbered = subst (λ (n : ℕ). ComeInOrder net.ways (n + 1) s.connections) none s.numbered;
  each = s.each;
  counted = s.counted;
  answers = s.answers;
  printed = prints_on contents first out new_out (codes "listening\n") (connection_lines 1 s.connections) listening s.printed;
  came_in = came;
  kept = kept;
  left = refl;
}

-- a store over a database was served, from where it was opened to where it is left
module _ {N D R V S W : Type 0} (net : Network N D R V) (opened begun ended last : S) (state : S → State) (office : Office) (existing : Bool) (found : connection.State) (over : IsOver office existing found (state opened)) (same : begun ≡ opened) (stays : last ≡ ended)
    (contents : W → Option (List ℕ)) (out new_out : Counted W) (place : Listening) (listened : Listened N D) where
  pub serves_database : ServesStore net state begun ended contents out new_out place place.connections false listened → ServesDatabase net state office existing found last contents out new_out place listened
  serves_database s = (
    opened,
    over,
    subst (λ (d : S). ServesStore net state opened d contents out new_out place place.connections false listened) (sym stays)
        (subst (λ (d : S). ServesStore net state d ended contents out new_out place place.connections false listened) same s),
  )

  pub stops_database : (Told : Trouble → Type 0) → StopsServingStore net state begun ended contents out new_out place Told listened → StopsServingDatabase net state office existing found last contents out new_out place Told listened
  stops_database Told s = (
    opened,
    over,
    subst (λ (d : S). StopsServingStore net state opened d contents out new_out place Told listened) (sym stays)
        (subst (λ (d : S). StopsServingStore net state d ended contents out new_out place Told listened) same s),
  )
