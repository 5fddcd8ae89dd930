-- What connections come to that are served one after another, and the lines that are printed of them.
use Rattle.std.specs.Prelude.{◌≡◌, ◌≢◌, ◌⊎◌, ℕ, ◌<◌, ◌≤◌, Bool, true, false, IfOk, IsTrue, List, ⊤, ◌++◌, Option, Result, Ok, Err, codes, length}
use Rattle.std.specs.List.{AllByRecursion}
use Rattle.std.specs.declared.net.socket_addr.SocketAddrV4.{SocketAddrV4}
use Rattle.http_desk.specs.Serves.{AreAnswered}
use Rattle.http_desk.specs.declared.counted.Counted.{Counted}
use Rattle.http_desk.specs.declared.fault.DeskFault.{DeskFault}
use Rattle.share_rules.specs.declared.office.Office.{Office}
use Rattle.credit_listing.specs.Answered.{BreaksListing, EndsListing, ListsCredits}
use Rattle.sqlite.specs.Files.{file_state}
use Rattle.sqlite.specs.Held.{Held, IsNew}
use Rattle.sqlite.specs.Effect.{Database}
use Rattle.sqlite.specs.State as connection
use Rattle.sqlite_trees.specs.Tree.{Trees}
use Rattle.sqlite_disk.specs.declared.Disk as disk
use Rattle.sqlite_store.specs.declared.store.FileStore.{FileStore}
use Rattle.society_core.specs.Book.{Book, empty_book}
use Rattle.society_core.specs.State.{HasFailed, State}
use Rattle.society_rows.specs.Effects.{MayFail}
use Rattle.society_rows.specs.Finding.{IsFound}
use Rattle.society_rows.specs.Layouts.{HasOlder}
use Rattle.society_rows.specs.NewBook.{IsBare}
use Rattle.society_rows.specs.Stored.{HasLayout}
use Rattle.society_rows.specs.declared.fault.RowFault.{RowFault}
use Rattle.society_rows.specs.declared.finding.Found.{Found}
use Rattle.society_rows.specs.declared.finding.Found.TheVariants as finding
use Rattle.society_rows.specs.declared.older.OlderLayout.{OlderLayout}
use Rattle.society_book.specs.BookRows.{book_of}
use Rattle.society_opening.specs.Existing.{FindsSoundly, IsSoundIn, SurvivesTaking, WhenOpen}
use Rattle.society_opening.specs.Older.{HoldsOne, Takes}
use Rattle.society_opening.specs.Opening.{HasAnyLayout, IsOpenable, ShowsAs, SurvivesOpening, TellsDatabase, open_fault_by}
use Rattle.society_opening.specs.declared.open_fault.OpenFault.{OpenFault}
use Rattle.society_opening.specs.declared.open_fault.OpenFault.TheVariants.{Empty, Schema, Store}
use Rattle.society_arguments.specs.declared.words.Listening.{Listening}
use Rattle.society_commands.specs.Closing.{HandsBack}
use Rattle.desk_connections.specs.Connections.{IsCounted, Prints, ServesEach, connection_lines, parts_brought, replies_given}
use Rattle.desk_connections.specs.Doors.{CameIn, ComeInOrder, Connection, IsLoopback, Network}
use Rattle.society_commands.specs.declared.machine.OpenDatabase.{Ghosts as Opens}
use Rattle.society_commands.specs.declared.left.Left.{Left}
use Rattle.society_commands.specs.declared.left.Left.TheVariants as left
use Rattle.society_commands.specs.declared.listened.Listened.{Listened}
use Rattle.society_commands.specs.declared.listened.Listened.TheVariants as heard
use Rattle.society_commands.specs.declared.opening.Job.{Job}
use Rattle.society_commands.specs.declared.trouble.Trouble.{Trouble}
use Rattle.society_commands.specs.declared.trouble.Trouble.TheVariants as trouble
use Rattle.society_commands.specs.declared.trouble.Trouble.TheVariants.{NoConnection, NoListener, Orders}
use Rattle.society_commands.specs.Troubles.{Tells, TellsOpened, Warns}
use Rattle.society_arguments.specs.Words.{Asked, AsksAudit, AsksCredit, AsksReplay, AsksServe, Serving, serving_of}

-- what is served by a job at an office
abbrev pub serving_as : Job → Office → Serving
serving_as job office = serving_of job.database job.place office

-- the door is as the last connection left it, where it is not that one more could not be accepted
abbrev pub IsLeftAs : {D : Type 0} → Bool → D → D → Type 0
IsLeftAs false last ended = ended ≡ last
IsLeftAs true last ended = ⊤

-- So many connections came in at a place, on this machine alone, were served over a store, and nothing else was asked of it; `listening` was
-- printed before, and a line for each. Each that could be accepted was served, in the order in which they came in and whatever became of
-- those before; this is whether the next one could not be, and what is left of what listened: the door as the last connection left it.
pub record ServesStore {N D R V S W : Type 0} (net : Network N D R V) (state : S → State) (desk new_desk : S) (contents : W → Option (List ℕ))
    (out new_out : Counted W) (place : Listening) (count : ℕ) (failed : Bool) (listened : Listened N D) : Type 0 where
  pub door : D
  pub last : D
  pub ended : D
  pub connections : List (Connection R V)
  pub number : length connections ≡ count
  pub numbered : ComeInOrder net.ways 1 connections
  pub each : ServesEach net.ways state connections desk new_desk door last
  pub counted : AllByRecursion IsCounted connections
  pub answers : AreAnswered state (parts_brought connections) (replies_given connections) desk new_desk
  pub printed : Prints contents out new_out (codes "listening\n" ++ connection_lines 1 connections)
  pub came_in : CameIn net place.port place.patience count failed door ended
  pub kept : IsLeftAs failed last ended
  pub left : listened ≡ heard.Door ended

-- what listens was not used
abbrev pub IsUnheard : {N D : Type 0} → N → Listened N D → Type 0
IsUnheard net listened = listened ≡ heard.Unused net

-- nothing can listen at a port of this machine alone
abbrev pub CannotListen : {N D R V : Type 0} → Network N D R V → ℕ → Type 0
CannotListen net port = (address : SocketAddrV4) × IsLoopback port address × net.listens.may_fail_at address

-- serving over a store ended early, as is told: it could not listen, so the store is the same and nothing was printed; or fewer connections
-- came than were asked for, and then one could not be accepted
abbrev pub StopsServingStore : {N D R V S W : Type 0} → Network N D R V → (S → State) → S → S → (W → Option (List ℕ)) → Counted W → Counted W
    → Listening → (Trouble → Type 0) → Listened N D → Type 0
StopsServingStore net state desk new_desk contents out new_out place Told listened =
    (CannotListen net place.port × (new_desk ≡ desk) × (new_out ≡ out) × Told (NoListener place.port) × (listened ≡ heard.Refused))
    ⊎ ((count : ℕ) × (count < place.connections) × ServesStore net state desk new_desk contents out new_out place count true listened
    × Told NoConnection)

-- a book is that of the tables that older ones of an office were taken over into
abbrev pub IsTakenBook : Office → OlderLayout → Trees → Book → Type 0
IsTakenBook office layout old book = (new : Trees) × Takes office layout old new × (book ≡ book_of new)

-- What a store shows that is opened over what a connection was found with: it is the office's, and has counted no failure; where there was no table its book is
-- empty, where there were those of layout 3 they held a sound book with what is derived from it, and that is its book, and where there
-- were those of an older layout its book is that of what they were taken over into. Where the database had to be an office's already,
-- there were tables. Over a connection that was found open it is clean, unless its disk failed or did not tell the truth.
pub record IsOver (office : Office) (existing : Bool) (found : connection.State) (begun : State) : Type 0 where
  pub office_is : begun.office ≡ office
  pub uncounted : begun.failures ≡ 0
  pub faults : found.faults ≤ begun.faults
  pub clean : IsTrue begun.is_honest → IsTrue found.is_open → IsTrue begun.is_clean ⊎ HasFailed found.faults begun.faults
  pub there : IsTrue existing → IsTrue found.is_open → IsTrue begun.is_clean → HasAnyLayout found.committed
  pub known : IsTrue found.is_open → IsTrue begun.is_clean → IsOpenable found.committed
  pub bare : IsTrue found.is_open → IsTrue begun.is_clean → IsBare found.committed → begun.book ≡ empty_book
  pub kept : IsTrue found.is_open → IsTrue begun.is_clean → HasLayout found.committed
      → HoldsOne office found.committed.trees × (begun.book ≡ book_of found.committed.trees)
  pub taken : IsTrue found.is_open → IsTrue begun.is_clean → (layout : OlderLayout) → HasOlder layout found.committed
      → IsTakenBook office layout found.committed.trees begun.book

-- what a crash leaves in an opening: what it left before, or the whole of what older tables become, or also the new book of the office,
-- where one may begin and no table was there
abbrev pub LeavesOpening : Bool → Office → connection.State → connection.State → Type 0
LeavesOpening true office found left = SurvivesTaking office found left
LeavesOpening false office found left = SurvivesOpening office found left

-- A database was not opened as the office's, for this fault: its connection shows what was committed, and a crash leaves what it left
-- before or what opening may leave. Where it had to be an office's already and has no table, it is told as empty; a failure
-- of the store is told only where there may have been one.
pub record IsNotOpened (office : Office) (existing : Bool) (fault : OpenFault) (found left : connection.State) : Type 0 where
  pub told : connection.HasCleanDisk left → IsTrue found.is_open → TellsDatabase office found.committed fault
  pub empty : IsTrue existing → IsTrue found.is_open → IsBare found.committed → fault ≡ Empty
  pub failed : WhenOpen found left (fault ≡ Store → MayFail found left)
  pub unchanged : connection.HasCleanDisk left → ShowsAs found.committed left
  pub crash : LeavesOpening existing office found left

-- A database that had to be an office's was not found to be a sound one, for this fault, and it was left as it was, of whatever layout.
pub record IsNotSound (office : Office) (fault : OpenFault) (found left : connection.State) : Type 0 where
  pub not_opened : IsNotOpened office true fault found left
  pub crash : connection.Survives found left (λ db. ⊥)

-- and this fault was told
abbrev pub TellsUnsound : Office → connection.State → connection.State → (Trouble → Type 0) → Type 0
TellsUnsound office found left Told = (fault : OpenFault) × IsNotSound office fault found left × Told (trouble.Database fault)

-- a database was found to hold a sound book of the office with what is derived from it, or to be of an older layout and stand for one that
-- does; it shows that still, and a crash leaves what it left before
pub record IsSoundDatabase (office : Office) (found left : connection.State) : Type 0 where
  pub sound : FindsSoundly office found left
  pub crash : connection.Survives found left (λ db. ⊥)

-- a connection was opened at a path: it is new, is what it may be there, and where a database had to be there, it was
pub record IsOpenedAt {O F : Type 0} {g : disk.Ghosts F} (opens : Opens O F) (path : List ℕ) (existing : Bool) (conn : Held (FileStore F g)) : Type 0 where
  pub new : IsNew conn
  pub shows : opens.may_open g path conn
  pub there : IsTrue existing → opens.may_find path true

-- what could have opened a database was not used, so nothing was opened
abbrev pub IsUnused : {F O : Type 0} {g : disk.Ghosts F} → O → Left F O g → Type 0
IsUnused opener rest = rest ≡ left.Unused opener

-- at a path where a database had to be there was none, or the look at it failed, and this is told: then the opener was not used
abbrev pub FindsNone : {O F : Type 0} {g : disk.Ghosts F} → Opens O F → O → List ℕ → OpenFault → Left F O g → Type 0
FindsNone opens opener path fault rest = ((opens.may_find path false × (fault ≡ Empty)) ⊎ opens.may_fail path fault) × IsUnused opener rest

-- no database was opened at a path, for this fault: it had to be there and was not found; or it was refused, and this is left
abbrev pub LeavesRefused : {O F : Type 0} {g : disk.Ghosts F} → Opens O F → O → List ℕ → Bool → OpenFault → Left F O g → Type 0
LeavesRefused {g = g} opens opener path existing fault rest = (IsTrue existing × FindsNone opens opener path fault rest) ⊎ opens.may_refuse g path fault rest

-- a database that was there was opened at a path, audited and found sound; its connection is left, and `sound` was printed
abbrev pub FindsSound : {O F W : Type 0} {g : disk.Ghosts F} → Opens O F → List ℕ → Office → (W → Option (List ℕ)) → Counted W → Counted W → Left F O g → Type 0
FindsSound {F = F} {g = g} opens path office contents out new_out rest =
    (conn : Held (FileStore F g)) × IsOpenedAt opens path true conn
    × ((ended : Held (FileStore F g)) × IsSoundDatabase office (file_state conn) (file_state ended) × (rest ≡ left.Connection ended))
    × Prints contents out new_out (codes "sound\n")

-- no database was opened at a path to be audited, or one was and is not sound; each is told, it is left as it was, and nothing was printed
abbrev pub FindsUnsound : {O F W E : Type 0} {g : disk.Ghosts F} → Opens O F → O → List ℕ → Office → Counted W → Counted W
    → (E → Option (List ℕ)) → Counted E → Counted E → Left F O g → Type 0
FindsUnsound {F = F} {g = g} opens opener path office out new_out says err new_err rest =
    (((fault : OpenFault) × LeavesRefused opens opener path true fault rest × Tells says err new_err (trouble.Database fault))
    ⊎ ((conn : Held (FileStore F g)) × IsOpenedAt opens path true conn
    × ((ended : Held (FileStore F g)) × TellsUnsound office (file_state conn) (file_state ended) (TellsOpened opens says err new_err path)
    × (rest ≡ left.Connection ended))))
    × (new_out ≡ out)

-- readings leave a connection at rest as it was: what was committed is shown still, and a crash leaves what it left before
pub record ShowsStill (old new : connection.State) : Type 0 where
  pub was_open : connection.HasCleanDisk new → IsTrue new.is_open → IsTrue old.is_open
  pub shown : connection.HasCleanDisk new → IsTrue new.is_open → (new.now ≡ old.committed) × (new.committed ≡ old.committed)
  pub crash : connection.Survives old new (λ db. ⊥)

-- by the tables of a database, where it has layout 3, this was listed
abbrev pub ListsOver : connection.State → connection.State → (Trees → Type 0) → Type 0
ListsOver old new Lists = connection.HasCleanDisk new → HasLayout old.now → Lists old.now.trees

-- this holds of a database, where the disk told the truth
abbrev pub WhereClean : connection.State → connection.State → (Database → Type 0) → Type 0
WhereClean old new Holds = connection.HasCleanDisk new → Holds old.now

-- a database was found to be of no layout, or of another one than 3
abbrev pub FindsOther : Database → Type 0
FindsOther db = (what : Found) × IsFound db what × (what ≢ finding.Layout)

-- by the tables of a database, where it has layout 3, a listing that ended said this
abbrev pub EndsOver : {R W E : Type 0} → connection.State → connection.State → Office → (R → Option (List ℕ)) → (W → Option (List ℕ)) → (E → Option (List ℕ))
    → Counted R → Counted R → Counted W → Counted W → Counted E → Counted E → Result (Result Bool DeskFault) RowFault → Type 0
EndsOver old new office remaining contents says reader new_reader out new_out err new_err result =
    IfOk result (λ listed. ListsOver old new (λ db. EndsListing office remaining contents says reader new_reader out new_out err new_err db listed))

-- all that a reader gave was listed by tables, and each line was answered by rows
abbrev pub ListsEach : {R W : Type 0} → (E : Type 0) → (E → Option (List ℕ)) → Office → (R → Option (List ℕ)) → (W → Option (List ℕ)) → Counted R → Counted R
    → Counted W → Counted W → Trees → Type 0
ListsEach E says office remaining contents reader new_reader out new_out db =
    (err : Counted E) × (new_err : Counted E) × ListsCredits office remaining contents says reader new_reader out new_out err new_err db true

-- What telling of orders leaves of a database that a connection was found with: what was committed is shown still, and a crash leaves what it
-- left before. Where all were answered it is a sound book of the office, of layout 3 or an older one, and this was listed by it.
pub record CreditsOver (office : Office) (found left : connection.State) (status : ℕ) (Lists : Trees → Type 0) : Type 0 where
  pub shown : WhenOpen found left (ShowsAs found.committed left)
  pub sound : status ≡ 0 → WhenOpen found left (IsSoundIn office found.committed)
  pub listed : status ≡ 0 → WhenOpen found left (IsTrue left.is_open → Lists found.committed.trees)
  pub crash : connection.Survives found left (λ db. ⊥)

-- a database that was there was opened at a path, orders were told of over it with this status, and its connection is left
abbrev pub CreditsOpened : {O F : Type 0} {g : disk.Ghosts F} → Opens O F → List ℕ → Office → ℕ → (Trees → Type 0) → Left F O g → Type 0
CreditsOpened {F = F} {g = g} opens path office status Lists rest =
    (conn : Held (FileStore F g)) × IsOpenedAt opens path true conn
    × ((ended : Held (FileStore F g)) × CreditsOver office (file_state conn) (file_state ended) status Lists × (rest ≡ left.Connection ended))

-- Not all that a reader gave was answered by rows, by tables: a line was refused, which was told; or the listing broke off at a fault, and that
-- was told behind what was.
abbrev pub ListsSome : {R W E : Type 0} → Office → (R → Option (List ℕ)) → (W → Option (List ℕ)) → (E → Option (List ℕ)) → Counted R → Counted R → Counted W → Counted W
    → Counted E → Counted E → Trees → Type 0
ListsSome {E = E} office remaining contents says reader new_reader out new_out err new_err db =
    ListsCredits office remaining contents says reader new_reader out new_out err new_err db false
    ⊎ ((fault : DeskFault) × (between : Counted E) × BreaksListing office remaining contents says reader new_reader out new_out err between db fault
    × Tells says between new_err (Orders fault))

-- why not all orders were answered by rows over a database of which this is known: it is of another layout, which was told, and nothing was read
-- or written; or a row could not be had, which was told last; or not all that was listed were
abbrev pub StopsListing : {R W E : Type 0} → ((Database → Type 0) → Type 0) → Office → (R → Option (List ℕ)) → (W → Option (List ℕ)) → (E → Option (List ℕ)) → Counted R → Counted R
    → Counted W → Counted W → Counted E → Counted E → Type 0
StopsListing {E = E} Over office remaining contents says reader new_reader out new_out err new_err =
    (Over FindsOther × (new_reader ≡ reader) × (new_out ≡ out) × Tells says err new_err (trouble.Database Schema))
    ⊎ (((fault : RowFault) × (between : Counted E) × Tells says between new_err (trouble.Database (open_fault_by fault)))
    ⊎ Over (λ db. ListsSome office remaining contents says reader new_reader out new_out err new_err db.trees))

-- what a listing that was done over what a connection was found with says of its database
abbrev pub OverFound : connection.State → connection.State → (Database → Type 0) → Type 0
OverFound found left Holds = WhenOpen found left (IsTrue left.is_open → Holds found.committed)

-- why not all orders were answered by rows over a database: it is not the office's or not sound, which was told, and nothing was read or written;
-- or a listing stopped
abbrev pub StopsOver : {R W E : Type 0} → Office → connection.State → connection.State → (R → Option (List ℕ)) → (W → Option (List ℕ)) → (E → Option (List ℕ)) → Counted R → Counted R
    → Counted W → Counted W → Counted E → Counted E → Type 0
StopsOver office found left remaining contents says reader new_reader out new_out err new_err =
    (TellsUnsound office found left (Tells says err new_err) × (new_reader ≡ reader) × (new_out ≡ out))
    ⊎ StopsListing (OverFound found left) office remaining contents says reader new_reader out new_out err new_err

-- no database was opened at a path to tell of orders, this was told, and nothing was read or written; or one was, it is left as it was, and not all
-- was done
abbrev pub StopsCrediting : {O F R W E : Type 0} {g : disk.Ghosts F} → Opens O F → O → List ℕ → Office → (R → Option (List ℕ)) → (W → Option (List ℕ)) → (E → Option (List ℕ))
    → Counted R → Counted R → Counted W → Counted W → Counted E → Counted E → Left F O g → Type 0
StopsCrediting {F = F} {E = E} {g = g} opens opener path office remaining contents says reader new_reader out new_out err new_err rest =
    ((fault : OpenFault) × LeavesRefused opens opener path true fault rest × Tells says err new_err (trouble.Database fault) × (new_reader ≡ reader) × (new_out ≡ out))
    ⊎ ((between : Counted E) × Warns opens says err between path × (conn : Held (FileStore F g)) × IsOpenedAt opens path true conn
    × ((ended : Held (FileStore F g)) × CreditsOver office (file_state conn) (file_state ended) 1 (λ db. ⊤)
    × StopsOver office (file_state conn) (file_state ended) remaining contents says reader new_reader out new_out between new_err × (rest ≡ left.Connection ended)))

-- so many connections were served over a store that was opened over what a connection was found with, and this is the store behind them
abbrev pub ServesDatabase : {N D R V S W : Type 0} → Network N D R V → (S → State) → Office → Bool → connection.State → S → (W → Option (List ℕ))
    → Counted W → Counted W → Listening → Listened N D → Type 0
ServesDatabase {S = S} net state office existing found ended contents out new_out place listened =
    (begun : S) × IsOver office existing found (state begun)
    × ServesStore net state begun ended contents out new_out place place.connections false listened

-- serving so ended early, and this is the store then
abbrev pub StopsServingDatabase : {N D R V S W : Type 0} → Network N D R V → (S → State) → Office → Bool → connection.State → S
    → (W → Option (List ℕ)) → Counted W → Counted W → Listening → (Trouble → Type 0) → Listened N D → Type 0
StopsServingDatabase {S = S} net state office existing found ended contents out new_out place Told listened =
    (begun : S) × IsOver office existing found (state begun) × StopsServingStore net state begun ended contents out new_out place Told listened

-- so many connections were served over a database, and its store is left as they left it
abbrev pub LeavesServed : {C N D R V S W : Type 0} → Network N D R V → (S → State) → Serving → connection.State → Result S C
    → (W → Option (List ℕ)) → Counted W → Counted W → Listened N D → Type 0
LeavesServed net state s found (Ok ended) contents out new_out listened =
    ServesDatabase net state s.office s.existing found ended contents out new_out s.place listened
LeavesServed net state s found (Err left) contents out new_out listened = ⊥

-- what is known of files, what opens databases in them, and what is seen of the tables there: the state of their store, and their connection
pub record FileTables (F O S : Type 0) : Type 1 where
  pub file : disk.Ghosts F
  pub opens : Opens O F
  pub state : S → State
  pub connection : S → Held (FileStore F file)

-- serving ended early, and its store is left as the connections left it; or the database was not opened, its connection is left as
-- opening left it, nothing was printed, and nothing listened; each is told
abbrev pub LeavesBroken : {F N D R V O S W E : Type 0} → Network N D R V → (files : FileTables F O S) → N → Serving
    → Held (FileStore F files.file) → Result S (Held (FileStore F files.file)) → (W → Option (List ℕ)) → Counted W → Counted W
    → (E → Option (List ℕ)) → Counted E → Counted E → Listened N D → Type 0
LeavesBroken net files host s found (Ok ended) contents out new_out says err new_err listened =
    StopsServingDatabase net files.state s.office s.existing (file_state found) ended contents out new_out s.place (Tells says err new_err) listened
LeavesBroken net files host s found (Err left) contents out new_out says err new_err listened =
    (fault : OpenFault) × IsNotOpened s.office s.existing fault (file_state found) (file_state left) × (new_out ≡ out)
    × Tells says err new_err (trouble.Database fault) × IsUnheard host listened

-- the database of a path was opened, as many connections as were asked for were served over it, and its store was closed as they left it
abbrev pub ServesOpened : {F N D R V O S W : Type 0} → Network N D R V → (files : FileTables F O S)
    → Serving → (W → Option (List ℕ)) → Counted W → Counted W → Left F O files.file → Listened N D → Type 0
ServesOpened {F = F} {S = S} net files s contents out new_out rest listened =
    (conn : Held (FileStore F files.file)) × IsOpenedAt files.opens s.path s.existing conn
    × ((ended : Result S (Held (FileStore F files.file))) × LeavesServed net files.state s (file_state conn) ended contents out new_out listened
    × HandsBack files.state files.connection ended rest)

-- serving so ended early: no database could be opened, nothing was printed, and nothing listened; or, behind whether others may write its
-- file, this was left of it, and closed where it is a store; each is told
abbrev pub StopsServing : {F N D R V O S W E : Type 0} → Network N D R V → (files : FileTables F O S)
    → N → O → Serving → (W → Option (List ℕ)) → Counted W → Counted W → (E → Option (List ℕ)) → Counted E → Counted E
    → Left F O files.file → Listened N D → Type 0
StopsServing {F = F} {S = S} {E = E} net files host opener s contents out new_out says err new_err rest listened =
    ((fault : OpenFault) × LeavesRefused files.opens opener s.path s.existing fault rest × (new_out ≡ out) × Tells says err new_err (trouble.Database fault)
    × IsUnheard host listened)
    ⊎ ((conn : Held (FileStore F files.file)) × IsOpenedAt files.opens s.path s.existing conn
    × ((between : Counted E) × Warns files.opens says err between s.path
    × ((ended : Result S (Held (FileStore F files.file))) × LeavesBroken net files host s conn ended contents out new_out says between new_err listened
    × HandsBack files.state files.connection ended rest)))

-- but to serve a database, to audit one or to tell of orders over one, words ask to open nothing: the opener is left as it was given
abbrev pub UsesNothing : {F O : Type 0} {g : disk.Ghosts F} → Asked → O → Left F O g → Type 0
UsesNothing (AsksServe path existing place society territory name) opener rest = ⊤
UsesNothing (AsksAudit path society territory name) opener rest = ⊤
UsesNothing (AsksCredit path society territory name) opener rest = ⊤
UsesNothing asked opener rest = IsUnused opener rest

-- but to serve a database, words ask for nothing that listens: it is left as it was given
abbrev pub ListensNowhere : {N D : Type 0} → Asked → N → Listened N D → Type 0
ListensNowhere (AsksServe path existing place society territory name) net listened = ⊤
ListensNowhere asked net listened = IsUnheard net listened

-- but to replay a stream and to tell of orders, words ask to read nothing: the reader is as it was
abbrev pub ReadsNothing : {R : Type 0} → Asked → Counted R → Counted R → Type 0
ReadsNothing (AsksReplay society territory name) reader new_reader = ⊤
ReadsNothing (AsksCredit path society territory name) reader new_reader = ⊤
ReadsNothing asked reader new_reader = new_reader ≡ reader
