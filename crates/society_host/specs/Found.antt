-- What is found of a file when it is opened.
use Rattle.std.specs.Prelude.{◌≡◌, ◌⊎◌, ℕ, Bool, List, false, true}
use Rattle.sqlite.specs.Files.{IsBlankAs, file_state}
use Rattle.sqlite.specs.Held.{Held}
use Rattle.sqlite.specs.Start.{FindsIn}
use Rattle.sqlite.specs.State as connection
use Rattle.sqlite_disk.specs.declared.Disk.{Ghosts}
use Rattle.sqlite_store.specs.FileStore.{view}
use Rattle.sqlite_store.specs.declared.store.FileStore.{FileStore}
use Rattle.sqlite_wal.specs.Recovery.{Image}
use Rattle.sqlite.specs.declared.error.Error.{Error}
use Rattle.log_reading.specs.declared.source.ReadAt.{Ghosts as Reads}
use Rattle.society_opening.specs.declared.open_fault.OpenFault.{OpenFault}
use Rattle.society_host.specs.Examined.{IsExamined, IsToldExamined, IsToldNone}
use Rattle.society_host.specs.Looks.{ArePrivate, FailsToFind, FindsAt}
use Rattle.society_host.specs.Refusals.{FaultsAs}
use Rattle.society_host.specs.declared.machine.Machine.{Ghosts as Machine}
use Rattle.society_host.specs.declared.reading.ReadFiles.{Ghosts as Files}

-- A connection to a file that was opened and held this: over a disk that tells the truth it is open, and shows the database that the file
-- and its log recover to; and where there was no database yet, each page of the new one has its sum.
pub record IsFoundIn {F : Type 0} {g : Ghosts F} (image : Image) (conn : Held (FileStore F g)) : Type 0 where
  pub shows : connection.HasCleanDisk (file_state conn) → connection.Opens (file_state conn) × connection.IsLive (file_state conn) × FindsIn image (file_state conn)
  pub sums : connection.HasCleanDisk (file_state conn) → IsBlankAs true image → (view conn.store).has_sums ≡ true

-- A database was opened at a path: looks found one there, or that there is none, and then its file and log, which are new, are left to their owner;
-- what was read of them before stands; and the connection shows what they held.
pub record IsOpenedSo {M R F : Type 0} {g : Ghosts F} (m : Machine M) (files : Files M R) (reads : Reads R) (image : Image) (path : List ℕ) (conn : Held (FileStore F g)) : Type 0 where
  pub looked : FindsAt m path true ⊎ (FindsAt m path false × ArePrivate m path)
  pub examined : IsExamined files reads path
  pub opened : m.is_opened path
  pub found : IsFoundIn image conn

-- why a database may not be opened at a path: looks failed, or what was read of it forbids it
abbrev pub WhyForbidden : {M R : Type 0} → Machine M → Files M R → Reads R → List ℕ → OpenFault → Type 0
WhyForbidden m files reads path told = FailsToFind m path told ⊎ IsToldExamined files reads path told

-- why one could not be opened there, with or without files left: by the error with which opening it failed so
abbrev pub WhyUnopened : {M R : Type 0} → Machine M → Files M R → Reads R → List ℕ → Bool → OpenFault → Type 0
WhyUnopened m files reads path leaves told = (error : Error) × m.fails_to_open path error leaves × FaultsAs (IsToldNone files reads path) error told
