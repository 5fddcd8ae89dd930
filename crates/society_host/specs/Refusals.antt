-- What is said where a database is not opened on this machine.
use Rattle.std.specs.Prelude.{◌≡◌, ◌⊎◌, ℕ, Bool, false, true, List, [], ◌∷◌, ◌++◌, Option, Some, None, Result, Ok, Err, bytes_eq, codes, if◌then◌else◌, nat_lt}
use Rattle.std.specs.declared.io.ErrorKind.{ErrorKind}
use Rattle.std.specs.declared.io.ErrorKind.TheVariants.{NotFound}
use Rattle.sqlite.specs.Files.{HoldsDatabase, IsCleanLeft, IsNothing, LeavesFiles, faults_left, faults_of, image_of}
use Rattle.sqlite.specs.declared.error.Error.{Error}
use Rattle.sqlite.specs.declared.file.Leftover.{Leftover}
use Rattle.sqlite.specs.declared.error.Error.TheVariants.{SqliteFailure}
use Rattle.sqlite.specs.declared.error.ErrorCode.TheVariants.{DatabaseCorrupt, NotADatabase, OutOfMemory}
use Rattle.sqlite_disk.specs.Disk.{MoreFaults}
use Rattle.sqlite_disk.specs.declared.Disk.{Ghosts}
use Rattle.sqlite_disk.specs.declared.Files.{Files}
use Rattle.sqlite_trees.specs.Tree.{Trees}
use Rattle.sqlite_wal.specs.Recovery.{Image}
use Rattle.society_opening.specs.declared.open_fault.OpenFault.{OpenFault}
use Rattle.society_opening.specs.declared.open_fault.OpenFault.TheVariants as fault
use Rattle.society_commands.specs.declared.left.Left.{Left}
use Rattle.society_commands.specs.declared.left.Left.TheVariants.{Refused, Unopened}

-- what every database file begins with (SQLite's file format, 1.3.1)
abbrev pub file_header : List ℕ
file_header = codes "SQLite format 3" ++ 0 ∷ []

-- what an error of opening a file is told as, where this is told of no database: memory was refused, the file is not as it was written, or the
-- store failed (profile)
abbrev pub FaultsAs : (OpenFault → Type 0) → Error → OpenFault → Type 0
FaultsAs IsToldNone (SqliteFailure OutOfMemory) told = told ≡ fault.Memory
FaultsAs IsToldNone (SqliteFailure NotADatabase) told = IsToldNone told
FaultsAs IsToldNone (SqliteFailure DatabaseCorrupt) told = told ≡ fault.Damaged
FaultsAs IsToldNone _ told = told ≡ fault.Store

-- what is said of a file in which no database is found, by its first sixteen bytes, or all that it has: it is damaged where it begins as a database, or has no byte, since all may be in its log; else it is none (profile)
abbrev pub fault_by_start : List ℕ → OpenFault
fault_by_start [] = fault.Damaged
fault_by_start (byte ∷ bytes) = if bytes_eq (byte ∷ bytes) file_header then fault.Damaged else fault.Store

-- whether nothing is there, by the kind of the error of a look
abbrev pub is_absent : ErrorKind → Bool
is_absent NotFound = true
is_absent _ = false

-- what the bytes of a log say of a database whose file is not there, or has no byte: a log of more than 41 has a page, and is what is left of a damaged one; else there is none (profile)
abbrev pub presence_by_log : ℕ → Result Bool OpenFault
presence_by_log bytes = if nat_lt 41 bytes then Err fault.Damaged else Ok false

-- no database was to be found in what files hold
abbrev pub HoldsNone : Image → Type 0
HoldsNone image = ¬ (((db : Trees) × HoldsDatabase image db) ⊎ IsNothing image)

-- memory was refused, or something could not be read, of which this is known
abbrev pub IsUnread : Type 0 → OpenFault → Type 0
IsUnread Fails told = (told ≡ fault.Memory) ⊎ ((told ≡ fault.Store) × Fails)

-- Opening failed, with or without files left, and these are left that were as they are known to be when they are opened, or none: damage is told only where they hold
-- no database or the disk failed, and they are left so that they recover as before.
abbrev pub LeavesRefusedFiles : {D : Type 0} {g : Ghosts D} → (Bool → OpenFault → Type 0) → (Files D → Type 0) → OpenFault → Option (Leftover D g) → Type 0
LeavesRefusedFiles Fails IsAsOpened told None = Fails false told
LeavesRefusedFiles {D = D} {g = g} Fails IsAsOpened told (Some left) =
    Fails true told × ((files : Files D) × IsAsOpened files
    × (IsCleanLeft left → (told ≡ fault.Damaged → HoldsNone (image_of g files) ⊎ MoreFaults (faults_of g files) (faults_left left)) × LeavesFiles files left))

-- no database was opened: what was known before forbade it, and what could have opened one was not used; or opening failed, and this is left
abbrev pub RefusesFiles : {D O : Type 0} {g : Ghosts D} → (OpenFault → Type 0) → (Bool → OpenFault → Type 0) → (Files D → Type 0) → OpenFault → Left D O g → Type 0
RefusesFiles Forbids Fails IsAsOpened told (Unopened opener) = Forbids told
RefusesFiles Forbids Fails IsAsOpened told (Refused left) = LeavesRefusedFiles Fails IsAsOpened told left
RefusesFiles Forbids Fails IsAsOpened told _ = ⊥
