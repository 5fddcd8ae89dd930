-- What is read of a database before it is opened.
use Rattle.std.specs.Prelude.{◌≡◌, ◌≢◌, ◌⊎◌, ℕ, ◌<◌, ◌≤◌, IsTrue, List, length, slice_index, take}
use Rattle.log_reading.specs.Stands.{Stands}
use Rattle.log_reading.specs.declared.source.ReadAt.{Ghosts as Reads}
use Rattle.society_host.specs.Refusals.{IsUnread, fault_by_start, file_header}
use Rattle.society_host.specs.declared.reading.ReadFiles.{Ghosts}
use Rattle.society_opening.specs.declared.open_fault.OpenFault.{OpenFault}
use Rattle.society_opening.specs.declared.open_fault.OpenFault.TheVariants as fault

-- a file is a database whose first page has no table (SQLite's file format, 1.3 and 1.6), and has no page sums: no office begins so (profile)
pub record HasNoTable (db : List ℕ) : Type 0 where
  pub long : 105 ≤ length db
  pub header : take 16 db ≡ file_header
  pub no_sums : slice_index db 20 ≢ 8
  pub leaf : slice_index db 100 ≡ 13
  pub none_high : slice_index db 103 ≡ 0
  pub none_low : slice_index db 104 ≡ 0

-- what these bytes are is known
abbrev pub AreKnown : {F : Type 0} → Reads F → F → F → Type 0
AreKnown reads log db = IsTrue (reads.is_known log) × IsTrue (reads.is_known db)

-- What was read of a database's file and its log before they were opened: there is none of the two, or the log is as a stop of the office
-- leaves it beside the file, and a file that begins with no table has pages in its log.
abbrev pub IsExamined : {M F : Type 0} → Ghosts M F → Reads F → List ℕ → Type 0
IsExamined {F = F} g reads path =
    g.lacks_file path
    ⊎ ((db : F) × g.is_file path db
    × ((g.lacks_log path × (IsTrue (reads.is_known db) → ¬ HasNoTable (reads.bytes db)))
    ⊎ ((log : F) × g.is_log path log
    × (AreKnown reads log db → Stands (reads.bytes log) (reads.bytes db) × (length (reads.bytes log) < 56 → ¬ HasNoTable (reads.bytes db))))))

-- what is told of a log that was read: damage only where no stop leaves it so, and a fault of the store only where it could not be read
pub record TellsStanding (Known Holds : Type 0) (told : OpenFault) : Type 0 where
  pub log : told ≡ fault.Log → Known → ¬ Holds
  pub store : told ≡ fault.Store → ¬ Known
  pub kind : (told ≡ fault.Memory) ⊎ ((told ≡ fault.Store) ⊎ (told ≡ fault.Log))

-- memory was refused, or the file of a database or its log could not be read
abbrev pub IsToldUnread : {M F : Type 0} → Ghosts M F → Reads F → List ℕ → OpenFault → Type 0
IsToldUnread {F = F} g reads path =
    IsUnread (g.fails_to_read path
    ⊎ (((file : F) × (g.is_file path file ⊎ g.is_log path file) × ¬ IsTrue (reads.is_known file))
    ⊎ ((db : F) × (log : F) × g.is_file path db × g.is_log path log × ¬ AreKnown reads log db)))

-- the database at a path has no log, or one that is too short to have a page
abbrev pub LacksLogPages : {M F : Type 0} → Ghosts M F → Reads F → List ℕ → Type 0
LacksLogPages {F = F} g reads path = g.lacks_log path ⊎ ((log : F) × g.is_log path log × (IsTrue (reads.is_known log) → length (reads.bytes log) < 56))

-- Why a database whose file and log were read is not opened: a log that no stop of the office leaves so, a file with no table and no page sums,
-- or that they could not be read.
abbrev pub IsToldExamined : {M F : Type 0} → Ghosts M F → Reads F → List ℕ → OpenFault → Type 0
IsToldExamined {F = F} g reads path told =
    IsToldUnread g reads path told
    ⊎ (((told ≡ fault.Log) × ((db : F) × (log : F) × g.is_file path db × g.is_log path log × (AreKnown reads log db → ¬ Stands (reads.bytes log) (reads.bytes db))))
    ⊎ ((told ≡ fault.Empty) × LacksLogPages g reads path × ((db : F) × g.is_file path db × (IsTrue (reads.is_known db) → HasNoTable (reads.bytes db)))))

-- what is told of a file in which no database was found: by its first bytes, sixteen or all that it has; or it could not be read
abbrev pub IsToldOf : {F : Type 0} → Reads F → F → OpenFault → Type 0
IsToldOf reads file told =
    ((told ≡ fault.Store) × ¬ IsTrue (reads.is_known file))
    ⊎ ((start : List ℕ) × (told ≡ fault_by_start start) × (IsTrue (reads.is_known file) → start ≡ take 16 (reads.bytes file)))

-- what is told of what is at a path where no database was found: by the file there; or there is none, or it could not be read
abbrev pub IsToldNone : {M F : Type 0} → Ghosts M F → Reads F → List ℕ → OpenFault → Type 0
IsToldNone {F = F} g reads path told =
    IsToldUnread g reads path told ⊎ (((told ≡ fault.Store) × g.lacks_file path) ⊎ ((file : F) × g.is_file path file × IsToldOf reads file told))
