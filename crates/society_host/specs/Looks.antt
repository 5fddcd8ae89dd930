-- What looks at a path tell of the database there.
use Rattle.std.specs.Prelude.{◌≡◌, ◌⊎◌, ◌<◌, ◌≤◌, ◌++◌, ℕ, Bool, List, codes, false, true}
use Rattle.std.specs.declared.io.ErrorKind.{ErrorKind}
use Rattle.society_opening.specs.declared.open_fault.OpenFault.{OpenFault}
use Rattle.society_opening.specs.declared.open_fault.OpenFault.TheVariants as fault
use Rattle.society_host.specs.HasBytes.{HasBytes}
use Rattle.society_host.specs.Refusals.{is_absent}
use Rattle.society_host.specs.declared.look.Look.{Look}
use Rattle.society_host.specs.declared.machine.Machine.{Ghosts}

-- the log of the database at a path stands beside it, under its name with `-wal` behind (SQLite's file format, 4)
abbrev pub log_path : List ℕ → List ℕ
log_path path = path ++ codes "-wal"

-- a look found nothing at a path
abbrev pub FindsNothing : {M : Type 0} → Ghosts M → List ℕ → Type 0
FindsNothing m path = (kind : ErrorKind) × m.fails_to_look path kind × (is_absent kind ≡ true)

-- a look at a path failed, and not since nothing is there
abbrev pub CannotLook : {M : Type 0} → Ghosts M → List ℕ → Type 0
CannotLook m path = (kind : ErrorKind) × m.fails_to_look path kind × (is_absent kind ≡ false)

-- it found no byte there: a file that has none, or nothing
abbrev pub LacksBytes : {M : Type 0} → Ghosts M → List ℕ → Type 0
LacksBytes m path = ((look : Look) × m.finds path look × (look.is_file ≡ true) × (look.len ≡ 0)) ⊎ FindsNothing m path

-- it found no log with a page beside (a log without one has 41 bytes at most: profile)
abbrev pub LacksPages : {M : Type 0} → Ghosts M → List ℕ → Type 0
LacksPages m path = ((look : Look) × m.finds (log_path path) look × (look.len ≤ 41)) ⊎ FindsNothing m (log_path path)

-- Whether a database is at a path: a file with a byte in it is; or none is, and no log with a page stands beside, which would be what is left of
-- one.
abbrev pub FindsAt : {M : Type 0} → Ghosts M → List ℕ → Bool → Type 0
FindsAt m path true = HasBytes m.finds path
FindsAt m path false = LacksBytes m path × LacksPages m path

-- why it is not known whether a log stands beside, or a log with a page that stands there alone is told as damage
abbrev pub FailsBeside : {M : Type 0} → Ghosts M → List ℕ → OpenFault → Type 0
FailsBeside m path told =
    (told ≡ fault.Memory)
    ⊎ (((told ≡ fault.Store) × CannotLook m (log_path path))
    ⊎ ((told ≡ fault.Damaged) × ((look : Look) × m.finds (log_path path) look × (41 < look.len))))

-- why it is not known whether a database is at a path: there is something that is no file, it can't be looked at, or that of its log
abbrev pub FailsToFind : {M : Type 0} → Ghosts M → List ℕ → OpenFault → Type 0
FailsToFind m path told =
    ((told ≡ fault.Store) × (((look : Look) × m.finds path look × (look.is_file ≡ false)) ⊎ CannotLook m path))
    ⊎ (LacksBytes m path × FailsBeside m path told)

-- whether others may write the file at a path that was opened, by a look at it; where that failed they are not told to
abbrev pub AreSeen : {M : Type 0} → Ghosts M → List ℕ → Bool → Type 0
AreSeen m path others = ((look : Look) × m.finds_opened path look × (look.others_write ≡ others)) ⊎ ((others ≡ false) × m.fails_opened path)

-- what a new file and its log are left to: their owner alone
abbrev pub ArePrivate : {M : Type 0} → Ghosts M → List ℕ → Type 0
ArePrivate m path = m.is_private path × m.is_private (log_path path)
