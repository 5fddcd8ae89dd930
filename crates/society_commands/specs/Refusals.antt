-- What is said where the program does not begin, or a database is not opened.
use Rattle.std.specs.Prelude.{ℕ, List, Result, Ok, Err, codes}
use Rattle.std.specs.declared.io.ErrorKind.{ErrorKind}
use Rattle.std.specs.declared.io.ErrorKind.TheVariants.{InvalidData}
use Rattle.society_opening.specs.declared.open_fault.OpenFault.{OpenFault}
use Rattle.society_opening.specs.declared.open_fault.OpenFault.TheVariants as fault
use Rattle.society_commands.specs.declared.starting.NoWords.{NoWords}
use Rattle.society_commands.specs.declared.starting.NoWords.TheVariants as without

-- why the arguments could not be had, by the kind of the error: one is no text, or else memory was refused (profile)
abbrev pub no_words_by : ErrorKind → NoWords
no_words_by InvalidData = without.NoText
no_words_by _ = without.Memory

-- the exit status where they could not be had: 2 where one is no text, 1 where memory was refused (profile)
abbrev pub status_without : NoWords → ℕ
status_without without.NoText = 2
status_without without.Memory = 1

-- the exit status by what the program did, or why its arguments could not be had
abbrev pub status_after : Result ℕ NoWords → ℕ
status_after (Ok status) = status
status_after (Err why) = status_without why

-- what a fault of a database is called on standard error (profile)
abbrev pub database_fault : OpenFault → List ℕ
database_fault fault.Memory = codes "memory"
database_fault fault.Store = codes "store"
database_fault fault.Empty = codes "empty"
database_fault fault.Schema = codes "schema"
database_fault fault.OtherOffice = codes "of another office"
database_fault fault.Damaged = codes "damaged"
database_fault fault.Log = codes "log"
