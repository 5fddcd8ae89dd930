-- What the program says on standard error, and when it says nothing there.
use Rattle.std.specs.Prelude.{◌≡◌, ℕ, Bool, true, false, List, ◌++◌, Option, Result, Ok, Err, codes, decimal}
use Rattle.http_desk.specs.declared.counted.Counted.{Counted}
use Rattle.http_desk.specs.declared.fault.FaultKind.TheVariants as kind
use Rattle.sqlite_disk.specs.declared.Disk.{Ghosts}
use Rattle.desk_connections.specs.Connections.{Prints}
use Rattle.society_commands.specs.Refusals.{database_fault}
use Rattle.desk_connections.specs.Faults.{fault_text}
use Rattle.society_commands.specs.declared.left.Left.{Left}
use Rattle.society_commands.specs.declared.left.Left.TheVariants.{Unclosed}
use Rattle.society_arguments.specs.Words.{Asked, AsksAudit, AsksCredit, AsksServe}
use Rattle.society_commands.specs.declared.machine.OpenDatabase.{Ghosts as Opens}
use Rattle.society_commands.specs.declared.starting.NoWords.{NoWords}
use Rattle.society_commands.specs.declared.starting.NoWords.TheVariants as without
use Rattle.society_commands.specs.declared.trouble.Trouble.{Trouble}
use Rattle.society_commands.specs.declared.trouble.Trouble.TheVariants.{Database, NoConnection, NoListener, Orders, Stream}

-- what a trouble is called on standard error (profile)
abbrev pub trouble_text : Trouble → List ℕ
trouble_text (Database fault) = codes "database " ++ database_fault fault
trouble_text (NoListener port) = codes "cannot listen at port " ++ decimal port
trouble_text NoConnection = codes "cannot accept"
trouble_text (Stream fault) = fault_text fault ++ codes " requests"
trouble_text (Orders fault) = fault_text fault ++ codes " orders"

-- this trouble was told, by a line of its own
abbrev pub Tells : {E : Type 0} → (E → Option (List ℕ)) → Counted E → Counted E → Trouble → Type 0
Tells contents err new_err trouble = Prints contents err new_err (codes "society: " ++ trouble_text trouble ++ codes "\n")

-- the line that says so why the words are wrong (profile)
abbrev pub refused_line : List ℕ → List ℕ
refused_line why = codes "society: " ++ why ++ codes "\n"

-- what is told where all that was asked for is done: nothing, but for a line where the log of what is left could not be copied (profile)
abbrev pub TellsOfLog : {D O E : Type 0} {g : Ghosts D} → (E → Option (List ℕ)) → Counted E → Counted E → Left D O g → Type 0
TellsOfLog contents err new_err (Unclosed error last) = Prints contents err new_err (codes "society: log not copied\n")
TellsOfLog contents err new_err _ = new_err ≡ err

-- the line that says that others may write the file of a path (profile)
abbrev pub others_line : List ℕ → List ℕ
others_line path = codes "society: others may write " ++ path ++ codes "\n"

-- it was told where they may, and else nothing
abbrev pub TellsOfOthers : {E : Type 0} → (E → Option (List ℕ)) → Counted E → Counted E → List ℕ → Bool → Type 0
TellsOfOthers contents err new_err path true = Prints contents err new_err (others_line path)
TellsOfOthers contents err new_err path false = new_err ≡ err

-- what is told of a file that was opened at a path: whether others may write it, as its opener says
abbrev pub Warns : {O F E : Type 0} → Opens O F → (E → Option (List ℕ)) → Counted E → Counted E → List ℕ → Type 0
Warns opens contents err new_err path = (others : Bool) × opens.may_be_shared path others × TellsOfOthers contents err new_err path others

-- behind that, this trouble was told
abbrev pub TellsOpened : {O F E : Type 0} → Opens O F → (E → Option (List ℕ)) → Counted E → Counted E → List ℕ → Trouble → Type 0
TellsOpened {E = E} opens contents err new_err path trouble =
    (between : Counted E) × Warns opens contents err between path × Tells contents between new_err trouble

-- behind that, what is told where all that was asked for is done
abbrev pub TellsDone : {D O E : Type 0} {g : Ghosts D} → Opens O D → (E → Option (List ℕ)) → Counted E → Counted E → List ℕ → Left D O g → Type 0
TellsDone {E = E} opens contents err new_err path rest =
    (between : Counted E) × Warns opens contents err between path × TellsOfLog contents between new_err rest

-- what is told where all that words ask for is done: nothing, or what is of the database that they name
abbrev pub TellsQuietly : {D O E : Type 0} {g : Ghosts D} → Opens O D → (E → Option (List ℕ)) → Counted E → Counted E → Left D O g → Asked → Type 0
TellsQuietly opens contents err new_err rest (AsksServe path existing place society territory name) = TellsDone opens contents err new_err path rest
TellsQuietly opens contents err new_err rest (AsksAudit path society territory name) = TellsDone opens contents err new_err path rest
TellsQuietly opens contents err new_err rest (AsksCredit path society territory name) = TellsDone opens contents err new_err path rest
TellsQuietly opens contents err new_err rest asked = new_err ≡ err

-- what is told where the words could not be had: that they are wrong, where one is no text; or that memory was refused before any request
abbrev pub TellsWithout : {E : Type 0} → (E → Option (List ℕ)) → Counted E → Counted E → NoWords → Type 0
TellsWithout contents err new_err without.NoText = Prints contents err new_err (refused_line (codes "bad words"))
TellsWithout contents err new_err without.Memory = Tells contents err new_err (Stream (record { kind = kind.Memory; requests = 0 }))

-- what is told at the end: nothing more than was, or why the words could not be had
abbrev pub TellsAtEnd : {E : Type 0} → (E → Option (List ℕ)) → Counted E → Counted E → Result ℕ NoWords → Type 0
TellsAtEnd contents err new_err (Ok status) = new_err ≡ err
TellsAtEnd contents err new_err (Err why) = TellsWithout contents err new_err why
