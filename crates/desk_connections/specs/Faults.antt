-- How much one stream may be read, and what is said of one that broke off.
use Rattle.std.specs.Prelude.{ℕ, List, ◌++◌, codes, decimal}
use Rattle.http_desk.specs.declared.fault.DeskFault.{DeskFault}
use Rattle.http_desk.specs.declared.fault.FaultKind.{FaultKind}
use Rattle.http_desk.specs.declared.fault.FaultKind.TheVariants.{Memory, Read, Turns, Write}

-- the most reads of one stream that give bytes (profile)
abbrev pub most_turns : ℕ
most_turns = 100000000

-- what a fault is called on standard error (profile)
abbrev pub fault_name : FaultKind → List ℕ
fault_name Read = codes "read"
fault_name Write = codes "write"
fault_name Turns = codes "turns"
fault_name Memory = codes "memory"

-- the fault of a stream, and after how many requests it came (profile)
abbrev pub fault_text : DeskFault → List ℕ
fault_text fault = fault_name fault.kind ++ codes " fault after " ++ decimal fault.requests
