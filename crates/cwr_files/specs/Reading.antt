-- What a reader of transmissions answers.
use Rattle.std.specs.Prelude.{◌≡◌, ℕ, List, Option, Some, None, Result, Ok, Err}
use Rattle.cwr_records.specs.Lines.{lines}
use Rattle.cwr_files.specs.declared.transmission.Transmission.{Transmission}
use Rattle.cwr_files.specs.declared.fault.FileFault.{FileFault}
use Rattle.cwr_files.specs.declared.fault.ReadFault.{ReadFault}
use Rattle.cwr_files.specs.declared.fault.ReadFault.TheVariants as read_faults
use Rattle.cwr_files.specs.Contents.{transmission_in}
use Rattle.cwr_files.specs.File.{File}
use Rattle.cwr_files.specs.Sizes.{IsWithinSizes}

-- a body is a transmission of a sender, within the sizes (profile)
abbrev pub IsTransmission : List ℕ → List ℕ → Transmission → Type 0
IsTransmission body sender t = File (lines body) sender t × IsWithinSizes body

-- a reader answered this transmission, unless memory ran out
abbrev pub AnswersTransmission : Transmission → Result Transmission ReadFault → Type 0
AnswersTransmission t (Ok u) = u ≡ t
AnswersTransmission t (Err (read_faults.File f)) = ⊥
AnswersTransmission t (Err read_faults.Memory) = Unit {0}

-- a reader answered this fault and no other; a transmission, or that memory ran out, only where there is none
abbrev pub TellsFault : Option FileFault → Result Transmission ReadFault → Type 0
TellsFault fault (Ok t) = fault ≡ None
TellsFault fault (Err (read_faults.File f)) = fault ≡ Some f
TellsFault fault (Err read_faults.Memory) = fault ≡ None

-- Where a body has no file fault, it is the transmission that it tells, of the sender, and no other. Where it has one, it is none. (profile)
abbrev pub IsJudged : List ℕ → List ℕ → Option FileFault → Type 0
IsJudged sender body None =
    IsTransmission body sender (transmission_in body) × ((t : Transmission) → File (lines body) sender t → t ≡ transmission_in body)
IsJudged sender body (Some f) = (t : Transmission) → IsTransmission body sender t → ⊥
