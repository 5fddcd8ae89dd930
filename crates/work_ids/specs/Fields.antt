-- Fields that may be blank.
use Rattle.std.specs.Prelude.{Option, Some, Result, Ok, Err}
use Rattle.work_ids.specs.declared.fault.IdFault.{IdFault}

-- an identifier that a field has, or the refusal (profile)
abbrev pub present : {A : Type 0} → Result A IdFault → Result (Option A) IdFault
present (Ok identifier) = Ok (Some identifier)
present (Err fault) = Err fault
