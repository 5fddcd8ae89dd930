-- What a failed write is told as.
use Rattle.std.specs.Prelude.{if◌then◌else◌}
use Rattle.society_rows.specs.declared.fault.RowFault.{RowFault}
use Rattle.society_rows.specs.declared.fault.RowFault.TheVariants.{Memory}
use Rattle.society_rows.specs.Faults.{is_of_medium}

-- itself where it tells of the database's medium; else want of memory
abbrev pub writing_fault_by : RowFault → RowFault
writing_fault_by fault = if is_of_medium fault then fault else Memory
