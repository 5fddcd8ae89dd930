-- What a failed reading is told as.
use Rattle.society_rows.specs.declared.fault.RowFault.{RowFault}
use Rattle.society_rows.specs.declared.fault.RowFault.TheVariants as row
use Rattle.society_opening.specs.declared.open_fault.OpenFault.{OpenFault}
use Rattle.society_opening.specs.declared.open_fault.OpenFault.TheVariants as fault

-- want of memory, or else that the database failed
abbrev pub reading_fault_by : RowFault → OpenFault
reading_fault_by row.Memory = fault.Memory
reading_fault_by row.Schema = fault.Store
reading_fault_by row.Damaged = fault.Store
reading_fault_by row.Overflow = fault.Store
reading_fault_by (row.Refused error) = fault.Store
