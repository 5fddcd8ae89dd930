-- Faults that say nothing of the rows.
use Rattle.society_rows.specs.declared.fault.RowFault.{RowFault}
use Rattle.society_rows.specs.declared.fault.RowFault.TheVariants as row

-- memory, the room of a count or the database failed
abbrev pub IsAside : RowFault → Type 0
IsAside row.Memory = Unit {0}
IsAside row.Schema = ⊥
IsAside row.Damaged = ⊥
IsAside row.Overflow = Unit {0}
IsAside (row.Refused error) = Unit {0}
