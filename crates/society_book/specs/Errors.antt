-- What a fault says that is told of rows which were read already: the database cannot fail then.
use Rattle.society_rows.specs.declared.fault.RowFault.{RowFault}
use Rattle.society_rows.specs.declared.fault.RowFault.TheVariants as fault

-- want of memory, and a count that has no room, say nothing; a row that cannot be read that the rows are such
abbrev pub Blames : Type 0 → RowFault → Type 0
Blames Wrong fault.Memory = Unit {0}
Blames Wrong fault.Schema = Wrong
Blames Wrong fault.Damaged = Wrong
Blames Wrong fault.Overflow = Unit {0}
Blames Wrong (fault.Refused error) = ⊥
