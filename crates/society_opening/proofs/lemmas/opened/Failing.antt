-- Why an opening is told as a failure of the store.
use Rattle.std.proofs.Common.{◌≡◌, ◌≢◌, ◌⊎◌, ◌∙◌, ◌≤◌, ap, arith, inl, inr, sym}
use Rattle.sqlite.specs.State.{State}
use Rattle.society_rows.specs.Effects.{MayFail}
use Rattle.society_rows.specs.declared.fault.RowFault.{RowFault}
use Rattle.society_rows.specs.declared.fault.RowFault.TheVariants as row
use Rattle.society_opening.specs.Reading.{reading_fault_by}
use Rattle.society_opening.specs.declared.open_fault.OpenFault.{OpenFault}
use Rattle.society_opening.specs.declared.open_fault.OpenFault.TheVariants as fault

pub of_memory : fault.Memory ≢ fault.Store
of_memory is = cc

pub of_damage : fault.Damaged ≢ fault.Store
of_damage is = cc

-- what may fail in a part may fail in the whole
pub may_later : (old mid new : State) → mid.faults ≤ new.faults → MayFail old mid → MayFail old new
may_later old mid new up (inl more) = inl (omega (arith, up, more))
may_later old mid new up (inr why) = inr why

-- a reading that failed is told as the store's where the medium may have failed
pub by_row : (old new : State) (f : RowFault) (e : OpenFault) → e ≡ reading_fault_by f → (f ≡ row.Memory) ⊎ MayFail old new → e ≡ fault.Store → MayFail old new
by_row old new f e told (inl memory) is = absurd (of_memory (sym (told ∙ ap reading_fault_by memory) ∙ is))
by_row old new f e told (inr may) is = may
