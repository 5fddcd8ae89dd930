-- What a fault of the database is to the store.
use Rattle.std.specs.Prelude.{ℕ, ◌+◌, ◌≡◌, Result, Ok, Err}
use Rattle.society_core.specs.declared.store.StoreFault.{StoreFault}
use Rattle.society_core.specs.declared.store.StoreFault.TheVariants as store
use Rattle.society_rows.specs.declared.fault.RowFault.{RowFault}
use Rattle.society_rows.specs.declared.fault.RowFault.TheVariants.{Memory, Overflow, Refused, Schema, Damaged}

-- want of memory, or else that the medium failed
abbrev pub store_fault : RowFault → StoreFault
store_fault Memory = store.Memory
store_fault Schema = store.Refused
store_fault Damaged = store.Refused
store_fault Overflow = store.Refused
store_fault (Refused error) = store.Refused

-- a count of failures after a fault: one more, unless memory was refused
abbrev pub counted : RowFault → ℕ → ℕ
counted Memory failures = failures
counted Schema failures = failures + 1
counted Damaged failures = failures + 1
counted Overflow failures = failures + 1
counted (Refused error) failures = failures + 1

-- an answer of the database as the store's, with the count of failures before and after
abbrev pub Told : {T : Type 0} → Result T RowFault → Result T StoreFault → ℕ → ℕ → Type 0
Told (Ok x) result old new = (result ≡ Ok x) × (new ≡ old)
Told (Err fault) result old new = (result ≡ Err (store_fault fault)) × (new ≡ counted fault old)
