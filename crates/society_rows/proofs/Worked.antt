-- Worked values of what the tables hold and of what is read from them.
use Rattle.std.proofs.Common.{◌≡◌, pos, negsuc, true, false, [], ◌∷◌, codes, refl, lit≤, inl}
use Rattle.sqlite_value.specs.declared.value.Value.TheVariants.{Null, Int, Text}
use Rattle.sqlite_value.specs.Order.{Row, value_cmp}
use Rattle.sqlite_sql.specs.Ops.{binary}
use Rattle.sqlite.specs.declared.error.Error.TheVariants.{SqliteFailure, InvalidQuery, QueryReturnedNoRows}
use Rattle.sqlite.specs.declared.error.ErrorCode.TheVariants.{OutOfMemory, DiskFull}
use Rattle.society_rows.specs.declared.fault.RowFault.TheVariants.{Memory, Schema, Refused}
use Rattle.society_rows.specs.Balances.{HasUnits}
use Rattle.society_rows.specs.Faults.{fault_of_error}
use Rattle.society_rows.specs.Forms.{Count, HasForm, IsOfForms, pool_forms}
use Rattle.society_rows.specs.Layout.{fronts, pools}
use Rattle.society_rows.specs.Reads.{has_key, is_above}
use Rattle.society_rows.specs.Stored.{put_over, values_of}

abbrev early : Row
early = Text (codes "PB000000012") ∷ Int (pos 1) ∷ Int (pos 0) ∷ []

abbrev late : Row
late = Text (codes "PB000000012") ∷ Int (pos 2) ∷ Int (pos 1) ∷ []

abbrev other : Row
other = Text (codes "PB000000034") ∷ Int (pos 1) ∷ Int (pos 0) ∷ []

-- a front gives way to the later one of its sender, and another sender's stays
gives_way : put_over late (early ∷ other ∷ []) ≡ late ∷ other ∷ []
unfolding binary value_cmp lib.Ieee.is_nan lib.Ieee.lt
gives_way = refl

-- a row is found by its key alone
found : has_key (Text (codes "PB000000012") ∷ Int (pos 2) ∷ []) late ≡ true
unfolding binary value_cmp lib.Ieee.is_nan lib.Ieee.lt
found = refl

not_found : has_key (Text (codes "PB000000012") ∷ Int (pos 1) ∷ []) late ≡ false
unfolding binary value_cmp lib.Ieee.is_nan lib.Ieee.lt
not_found = refl

-- above a number is not at it
above : is_above (Text (codes "PB000000012")) (Int (pos 1)) late ≡ true
unfolding binary value_cmp lib.Ieee.is_nan lib.Ieee.lt
above = refl

not_above : is_above (Text (codes "PB000000012")) (Int (pos 2)) late ≡ false
unfolding binary value_cmp lib.Ieee.is_nan lib.Ieee.lt
not_above = refl

-- the rowid shows where it is a column, and nowhere else
hidden_rowid : values_of fronts (Int (pos 9) ∷ late) ≡ late
unfolding fronts
hidden_rowid = refl

shown_rowid : values_of pools (Int (pos 7) ∷ Null ∷ Int (pos 500) ∷ []) ≡ Int (pos 7) ∷ Int (pos 500) ∷ []
unfolding pools
shown_rowid = refl

-- a count is no number below 0, and an amount may be one
no_count : ¬ HasForm Count (Int (negsuc 0))
no_count (n, is, fits) = absurd cc

owing : IsOfForms pool_forms (Int (pos 7) ∷ Int (negsuc 0) ∷ [])
owing = (refl, ((7, refl, lit≤ tt), ((negsuc 0, refl, record { sfits = lit≤ tt }), tt)))

-- an account with no row has no units
nobody : HasUnits (codes "UNCLAIMED") (λ _. []) (pos 0)
nobody = record { rows = inl (refl, refl) }

-- what is told of an error
memory : fault_of_error (SqliteFailure OutOfMemory) ≡ Memory
memory = refl

full : fault_of_error (SqliteFailure DiskFull) ≡ Refused (SqliteFailure DiskFull)
full = refl

no_row : fault_of_error QueryReturnedNoRows ≡ Refused QueryReturnedNoRows
no_row = refl

misfit : fault_of_error InvalidQuery ≡ Schema
misfit = refl
