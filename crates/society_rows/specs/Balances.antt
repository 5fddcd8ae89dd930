-- The balance of an account, and units that are added to it.
use Rattle.std.specs.Prelude.{◌≡◌, ◌⊎◌, ℕ, ℤ, pos, ◌+ℤ◌, FitsSigned, List, [], ◌∷◌, filter}
use Rattle.std.specs.Int.{w64}
use Rattle.sqlite_value.specs.declared.value.Value.TheVariants.{Int, Text}
use Rattle.sqlite_trees.specs.Tree.{Trees}
use Rattle.sqlite.specs.Effect.{Database}
use Rattle.society_rows.specs.declared.fault.RowFault.{RowFault}
use Rattle.society_rows.specs.declared.fault.RowFault.TheVariants.{Overflow, Damaged}
use Rattle.society_rows.specs.Faults.{IsFailure}
use Rattle.society_rows.specs.Layout.{balances}
use Rattle.society_rows.specs.Reads.{has_key}
use Rattle.society_rows.specs.Stored.{rows_in, Puts}

-- the account has these units: its row has them, or it has no row and none
pub record HasUnits (account : List ℕ) (db : Trees) (units : ℤ) : Type 0 where
  pub rows : ((filter (has_key (Text account ∷ [])) (rows_in balances db) ≡ []) × (units ≡ pos 0)) ⊎ (filter (has_key (Text account ∷ [])) (rows_in balances db) ≡ (Text account ∷ Int units ∷ []) ∷ [])

-- the account has these units more, and their sum fits 64 bits
pub record AddsUnits (account : List ℕ) (units : ℤ) (old new : Database) : Type 0 where
  pub before : ℤ
  pub had : HasUnits account old.trees before
  pub fits : FitsSigned w64 (before +ℤ units)
  pub put : Puts balances (Text account ∷ Int (before +ℤ units) ∷ []) old new

-- the account's rows are not one row or none whose units fit 64 bits
abbrev pub HasNoUnits : List ℕ → Trees → Type 0
HasNoUnits account db = (units : ℤ) → FitsSigned w64 units → ¬ HasUnits account db units

-- why an account's units are not told: a failure, or there are no such units
abbrev pub HidesUnits : List ℕ → Trees → RowFault → Type 0
HidesUnits account db fault = IsFailure fault ⊎ ((fault ≡ Damaged) × HasNoUnits account db)

-- why units are not added: the account's are not told, or the sum doesn't fit 64 bits
abbrev pub RefusesUnits : List ℕ → ℤ → Trees → RowFault → Type 0
RefusesUnits account units db fault =
    HidesUnits account db fault ⊎ ((fault ≡ Overflow) × (before : ℤ) × HasUnits account db before × ¬ FitsSigned w64 (before +ℤ units))
