-- What a reading within a transaction gives.
use Rattle.std.specs.Prelude.{◌≡◌, ◌⊎◌, ℕ, zero, suc, Bool, true, ◌&&◌, List, [], ◌∷◌, map, filter, take, Vec, Result, Ok, Err, IsTrue, IfOk, OnOk, OnErr, IsPermutation, IsSorted}
use Rattle.sqlite_value.specs.declared.keys.Key.{Key}
use Rattle.sqlite_value.specs.Keys.{rising}
use Rattle.sqlite_value.specs.Order.{Row, column}
use Rattle.sqlite_trees.specs.Tree.{Trees}
use Rattle.sqlite_sql.specs.Query.{key_cmp}
use Rattle.sqlite_schema.specs.declared.schema.Table.{Table}
use Rattle.std.specs.declared.alloc.Global.{Global}
use Rattle.sqlite.specs.declared.error.Error.{Error}
use Rattle.sqlite.specs.Effect.{Database}
use Rattle.sqlite_value.specs.declared.keys.Collation.TheVariants.{Binary}
use Rattle.sqlite_value.specs.declared.value.Value.{Value}
use Rattle.sqlite_sql.specs.declared.ops.BinaryOp.TheVariants.{Compare}
use Rattle.sqlite_sql.specs.declared.ops.CompareOp.TheVariants.{Gt, Lt}
use Rattle.sqlite_sql.specs.Ops.{is_true, binary}
use Rattle.sqlite_schema.specs.Rules.{equal}
use Rattle.sqlite.specs.State.{State, HasCleanDisk, IsUnchanged, IsRolledBack, KeepsCommit, Survives, Shown, FailsToQuery, IsTooLate}
use Rattle.society_rows.specs.declared.fault.RowFault.{RowFault}
use Rattle.society_rows.specs.Faults.{fault_of_error}
use Rattle.society_rows.specs.Stored.{rows_in, HasLayout}

-- the first columns are these values, as SQL compares them
abbrev pub has_key_from : ℕ → Row → Row → Bool
has_key_from at [] row = true
has_key_from at (v ∷ key) row = equal Binary (column row at) v && has_key_from (suc at) key row

abbrev pub has_key : Row → Row → Bool
has_key = has_key_from 0

-- the column at this place is this value
abbrev pub has_at : ℕ → Value → Row → Bool
has_at at v row = equal Binary (column row at) v

-- SQL's >
abbrev pub exceeds : Value → Value → Bool
exceeds v w = is_true (binary (Compare Gt Binary) v w)

-- the first column is this value, and the second is above that one
abbrev pub is_above : Value → Value → Row → Bool
is_above key least row = equal Binary (column row 0) key && exceeds (column row 1) least

-- SQL's <
abbrev pub precedes : Value → Value → Bool
precedes v w = is_true (binary (Compare Lt Binary) v w)

-- the first column is this value, and the second is above that one and below another
abbrev pub is_above_and_below : Value → Value → Value → Row → Bool
is_above_and_below key least most row = equal Binary (column row 0) key && (exceeds (column row 1) least && precedes (column row 1) most)

-- the rows of the table that pass, each once, ascending by so many of their first columns
pub record Lists (table : Table) (passes : Row → Bool) (width : ℕ) (db : Trees) (found : List Row) : Type 0 where
  pub rows : IsPermutation (filter passes (rows_in table db)) found
  pub sorted : IsSorted (key_cmp 0 (rising width [])) found

-- the same rows, each cut to these first columns, which are its key
pub record ListsKeys (table : Table) (passes : Row → Bool) (width : ℕ) (db : Trees) (found : List Row) : Type 0 where
  pub whole : List Row
  pub listed : Lists table passes width db whole
  pub cut : found ≡ map (take width) whole

-- by so many columns, each descending
abbrev pub falling : ℕ → List Key
falling zero = []
falling (suc n) = record { collation = Binary; descending = true } ∷ falling n

-- of the rows of the table that pass, the greatest by so many of their first columns; no row where none passes
pub record IsFirstOf (table : Table) (passes : Row → Bool) (width : ℕ) (db : Trees) (found : List Row) : Type 0 where
  pub all : List Row
  pub rows : IsPermutation (filter passes (rows_in table db)) all
  pub sorted : IsSorted (key_cmp 0 (falling width)) all
  pub first : found ≡ take 1 all

-- the query showed these rows, or its error is told
abbrev pub Selected : List ℕ → Row → State → State → Result (Vec Row Global) RowFault → Type 0
Selected text params old new (Ok rows) = Shown text params old new rows.items
Selected text params old new (Err fault) =
    (error : Error) × (fault ≡ fault_of_error error) × (FailsToQuery text params old new error ⊎ IsTooLate text params old new error)

-- A reading: where the database is of a kind it finds this, it changes nothing unless a failure undoes the whole transaction, and it commits
-- nothing. An answer comes from an open connection alone.
pub record ReadsOver {X : Type 0} (Was : Database → Type 0) (old new : State) (result : Result X RowFault) (Found : Trees → X → Type 0) : Type 0 where
  pub found : HasCleanDisk new → Was old.now → IfOk result (Found old.now.trees)
  pub same : HasCleanDisk new → Was old.now → OnOk result (IsUnchanged old new)
  pub whole : HasCleanDisk new → OnErr result (IsUnchanged old new ⊎ IsRolledBack old new)
  pub was_open : HasCleanDisk new → OnOk result (IsTrue old.is_open)
  pub inside : HasCleanDisk new → IsTrue old.in_transaction → OnOk result (IsTrue new.in_transaction)
  pub kept : HasCleanDisk new → IsTrue old.in_transaction → KeepsCommit old new
  pub survives : Survives old new (λ _. ⊥)

-- the same over layout 3
abbrev pub Reads : {X : Type 0} → State → State → Result X RowFault → (Trees → X → Type 0) → Type 0
Reads = ReadsOver HasLayout
