-- What is said of a connection, or of a transaction on one, before and after a call (representation).
use Rattle.std.specs.Prelude.{◌≡◌}
use Rattle.sqlite.specs.Held.{Held, state}
use Rattle.sqlite.specs.State.{State}
use Rattle.sqlite.specs.declared.transaction.Transaction.{Transaction}
use Rattle.sqlite_trees.specs.declared.store.Store.{Ghosts}

-- said of the states that a connection shows before and after
abbrev pub between : {S : Type 0} {A : Type 1} → Ghosts S → Held S → Held S → (State → State → A) → A
between g old new Says = Says (state g old) (state g new)

-- said of the states that a transaction shows before and after
abbrev pub within : {S : Type 0} {A : Type 1} → Ghosts S → Transaction S → Transaction S → (State → State → A) → A
within g old new Says = Says (state g old.conn.now) (state g new.conn.now)

-- The same of a call that leaves a transaction on the reference on which it was begun: of the states before and after it, of what it
-- answers, and of what that gives.
pub record Within {S : Type 0} {R : Type 0} {P : Type 1} (g : Ghosts S) (old new : Transaction S) (Says : State → State → R → P → Type 0) (result : R) (gives : P) : Type 0 where
  pub same_reference : new.conn.ghost_name ≡ old.conn.ghost_name
  pub says : Says (state g old.conn.now) (state g new.conn.now) result gives
