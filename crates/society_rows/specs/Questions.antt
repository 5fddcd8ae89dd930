-- Questions that the tables answer, and what asking them does.
use Rattle.std.specs.Prelude.{◌≡◌, pos, true, List, [], ◌∷◌, Result, IsTrue, IfOk, OnOk}
use Rattle.sqlite_value.specs.declared.value.Value.TheVariants.{Int, Text}
use Rattle.sqlite_value.specs.Order.{Row}
use Rattle.sqlite_trees.specs.Tree.{Trees}
use Rattle.sqlite.specs.Effect.{Database}
use Rattle.sqlite.specs.State.{State, HasCleanDisk, Survives}
use Rattle.society_rows.specs.declared.fault.RowFault.{RowFault}
use Rattle.society_rows.specs.declared.questions.Question.{Question}
use Rattle.society_rows.specs.declared.questions.Question.TheVariants as question
use Rattle.society_rows.specs.Layout.{office, transmissions, returns, pools, pool_cuts, pool_returns, fronts, verdicts, versions, recordings, credits_table, balances, segment_ends, mechanical_pools}
use Rattle.society_rows.specs.FirstColumns.{ListsFirstColumn}
use Rattle.society_rows.specs.Reads.{Lists, ListsKeys, IsFirstOf, has_key, has_at, is_above, is_above_and_below}
use Rattle.society_rows.specs.Stored.{HasLayout}

-- the rows that answer the question
abbrev pub RowsAnswer : Question → Trees → List Row → Type 0
RowsAnswer question.Office = Lists office (λ _. true) 1
RowsAnswer (question.Front sender) = Lists fronts (has_key (Text sender.now ∷ [])) 1
RowsAnswer (question.Transmission sender number) = Lists transmissions (has_key (Text sender.now ∷ Int (pos number) ∷ [])) 2
RowsAnswer (question.NumbersAbove sender number) = ListsKeys transmissions (is_above (Text sender.now) (Int (pos number))) 2
RowsAnswer (question.NumbersBetween sender above below) = ListsKeys transmissions (is_above_and_below (Text sender.now) (Int (pos above)) (Int (pos below))) 2
RowsAnswer (question.Ends sender) = Lists segment_ends (has_key (Text sender.now ∷ [])) 2
RowsAnswer (question.Return reporter number) = Lists returns (has_key (Text reporter.now ∷ Int (pos number) ∷ [])) 2
RowsAnswer (question.HasReturn reporter number) = ListsKeys returns (has_key (Text reporter.now ∷ Int (pos number) ∷ [])) 2
RowsAnswer question.TransmissionKeys = ListsKeys transmissions (λ _. true) 2
RowsAnswer question.ReturnKeys = ListsKeys returns (λ _. true) 2
RowsAnswer (question.Pool pool) = Lists pools (has_key (Int (pos pool) ∷ [])) 1
RowsAnswer (question.Mechanical pool) = Lists mechanical_pools (has_key (Int (pos pool) ∷ [])) 1
RowsAnswer (question.Cuts pool) = Lists pool_cuts (has_key (Int (pos pool) ∷ [])) 2
RowsAnswer (question.Payer reporter number) = Lists pool_returns (has_key (Text reporter.now ∷ Int (pos number) ∷ [])) 2
RowsAnswer (question.PaidBy pool) = Lists pool_returns (has_at 2 (Int (pos pool))) 2
RowsAnswer (question.Verdicts sender number) = Lists verdicts (has_key (Text sender.now ∷ Int (pos number) ∷ [])) 3
RowsAnswer (question.Versions sender work) = Lists versions (has_key (Text sender.now ∷ Text work.now ∷ [])) 3
RowsAnswer (question.LastVersion sender work) = IsFirstOf versions (has_key (Text sender.now ∷ Text work.now ∷ [])) 3
RowsAnswer (question.SenderVerdicts sender) = Lists verdicts (has_key (Text sender.now ∷ [])) 3
RowsAnswer (question.SenderVersions sender) = Lists versions (has_key (Text sender.now ∷ [])) 3
RowsAnswer (question.SenderRecordings sender) = Lists recordings (has_key (Text sender.now ∷ [])) 4
RowsAnswer (question.Credits pool) = Lists credits_table (has_key (Int (pos pool) ∷ [])) 2
RowsAnswer (question.Balance account) = Lists balances (has_key (Text account.now ∷ [])) 1
RowsAnswer (question.FirstColumns table) = ListsFirstColumn table

-- A question on a connection at rest, which shows its last commit where it is open: where the database is of a kind it finds this, an answer
-- comes from an open connection alone, it leaves the last commit, and a crash leaves what it left before.
pub record AsksOver {X : Type 0} (Was : Database → Type 0) (old new : State) (result : Result X RowFault) (Found : Trees → X → Type 0) : Type 0 where
  pub settled : IsTrue old.is_open → old.now ≡ old.committed
  pub found : HasCleanDisk new → Was old.now → IfOk result (Found old.now.trees)
  pub answered : HasCleanDisk new → OnOk result (IsTrue old.is_open)
  pub was_open : HasCleanDisk new → IsTrue new.is_open → IsTrue old.is_open
  pub undone : HasCleanDisk new → IsTrue new.is_open → (new.now ≡ old.committed) × (new.committed ≡ old.committed)
  pub survives : Survives old new (λ _. ⊥)

-- the same over layout 3
abbrev pub Asks : {X : Type 0} → State → State → Result X RowFault → (Trees → X → Type 0) → Type 0
Asks = AsksOver HasLayout
