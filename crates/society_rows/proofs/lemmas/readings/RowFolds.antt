-- Rows that are gone over one at a time.
use Rattle.std.proofs.Common.{◌≡◌, List, [], ◌∷◌, ◌++◌, Result, Ok, Err, IfErr, sym, ap, subst, ◌∙◌}
use Rattle.std.specs.Result.{IsErrAnd}
use Rattle.std.proofs.lemmas.List.Sums.{fold_push}
use Rattle.sqlite_value.specs.Order.{Row}
use Rattle.society_rows.specs.declared.fault.RowFault.{RowFault}
use Rattle.society_rows.specs.Folds.{HasTaken}

-- one more row
pub takes_row : {F : Type 0} (step : F → Row → F) (Now Later : List Row → Type 0) (first old new : F) (row : Row) → ((rows : List Row) → Now rows → Later (rows ++ row ∷ []))
    → HasTaken step Now first old → new ≡ step old row → HasTaken step Later first new
takes_row step Now Later first old new row more taken is = record {
  rows = taken.rows ++ row ∷ [];
  these = more taken.rows taken.these;
  folded = is ∙ ap (λ x. step x row) taken.folded ∙ sym (fold_push step first taken.rows row);
}

-- the same rows, known as others
pub taken_as : {F : Type 0} (step : F → Row → F) (Now Later : List Row → Type 0) (first new : F) → ((rows : List Row) → Now rows → Later rows) → HasTaken step Now first new → HasTaken step Later first new
taken_as step Now Later first new turns taken = record { rows = taken.rows; these = turns taken.rows taken.these; folded = taken.folded }

-- the fault is the one that was told
pub err_as : (result : Result (Unit {0}) RowFault) (fault : RowFault) (Told : RowFault → Type 0) → IsErrAnd result (λ e. e ≡ fault) → Told fault → IfErr result Told
err_as (Ok x) fault Told is told = tt
err_as (Err e) fault Told is told = subst Told (sym is) told
