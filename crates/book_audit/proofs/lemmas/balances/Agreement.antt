-- What rows of balances that agree say of the table, by the credits.
use Rattle.society_closings.specs.Closings.{row_of_account}
use Rattle.std.proofs.Common.{◌≡◌, true, List, [], ◌∷◌, ap, refl, Result, Ok, Err, IfErr, IfOk, OnOk, filter, subst, sym, IsPermutation}
use Rattle.std.proofs.lemmas.List.Sorted.{IsPermutation-sym}
use Rattle.society_book.proofs.lemmas.together.ErrLemmas.{blames_where}
use Rattle.society_book.specs.Errors.{Blames}
use Rattle.society_rows.specs.declared.fault.RowFault.{RowFault}
use Rattle.pool_split.specs.declared.claim.Credit.{Credit}
use Rattle.sqlite_trees.specs.Tree.{Trees}
use Rattle.sqlite_value.specs.Order.{Row}
use Rattle.society_rows.specs.Layout as layout
use Rattle.society_rows.specs.Listings.{ListsAll}
use Rattle.society_rows.specs.Stored.{rows_in}
use Rattle.society_rows.specs.declared.tables.TableName.TheVariants.{Balances}
use Rattle.society_book.specs.Columns.{HasRows}
use Rattle.society_book.specs.DerivedRows.{is_named}
use Rattle.book_audit.specs.Balances.{AreTotalsOf, HasBalances, row_by_units}
use Rattle.book_audit.specs.declared.totals.Totals.{Totals}
use Rattle.book_audit.proofs.lemmas.balances.BalanceRows.{in_order}

all_kept : (rows : List Row) → filter (λ _. true) rows ≡ rows
all_kept [] = refl
all_kept (row ∷ rows) = ap (λ (l : List Row). row ∷ l) (all_kept rows)

module _ (totals : Totals) (db : Trees) (rows : List Row) (lists : ListsAll Balances db rows) where
  listed : IsPermutation (rows_in layout.balances db) rows
  listed = subst (λ (l : List Row). IsPermutation l rows) (all_kept (rows_in layout.balances db)) lists.rows

  in_table : HasRows is_named (row_by_units totals.units) rows → (credits : List Credit) → AreTotalsOf totals credits → HasBalances credits db
  in_table has credits comes q =
      subst (λ (l : List Row). IsPermutation l (filter (is_named q) (rows_in layout.balances db))) (comes q)
      (in_order (row_by_units totals.units) rows (rows_in layout.balances db) (IsPermutation-sym (rows_in layout.balances db) rows listed) has q)

  as_listed : (credits : List Credit) → AreTotalsOf totals credits → HasBalances credits db → HasRows is_named (row_by_units totals.units) rows
  as_listed credits comes has q =
      subst (λ (l : List Row). IsPermutation l (filter (is_named q) rows)) (sym (comes q)) (in_order (row_of_account credits) (rows_in layout.balances db) rows listed has q)

  pub agreed : (r : Result (Unit {0}) RowFault) → OnOk r (HasRows is_named (row_by_units totals.units) rows) → IfOk r (λ _. (credits : List Credit) → AreTotalsOf totals credits → HasBalances credits db)
  agreed (Ok x) has = in_table has
  agreed (Err e) has = tt

  pub judged : (r : Result (Unit {0}) RowFault) → IfErr r (Blames (HasRows is_named (row_by_units totals.units) rows → ⊥)) → IfErr r (Blames ((credits : List Credit) → AreTotalsOf totals credits → HasBalances credits db → ⊥))
  judged r blames = blames_where _ _ r blames (λ no credits comes has. no (as_listed credits comes has))
