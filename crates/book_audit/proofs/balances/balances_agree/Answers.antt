use Rattle.std.proofs.Common.{List, subst, sym, rules}
use Rattle.sqlite.specs.Held.{state}
use Rattle.society_rows.specs.Listings.{ListsAll}
use Rattle.society_rows.specs.declared.tables.TableName.TheVariants.{Balances}
use Rattle.pool_split.specs.declared.claim.Credit.{Credit}
use Rattle.society_book.proofs.lemmas.together.JudgedLemmas.{examines_as}
use Rattle.society_book.specs.Steps.{Never}
use Rattle.book_audit.specs.Balances.{AreTotalsOf, HasBalances}
use Rattle.book_audit.proofs.lemmas.balances.Agreement.{agreed, judged}
use Rattle.book_audit.proofs.balances.balances_agree.Goals as goal

pub returns : goal.returns
returns g c = record {
  examined = record {
    same_reference = search rules;
    says =
        let old = state g.S.Store c.args.tx.now.conn.now in
        let new = state g.S.Store c.list_of.new.tx.conn.now in
        let totals = c.args.totals in
        let db = old.now.trees in
        let rows = c.in_ok-rows.rows.items in
        examines_as Never (λ db. (credits : List Credit) → AreTotalsOf totals credits → HasBalances credits db → ⊥) old new c.in_ok-rows.rows c.rows_agree.result (λ db rows. ListsAll Balances db rows.items)
        (λ db _. (credits : List Credit) → AreTotalsOf totals credits → HasBalances credits db) c.in_ok-rows.ensures.examined.says
        (λ lists. agreed totals db c.as_slice.result.now (subst (ListsAll Balances db) (sym c.as_slice.ensures.value) lists) c.rows_agree.result c.rows_agree.ensures.agree)
        (λ lists. judged totals db c.as_slice.result.now (subst (ListsAll Balances db) (sym c.as_slice.ensures.value) lists) c.rows_agree.result c.rows_agree.ensures.judged);
  };
}
