use Rattle.std.proofs.Common.{◌∙◌, Err, Ok, Vec, subst, sym, rules}
use Rattle.std.proofs.lemmas.Bool.{false≢true}
use Rattle.std.specs.List.{AllByRecursion}
use Rattle.std.specs.declared.alloc.Global.{Global}
use Rattle.sqlite.specs.Held.{state}
use Rattle.sqlite_value.specs.Order.{Row}
use Rattle.society_rows.specs.FirstColumns.{ListsFirstColumn}
use Rattle.society_rows.specs.declared.derived_tables.DerivedTable.TheVariants.{Credits}
use Rattle.book_audit.specs.Examining.{IsNot}
use Rattle.society_book.proofs.lemmas.together.JudgedLemmas.{examines_as}
use Rattle.society_book.specs.Steps.{Never}
use Rattle.society_rows.specs.declared.fault.RowFault.TheVariants.{Damaged}
use Rattle.book_audit.specs.Credits.{AreCreditsOfPools, IsCreditOf}
use Rattle.book_audit.proofs.lemmas.credits.FirstColumns.{listed_these, these_listed}
use Rattle.book_audit.proofs.credit_owners.has_no_stranger.Goals as goal

pub returns-then-are_of_these : goal.returns-then-are_of_these
returns-then-are_of_these g c = record {
  examined = record {
    same_reference = search rules;
    says =
        let pools = c.args.pools.now in
        let rows = c.in_ok-rows.rows in
        let old = state g.S.Store c.args.tx.now.conn.now in
        let P = IsCreditOf pools in
        examines_as {X = Vec Row Global} {Y = Unit {0}} Never (IsNot (AreCreditsOfPools pools)) old (state g.S.Store c.ask.new.tx.conn.now) rows (Ok tt) (λ db found. ListsFirstColumn Credits db found.items) (λ db _. AreCreditsOfPools pools db) c.in_ok-rows.ensures.examined.says
        (λ lists. these_listed pools old.now.trees rows.items lists (subst (AllByRecursion P) c.as_slice.ensures.value (c.are_of_these.ensures.0 c.if-are_of_these.true)))
        (λ lists. tt);
  };
}

pub returns : goal.returns
returns g c = record {
  examined = record {
    same_reference = search rules;
    says =
        let pools = c.args.pools.now in
        let rows = c.in_ok-rows.rows in
        let old = state g.S.Store c.args.tx.now.conn.now in
        let P = IsCreditOf pools in
        examines_as {X = Vec Row Global} {Y = Unit {0}} Never (IsNot (AreCreditsOfPools pools)) old (state g.S.Store c.ask.new.tx.conn.now) rows (Err Damaged) (λ db found. ListsFirstColumn Credits db found.items) (λ db _. AreCreditsOfPools pools db) c.in_ok-rows.ensures.examined.says
        (λ lists. tt)
        (λ lists these. false≢true (sym c.if-are_of_these.false ∙ c.are_of_these.ensures.1 (subst (AllByRecursion P) (sym c.as_slice.ensures.value) (listed_these pools old.now.trees rows.items lists these))));
  };
}
