use Rattle.std.proofs.Common.{◌≡◌, ◌∙◌, Err, Ok, Vec, subst, sym, true, rules}
use Rattle.std.proofs.lemmas.Bool.{false≢true}
use Rattle.std.specs.List.{AllByRecursion}
use Rattle.std.specs.declared.alloc.Global.{Global}
use Rattle.sqlite.specs.Held.{state}
use Rattle.sqlite_value.specs.Order.{Row}
use Rattle.society_rows.specs.FirstColumns.{ListsFirstColumn, derived_table}
use Rattle.book_audit.specs.Examining.{IsNot}
use Rattle.society_book.proofs.lemmas.together.JudgedLemmas.{examines_as}
use Rattle.society_book.specs.Steps.{Never}
use Rattle.society_rows.specs.declared.fault.RowFault.TheVariants.{Damaged}
use Rattle.book_audit.specs.Auditing.{is_of_one}
use Rattle.book_audit.specs.LineSteps.{AreOfThese}
use Rattle.book_audit.proofs.lemmas.lines.Strangers.{listed_these, these_listed}
use Rattle.book_audit.proofs.strangers.table_agrees.Goals as goal

pub returns-then-are_of_these : goal.returns-then-are_of_these
returns-then-are_of_these g c = record {
  examined = record {
    same_reference = search rules;
    says =
        let set = c.args.senders.now in
        let table = c.args.table in
        let rows = c.in_ok-rows.rows in
        let old = state g.S.Store c.args.tx.now.conn.now in
        let P : Row → Type 0 = λ r. is_of_one set r ≡ true in
        examines_as {X = Vec Row Global} {Y = Unit {0}} Never (IsNot (AreOfThese set (derived_table table))) old (state g.S.Store c.ask.new.tx.conn.now) rows (Ok tt) (λ db found. ListsFirstColumn table db found.items) (λ db _. AreOfThese set (derived_table table) db) c.in_ok-rows.ensures.examined.says
        (λ lists. these_listed set table old.now.trees rows.items lists (subst (AllByRecursion P) c.as_slice.ensures.value (c.are_of_these.ensures.0 c.if-are_of_these.true)))
        (λ lists. tt);
  };
}

pub returns : goal.returns
returns g c = record {
  examined = record {
    same_reference = search rules;
    says =
        let set = c.args.senders.now in
        let table = c.args.table in
        let rows = c.in_ok-rows.rows in
        let old = state g.S.Store c.args.tx.now.conn.now in
        let P : Row → Type 0 = λ r. is_of_one set r ≡ true in
        examines_as {X = Vec Row Global} {Y = Unit {0}} Never (IsNot (AreOfThese set (derived_table table))) old (state g.S.Store c.ask.new.tx.conn.now) rows (Err Damaged) (λ db found. ListsFirstColumn table db found.items) (λ db _. AreOfThese set (derived_table table) db) c.in_ok-rows.ensures.examined.says
        (λ lists. tt)
        (λ lists these. false≢true (sym c.if-are_of_these.false ∙ c.are_of_these.ensures.1 (subst (AllByRecursion P) (sym c.as_slice.ensures.value) (listed_these set table old.now.trees rows.items lists these))));
  };
}
