use Rattle.std.proofs.Common.{◌∙◌, Err, Ok, Vec, sym, rules}
use Rattle.std.proofs.lemmas.Bool.{false≢true}
use Rattle.std.specs.declared.alloc.Global.{Global}
use Rattle.sqlite.specs.Held.{state}
use Rattle.sqlite_value.specs.Order.{Row}
use Rattle.pool_split.specs.Credits.{credits_together}
use Rattle.society_rows.specs.Questions.{RowsAnswer}
use Rattle.society_rows.specs.declared.questions.Question.TheVariants.{Credits}
use Rattle.book_audit.specs.Examining.{IsNot}
use Rattle.society_book.proofs.lemmas.together.ErrLemmas.{blames_on, no_answer}
use Rattle.society_book.proofs.lemmas.together.JudgedLemmas.{examines_as}
use Rattle.society_book.specs.Steps.{Never}
use Rattle.society_rows.specs.declared.fault.RowFault.TheVariants.{Damaged}
use Rattle.book_audit.specs.Credits.{HasCredits}
use Rattle.book_audit.specs.CreditSteps.{ListsOnly}
use Rattle.book_audit.proofs.credits.lines_agree.Goals as goal

pub returns-in_err-are_lines : goal.returns-in_err-are_lines
returns-in_err-are_lines g c = record {
  examined = record {
    same_reference = search rules;
    says =
        let pool = c.args.pool in
        let credits = credits_together c.args.portions.now in
        let rows = c.in_ok-rows.rows in
        let r = c.from_residual-in_err-are_lines.result in
        let old = state g.S.Store c.args.tx.now.conn.now in
        examines_as {X = Vec Row Global} {Y = Unit {0}} Never (IsNot (ListsOnly pool credits)) old (state g.S.Store c.ask.new.tx.conn.now) rows r (λ db found. RowsAnswer (Credits pool) db found.items) (λ db _. HasCredits pool credits db) c.in_ok-rows.ensures.examined.says
        (λ lists. no_answer r _ _ c.from_residual-in_err-are_lines.ensures.1)
        (λ lists. blames_on r c.in_err-are_lines.field-0.0 ⊥ _ c.from_residual-in_err-are_lines.ensures.1 c.in_err-are_lines.ensures.judged (λ never. absurd never));
  };
}

pub returns-then-branch : goal.returns-then-branch
returns-then-branch g c = record {
  examined = record {
    same_reference = search rules;
    says =
        let pool = c.args.pool in
        let credits = credits_together c.args.portions.now in
        let rows = c.in_ok-rows.rows in
        let old = state g.S.Store c.args.tx.now.conn.now in
        examines_as {X = Vec Row Global} {Y = Unit {0}} Never (IsNot (ListsOnly pool credits)) old (state g.S.Store c.ask.new.tx.conn.now) rows (Ok tt) (λ db found. RowsAnswer (Credits pool) db found.items) (λ db _. HasCredits pool credits db) c.in_ok-rows.ensures.examined.says
        (λ lists. (rows.items, lists, sym c.as_slice.ensures.value ∙ c.in_ok-are_lines.ensures.alike.0 c.if-branch.true))
        (λ lists. tt);
  };
}

pub returns : goal.returns
returns g c = record {
  examined = record {
    same_reference = search rules;
    says =
        let pool = c.args.pool in
        let credits = credits_together c.args.portions.now in
        let rows = c.in_ok-rows.rows in
        let old = state g.S.Store c.args.tx.now.conn.now in
        examines_as {X = Vec Row Global} {Y = Unit {0}} Never (IsNot (ListsOnly pool credits)) old (state g.S.Store c.ask.new.tx.conn.now) rows (Err Damaged) (λ db found. RowsAnswer (Credits pool) db found.items) (λ db _. HasCredits pool credits db) c.in_ok-rows.ensures.examined.says
        (λ lists. tt)
        (λ lists always. false≢true (sym c.if-branch.false ∙ c.in_ok-are_lines.ensures.alike.1 (c.as_slice.ensures.value ∙ always rows.items lists)));
  };
}
