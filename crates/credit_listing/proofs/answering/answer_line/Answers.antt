use Rattle.std.proofs.Common.{◌≡◌, Err, Ok, option_map, rules, subst}
use Rattle.sqlite.specs.Held.{state}
use Rattle.society_book.proofs.lemmas.together.StepLemmas.{does_also, nothing}
use Rattle.society_core.specs.declared.refusal.Refusal.TheVariants as refusals
use Rattle.credit_listing.specs.Answered.{AnswersLine}
use Rattle.credit_listing.specs.Spelled.{ReadsAs, order_on_line}
use Rattle.credit_listing.proofs.lemmas.AnsweredLemmas.{answers_line, refuses_line}
use Rattle.credit_listing.proofs.answering.answer_line.Goals as goal

pub returns-in-Ok : goal.returns-in-Ok
returns-in-Ok g c = record {
  looks = record {
    same_reference = search rules;
    says =
        let office = c.args.office.now in
        let line = c.args.line.now in
        let old = state g.S.Store c.args.tx.now.conn.now in
        does_also old (state g.S.Store c.credit_order.new.tx.conn.now) c.credit_order.result _ (λ before after answer. (after ≡ before) × AnswersLine office line before.trees answer) c.credit_order.ensures.looks.says
        (λ answer said. (said.0, answers_line office old.now.trees line c.in-Ok.asked (option_map (λ set. set.now) c.as_ref.result) answer (subst (ReadsAs (order_on_line line)) c.in-Ok.is c.in_ok-asked.ensures) c.as_ref.ensures.value said.1));
  };
}

pub returns-in-Err : goal.returns-in-Err
returns-in-Err g c = record {
  looks = record {
    same_reference = search rules;
    says = nothing (state g.S.Store c.args.tx.now.conn.now) (Ok (Err (refusals.Order c.in-Err.fault))) _ (refuses_line c.args.office.now _ c.args.line.now c.in-Err.fault (subst (ReadsAs (order_on_line c.args.line.now)) c.in-Err.is c.in_ok-asked.ensures));
  };
}
