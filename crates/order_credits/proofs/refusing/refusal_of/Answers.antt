use Rattle.std.proofs.Common.{◌∙◌, Ok, Some, List, ap, sym, rules}
use Rattle.sqlite.specs.Held.{state}
use Rattle.society_book.proofs.lemmas.together.StepLemmas.{looks_as, looks_then}
use Rattle.society_core.specs.Answers.{cut_refusal, first_refusal, refusal_or_later}
use Rattle.society_core.specs.declared.return_key.ReturnKey.{ReturnKey}
use Rattle.society_core.specs.declared.transmission_key.TransmissionKey.{TransmissionKey}
use Rattle.order_credits.specs.Refused.{unknown_refusal}
use Rattle.order_credits.proofs.refusing.refusal_of.Goals as goal

pub returns-in-Some : goal.returns-in-Some
returns-in-Some g c = record {
  looks = record {
    same_reference = search rules;
    says =
        let order = c.args.order.now in
        looks_as (state g.S.Store c.args.tx.now.conn.now) (state g.S.Store c.cut_refusal.new.tx.conn.now) _ (Ok (Some c.in-Some.refusal)) _ _ c.in_ok-refusal.ensures.looks.says
        (λ is o b holds.
        ap (λ r. refusal_or_later r (first_refusal (unknown_refusal b) order.returns)) (sym c.in-Some.is ∙ is o b holds ∙ ap (first_refusal (cut_refusal b)) c.cut.ensures.value));
  };
}

pub returns-in-None : goal.returns-in-None
returns-in-None g c = record {
  looks = record {
    same_reference = search rules;
    says =
        let order = c.args.order.now in
        looks_then (state g.S.Store c.args.tx.now.conn.now) (state g.S.Store c.cut_refusal.new.tx.conn.now) (state g.S.Store c.return_refusal.new.tx.conn.now) _ c.return_refusal.result _ _ _ c.in_ok-refusal.ensures.looks.says c.return_refusal.ensures.looks.says
        (λ y first second o b holds.
        second o b holds
        ∙ ap (first_refusal (unknown_refusal b)) c.returns.ensures.value
        ∙ ap (λ r. refusal_or_later r (first_refusal (unknown_refusal b) order.returns)) (sym c.in-None.is ∙ first o b holds ∙ ap (first_refusal (cut_refusal b)) c.cut.ensures.value));
  };
}
