use Rattle.std.proofs.Common.{◌≡◌, ◌∙◌, List, Result, Ok, Err, None, Vec, ap, option_map, refl, sym, rules}
use Rattle.std.specs.declared.alloc.Global.{Global}
use Rattle.sqlite.specs.Held.{state}
use Rattle.society_book.proofs.lemmas.together.StepLemmas.{looks_as, looks_then}
use Rattle.society_closings.proofs.lemmas.cuts.WorksHeld.{works_of}
use Rattle.society_core.specs.declared.refusal.Refusal.{Refusal}
use Rattle.order_credits.proofs.lemmas.RefusalLemmas.{lines_of, unrefused_reaches}
use Rattle.order_credits.specs.Looked.{AreSharesOf}
use Rattle.order_credits.specs.Refused.{credit_refusal, credits_unless, listed}
use Rattle.order_credits.specs.Shares.{recording_shares, shares_wanted}
use Rattle.order_credits.specs.declared.share.RecordingShare.{RecordingShare}
use Rattle.order_credits.proofs.crediting.credit_order.Goals as goal

pub returns-in-Some : goal.returns-in-Some
returns-in-Some g c = record {
  looks = record {
    same_reference = search rules;
    says =
        let o = c.args.office.now in
        let order = c.args.order.now in
        let old = state g.S.Store c.args.tx.now.conn.now in
        looks_as old (state g.S.Store c.refusal_of.new.tx.conn.now) c.in_ok-refusal.field-0 (Ok (Err c.in-Some.refusal)) _ _ c.in_ok-refusal.ensures.looks.says
        (λ is b holds. ap (λ r. credits_unless r (shares_wanted (option_map (λ set. set.now) c.args.wanted) (recording_shares o b order))) (sym c.in-Some.is ∙ is o b (lines_of o b old.now.trees holds)));
  };
}

pub returns-in_ok-shares_in-in-None : goal.returns-in_ok-shares_in-in-None
returns-in_ok-shares_in-in-None g c = record {
  looks = record {
    same_reference = search rules;
    says =
        let o = c.args.office.now in
        let order = c.args.order.now in
        let wanted = option_map (λ set. set.now) c.args.wanted in
        let list = c.in_ok-shares_in-in-None.field-0 in
        let old = state g.S.Store c.args.tx.now.conn.now in
        let mid = state g.S.Store c.refusal_of.new.tx.conn.now in
        let new = state g.S.Store c.shares_in.new.tx.conn.now in
        looks_then old mid new c.in_ok-refusal.field-0 (Ok (Ok list)) _ (λ db (a : Result (Vec RecordingShare Global) Refusal). (a ≡ Ok list) × AreSharesOf o order wanted db list.items) _ c.in_ok-refusal.ensures.looks.says
        (looks_as mid new list (Ok (Ok list)) _ _ c.in_ok-shares_in-in-None.ensures.looks.says (λ here. (refl, here)))
        (λ a is here b holds.
        let none : credit_refusal b order ≡ None = sym (is o b (lines_of o b old.now.trees holds)) ∙ c.in-None.is in
        ap listed here.0
        ∙ ap (λ (l : List RecordingShare). Ok l) (here.1 b (works_of o b old.now.trees holds) (unrefused_reaches b order none))
        ∙ ap (λ r. credits_unless r (shares_wanted wanted (recording_shares o b order))) (sym none));
  };
}
