use Rattle.std.proofs.Common.{◌≡◌, ◌∙◌, Ok, Option, Some, None, ap, refl, subst, sym, true, rules}
use Rattle.std.proofs.lemmas.List.{take_all}
use Rattle.sqlite.specs.Held.{state}
use Rattle.society_book.proofs.lemmas.together.StepLemmas.{looks_as, looks_then}
use Rattle.society_core.specs.Answers.{first_refusal}
use Rattle.society_core.specs.declared.refusal.Refusal.{Refusal}
use Rattle.society_core.specs.declared.refusal.Refusal.TheVariants.{ReturnUnknown}
use Rattle.book_audit.specs.Standing.{OfLines}
use Rattle.order_credits.specs.Refused.{unknown_refusal}
use Rattle.order_credits.proofs.lemmas.RefusalLemmas.{is_known, is_unknown, passed_at, refused_at}
use Rattle.order_credits.proofs.refusing.return_refusal.Goals as goal

pub returns-then-not-branch : goal.returns-then-not-branch
returns-then-not-branch g c = record {
  looks = record {
    same_reference = search rules;
    says =
        let old = state g.S.Store c.args.tx.now.conn.now in
        let mid = state g.S.Store c.loop-key.tx.conn.now in
        let new = state g.S.Store c.is_there.new.tx.conn.now in
        let keys = c.args.returns.now in
        let key = c.key-item.result in
        let r : Option Refusal = Some (ReturnUnknown key) in
        looks_then old mid new tt (Ok r) _ (λ db (t : Option Refusal). (t ≡ r) × OfLines (λ book. r ≡ unknown_refusal book key) db) _ c.loop-key.invariant.looks
        (looks_as mid new c.in_ok-is_there.field-0 (Ok r) _ _ c.in_ok-is_there.ensures.examined.says.does (λ told. (refl, λ o b holds. is_unknown b key (sym (told o b holds) ∙ c.if-not-branch.true))))
        (λ t before told o b holds. told.0 ∙ refused_at (unknown_refusal b) keys c.loop-key.key-index key r c.loop-key-test.true c.key-item.is (before o b holds) (told.1 o b holds) refl);
  };
}

pub loop-key-preserved : goal.loop-key-preserved
loop-key-preserved g c =
    let old = state g.S.Store c.args.tx.now.conn.now in
    let mid = state g.S.Store c.loop-key.tx.conn.now in
    let new = state g.S.Store c.is_there.new.tx.conn.now in
    let keys = c.args.returns.now in
    let key = c.key-item.result in
    record {
      same_reference = c.is_there.ensures.examined.same_reference ∙ c.loop-key.invariant.same_reference;
      looks = looks_then old mid new tt (Ok tt) _ (λ db _. OfLines (λ book. None ≡ unknown_refusal book key) db) _ c.loop-key.invariant.looks
          (looks_as mid new c.in_ok-is_there.field-0 (Ok tt) _ _ c.in_ok-is_there.ensures.examined.says.does (λ told o b holds. is_known b key (sym (told o b holds) ∙ c.if-not-branch.false)))
          (λ t before told o b holds. passed_at (unknown_refusal b) keys c.loop-key.key-index key None c.loop-key-test.true c.key-item.is (before o b holds) (told o b holds) refl);
    }

pub returns : goal.returns
returns g c = record {
  looks = record {
    same_reference = search rules;
    says =
        looks_as (state g.S.Store c.args.tx.now.conn.now) (state g.S.Store c.loop-key.tx.conn.now) tt (Ok None) _ _ c.loop-key.invariant.looks
        (λ before o b holds. sym (ap (first_refusal (unknown_refusal b)) (sym (take_all c.loop-key.key-index c.args.returns.now c.loop-key-test.false)) ∙ before o b holds));
  };
}
