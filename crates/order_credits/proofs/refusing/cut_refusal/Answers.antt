use Rattle.std.proofs.Common.{◌≡◌, ◌∙◌, Ok, Option, Some, None, ap, refl, subst, sym, true, rules}
use Rattle.std.proofs.lemmas.List.{take_all}
use Rattle.sqlite.specs.Held.{state}
use Rattle.society_book.proofs.lemmas.together.StepLemmas.{looks_as, looks_then, nothing}
use Rattle.society_core.specs.Answers.{cut_refusal, first_refusal}
use Rattle.society_core.specs.declared.refusal.Refusal.{Refusal}
use Rattle.book_audit.specs.Standing.{OfLines}
use Rattle.order_credits.proofs.lemmas.RefusalLemmas.{passed_at, refused_at}
use Rattle.order_credits.proofs.refusing.cut_refusal.Goals as goal

pub returns-then-is_some : goal.returns-then-is_some
returns-then-is_some g c = record {
  looks = record {
    same_reference = search rules;
    says =
        let old = state g.S.Store c.args.tx.now.conn.now in
        let mid = state g.S.Store c.loop-key.tx.conn.now in
        let new = state g.S.Store c.number_refusal.new.tx.conn.now in
        let cut = c.args.cut.now in
        let key = c.key-item.result in
        let r = c.in_ok-refusal.refusal in
        looks_then old mid new tt (Ok r) _ (λ db (t : Option Refusal). (t ≡ r) × OfLines (λ book. r ≡ cut_refusal book key) db) _ c.loop-key.invariant.looks
        (looks_as mid new r (Ok r) _ _ c.in_ok-refusal.ensures.looks.says (λ here. (refl, here)))
        (λ t before told o b holds. told.0 ∙ refused_at (cut_refusal b) cut c.loop-key.key-index key r c.loop-key-test.true c.key-item.is (before o b holds) (told.1 o b holds) (sym c.is_some.ensures ∙ c.if-is_some.true));
  };
}

pub loop-key-preserved : goal.loop-key-preserved
loop-key-preserved g c =
    let old = state g.S.Store c.args.tx.now.conn.now in
    let mid = state g.S.Store c.loop-key.tx.conn.now in
    let new = state g.S.Store c.number_refusal.new.tx.conn.now in
    let cut = c.args.cut.now in
    let key = c.key-item.result in
    let r = c.in_ok-refusal.refusal in
    record {
      same_reference = c.number_refusal.ensures.looks.same_reference ∙ c.loop-key.invariant.same_reference;
      looks = looks_then old mid new tt (Ok tt) _ (λ db _. OfLines (λ book. r ≡ cut_refusal book key) db) _ c.loop-key.invariant.looks
          (looks_as mid new r (Ok tt) _ _ c.in_ok-refusal.ensures.looks.says (λ here. here))
          (λ t before told o b holds. passed_at (cut_refusal b) cut c.loop-key.key-index key r c.loop-key-test.true c.key-item.is (before o b holds) (told o b holds) (sym c.is_some.ensures ∙ c.if-is_some.false));
    }

pub returns : goal.returns
returns g c = record {
  looks = record {
    same_reference = search rules;
    says =
        looks_as (state g.S.Store c.args.tx.now.conn.now) (state g.S.Store c.loop-key.tx.conn.now) tt (Ok None) _ _ c.loop-key.invariant.looks
        (λ before o b holds. sym (ap (first_refusal (cut_refusal b)) (sym (take_all c.loop-key.key-index c.args.cut.now c.loop-key-test.false)) ∙ before o b holds));
  };
}
