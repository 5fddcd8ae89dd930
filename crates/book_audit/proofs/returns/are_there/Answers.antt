use Rattle.std.proofs.Common.{◌≡◌, ◌∙◌, Bool, List, Ok, false, is_some, refl, subst, sym, true, rules}
use Rattle.std.proofs.lemmas.List.{take_all}
use Rattle.std.specs.List.{list_all}
use Rattle.sqlite.specs.Held.{state}
use Rattle.society_core.specs.Book.{return_at}
use Rattle.society_core.specs.declared.return_key.ReturnKey.{ReturnKey}
use Rattle.society_book.proofs.lemmas.together.JudgedLemmas.{examines_as, examines_then}
use Rattle.society_book.specs.Steps.{Never}
use Rattle.book_audit.specs.Standing.{OfLines, TellsReturns}
use Rattle.book_audit.proofs.lemmas.orders.Steps.{one_fails, one_passes}
use Rattle.book_audit.proofs.returns.are_there.Goals as goal

pub returns-then-not-branch : goal.returns-then-not-branch
returns-then-not-branch g c = record {
  examined = record {
    same_reference = search rules;
    says =
        let old = state g.S.Store c.args.tx.now.conn.now in
        let mid = state g.S.Store c.loop-key.tx.conn.now in
        let new = state g.S.Store c.is_there.new.tx.conn.now in
        let keys = c.args.keys.now in
        let key = c.key-item.result in
        examines_then Never Never Never old mid new tt (Ok false) _ (λ db (t : Bool). (t ≡ false) × OfLines (λ book. is_some (return_at book key) ≡ false) db) (TellsReturns keys) c.loop-key.invariant.examined
        (examines_as Never Never mid new c.in_ok-is_there.field-0 (Ok false) _ _ c.in_ok-is_there.ensures.examined.says (λ told. (refl, λ o b holds. sym (told o b holds) ∙ c.if-not-branch.true)) (λ told. tt))
        (λ t before told o b holds. told.0 ∙ one_fails (λ k. is_some (return_at b k)) keys c.loop-key.key-index key c.loop-key-test.true c.key-item.is (told.1 o b holds))
        (λ before never. never);
  };
}

pub loop-key-preserved : goal.loop-key-preserved
loop-key-preserved g c =
    let old = state g.S.Store c.args.tx.now.conn.now in
    let mid = state g.S.Store c.loop-key.tx.conn.now in
    let new = state g.S.Store c.is_there.new.tx.conn.now in
    let keys = c.args.keys.now in
    let key = c.key-item.result in
    record {
      same_reference = c.is_there.ensures.examined.same_reference ∙ c.loop-key.invariant.same_reference;
      examined = examines_then Never Never Never old mid new tt (Ok tt) _ (λ db _. OfLines (λ book. is_some (return_at book key) ≡ true) db) _ c.loop-key.invariant.examined
          (examines_as Never Never mid new c.in_ok-is_there.field-0 (Ok tt) _ _ c.in_ok-is_there.ensures.examined.says (λ told o b holds. sym (told o b holds) ∙ c.if-not-branch.false) (λ told. tt))
          (λ t before here o b holds. one_passes (λ k. is_some (return_at b k)) keys c.loop-key.key-index key c.loop-key-test.true c.key-item.is (before o b holds) (here o b holds))
          (λ before never. never);
    }

pub returns : goal.returns
returns g c = record {
  examined = record {
    same_reference = search rules;
    says =
        examines_as Never Never (state g.S.Store c.args.tx.now.conn.now) (state g.S.Store c.loop-key.tx.conn.now) tt (Ok true) _ _ c.loop-key.invariant.examined
        (λ before o b holds. sym (subst (λ (l : List ReturnKey). list_all (λ k. is_some (return_at b k)) l ≡ true) (take_all c.loop-key.key-index c.args.keys.now c.loop-key-test.false) (before o b holds)))
        (λ before. tt);
  };
}
