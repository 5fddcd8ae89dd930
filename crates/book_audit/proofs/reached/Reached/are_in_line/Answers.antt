use Rattle.std.proofs.Common.{◌≡◌, ◌∙◌, Bool, Err, List, Ok, false, refl, subst, sym, true, rules}
use Rattle.std.proofs.lemmas.List.{take_all}
use Rattle.std.specs.List.{list_all}
use Rattle.sqlite.specs.Held.{state}
use Rattle.society_core.specs.Book.{is_applied}
use Rattle.society_core.specs.declared.transmission_key.TransmissionKey.{TransmissionKey}
use Rattle.society_book.proofs.lemmas.together.JudgedLemmas.{examines_as, examines_not, examines_then}
use Rattle.book_audit.specs.Standing.{HoldsNoLines, KnowsReach, OfLines, TellsCut}
use Rattle.book_audit.proofs.lemmas.orders.Steps.{one_fails, one_passes}
use Rattle.book_audit.proofs.reached.Reached.are_in_line.Goals as goal

pub returns-in_err-learn : goal.returns-in_err-learn
returns-in_err-learn g c = record {
  examined = record {
    same_reference = search rules;
    says =
        let old = state g.S.Store c.args.tx.now.conn.now in
        let mid = state g.S.Store c.loop-key.tx.conn.now in
        let new = state g.S.Store c.learn.new.tx.conn.now in
        examines_not HoldsNoLines HoldsNoLines old new c.in_err-learn.field-0.0 c.from_residual.result _ _
        (examines_then HoldsNoLines HoldsNoLines HoldsNoLines old mid new tt (Err c.in_err-learn.field-0.0) _ _ (λ db (done : Unit {0}). Unit {0}) c.loop-key.invariant.examined c.in_err-learn.ensures.examined.says (λ y before here. tt) (λ before wrong. wrong))
        c.from_residual.ensures.1 (λ wrong. wrong);
  };
}

pub returns-then-not-is_in_line : goal.returns-then-not-is_in_line
returns-then-not-is_in_line g c = record {
  examined = record {
    same_reference = search rules;
    says =
        let old = state g.S.Store c.args.tx.now.conn.now in
        let mid = state g.S.Store c.loop-key.tx.conn.now in
        let new = state g.S.Store c.learn.new.tx.conn.now in
        let db = old.now.trees in
        let cut = c.args.cut.now in
        let key = c.key-item.result in
        examines_then HoldsNoLines HoldsNoLines HoldsNoLines old mid new tt (Ok false) _ (λ db (t : Bool). (t ≡ false) × (KnowsReach db c.loop-key.self → KnowsReach db c.learn.new.self × OfLines (λ book. is_applied book key ≡ false) db))
        (λ db told. KnowsReach db c.args.self.now → KnowsReach db c.learn.new.self × TellsCut cut db told) c.loop-key.invariant.examined
        (examines_as HoldsNoLines HoldsNoLines mid new tt (Ok false) _ _ c.in_ok-learn.ensures.examined.says
        (λ learns. (refl, λ knows. let now = learns knows in (now.0, λ o b holds. sym (c.is_in_line.ensures mid.now.trees now.0 now.1 o b holds) ∙ c.if-not-is_in_line.true)))
        (λ learns. tt))
        (λ t before told knows.
        let then = before knows in
        let now = told.1 then.0 in
        (now.0, λ o b holds. told.0 ∙ one_fails (is_applied b) cut c.loop-key.key-index key c.loop-key-test.true c.key-item.is (now.1 o b holds)))
        (λ before wrong. wrong);
  };
}

pub loop-key-preserved : goal.loop-key-preserved
loop-key-preserved g c =
    let old = state g.S.Store c.args.tx.now.conn.now in
    let mid = state g.S.Store c.loop-key.tx.conn.now in
    let new = state g.S.Store c.learn.new.tx.conn.now in
    let cut = c.args.cut.now in
    let key = c.key-item.result in
    record {
      same_reference = c.learn.ensures.examined.same_reference ∙ c.loop-key.invariant.same_reference;
      examined = examines_then HoldsNoLines HoldsNoLines HoldsNoLines old mid new tt (Ok tt) _ (λ db (done : Unit {0}). KnowsReach db c.loop-key.self → KnowsReach db c.learn.new.self × OfLines (λ book. is_applied book key ≡ true) db) _ c.loop-key.invariant.examined
          (examines_as HoldsNoLines HoldsNoLines mid new tt (Ok tt) _ _ c.in_ok-learn.ensures.examined.says
          (λ learns knows. let now = learns knows in (now.0, λ o b holds. sym (c.is_in_line.ensures mid.now.trees now.0 now.1 o b holds) ∙ c.if-not-is_in_line.false))
          (λ learns. tt))
          (λ t before told knows.
          let then = before knows in
          let now = told then.0 in
          (now.0, λ o b holds. one_passes (is_applied b) cut c.loop-key.key-index key c.loop-key-test.true c.key-item.is (then.1 o b holds) (now.1 o b holds)))
          (λ before wrong. wrong);
    }

pub returns : goal.returns
returns g c = record {
  examined = record {
    same_reference = search rules;
    says =
        examines_as HoldsNoLines HoldsNoLines (state g.S.Store c.args.tx.now.conn.now) (state g.S.Store c.loop-key.tx.conn.now) tt (Ok true) _ _ c.loop-key.invariant.examined
        (λ before knows. let then = before knows in (then.0, λ o b holds. sym (subst (λ (l : List TransmissionKey). list_all (is_applied b) l ≡ true) (take_all c.loop-key.key-index c.args.cut.now c.loop-key-test.false) (then.1 o b holds))))
        (λ before. tt);
  };
}
