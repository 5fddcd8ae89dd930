use Rattle.std.proofs.Common.{◌≡◌, ◌+◌, Ok, arith, rules}
use Rattle.sqlite.specs.Held.{state}
use Rattle.society_arrivals.proofs.lemmas.ArrivedRuns.{held_arrives, next_arrives}
use Rattle.society_book.proofs.lemmas.together.StepLemmas.{does_also, nothing}
use Rattle.society_arrivals.proofs.arrivals.run_from.Goals as goal

pub returns-then-value-front : goal.returns-then-value-front
returns-then-value-front g c = record {
  looks = record {
    same_reference = search rules;
    says =
        let old = state g.S.Store c.args.tx.now.conn.now in
        nothing old (Ok c.new.result) _
        (held_arrives c.args.office.now c.args.sender.now c.args.number c.args.body.now c.args.front c.new.result old.now.trees
        (λ is. c.if-value-front.true (omega (arith, is, c.value.ensures.value))) c.new.ensures);
  };
}

pub returns : goal.returns
returns g c = record {
  looks = record {
    same_reference = search rules;
    says =
        let o = c.args.office.now in
        let s = c.args.sender.now in
        let n = c.args.number in
        let old = state g.S.Store c.args.tx.now.conn.now in
        let new = state g.S.Store c.run_with.new.tx.conn.now in
        let is : n ≡ c.args.front + 1 = omega (arith, c.if-value-front.false, c.value.ensures.value, c.value.ensures.limits.0) in
        does_also old new c.run_with.result _ _ c.run_with.ensures.looks.says
        (λ run both. (both.0, next_arrives o s n c.args.body.now c.args.front run old.now.trees is both.1));
  };
}
