use Rattle.std.proofs.Common.{Ok, rules}
use Rattle.sqlite.specs.Held.{state}
use Rattle.society_book.proofs.lemmas.together.JudgedLemmas.{examines_as}
use Rattle.book_audit.specs.Standing.{HoldsNoLines, IsReach, LearnsReach}
use Rattle.book_audit.proofs.lemmas.orders.Lines.{learned}
use Rattle.book_audit.proofs.reached.Reached.learn.Goals as goal

pub returns : goal.returns
returns g c = record {
  examined = record {
    same_reference = search rules;
    says =
        let old = state g.S.Store c.args.tx.now.conn.now in
        let s = c.args.sender.now in
        examines_as HoldsNoLines HoldsNoLines old (state g.S.Store c.reach_of.new.tx.conn.now) c.in_ok-reach.reach (Ok tt) (IsReach s) (λ db _. LearnsReach s c.args.self.now (record { by_sender = c.insert.new.self }) db) c.in_ok-reach.ensures.examined.says
        (λ here. learned old.now.trees c.args.self.now (record { by_sender = c.insert.new.self }) s c.in_ok-reach.reach c.in_ok-insert.ensures.updates.0 here)
        (λ here. tt);
  };
}
