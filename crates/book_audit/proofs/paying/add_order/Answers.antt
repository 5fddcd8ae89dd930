use Rattle.std.proofs.Common.{Ok, rules}
use Rattle.sqlite.specs.Held.{state}
use Rattle.society_book.proofs.lemmas.together.JudgedLemmas.{examines_as, examines_looks}
use Rattle.society_closings.proofs.lemmas.cuts.CutLists.{wants_reported}
use Rattle.society_closings.specs.Blamed.{LackReturns}
use Rattle.book_audit.proofs.paying.add_order.Goals as goal

pub returns-clause-examined : goal.returns-clause-examined
returns-clause-examined g c = record {
  same_reference = search rules;
  says =
      let order = c.args.order.now in
      let tally = c.in_ok-add_order.field-0 in
      let old = state g.S.Store c.args.tx.now.conn.now in
      let new = state g.S.Store c.add_order.new.tx.conn.now in
      examines_as (LackReturns order.returns) (LackReturns order.returns) old new tally (Ok tt) _ _ (examines_looks (LackReturns order.returns) old new tally _ c.in_ok-add_order.ensures.looks.says)
      (λ tallied o b holds. wants_reported b order c.add_order.new.self tally (tallied o b holds).0 c.in_ok-add_order.ensures.wants) (λ tallied. tt);
}
