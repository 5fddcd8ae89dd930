use Rattle.std.proofs.Common.{rules}
use Rattle.society_book.proofs.lemmas.together.JudgedLemmas.{examines_then}
use Rattle.society_closings.specs.Blamed.{HoldNoWorks}
use Rattle.sqlite.specs.Held.{state}
use Rattle.book_audit.proofs.paying.weigh.Goals as goal

pub returns-clause-examined : goal.returns-clause-examined
returns-clause-examined g c = record {
  same_reference = search rules;
  says =
      let old = state g.S.Store c.args.tx.now.conn.now in
      let mid = state g.S.Store c.weigh_in.new.tx.conn.now in
      let new = state g.S.Store c.weigh_in-2.new.tx.conn.now in
      examines_then HoldNoWorks HoldNoWorks HoldNoWorks old mid new tt c.weigh_in-2.result _ _ _ c.in_ok-weigh_in.ensures.examined.says c.weigh_in-2.ensures.examined.says (λ y one two before. two (one before)) (λ one no. no);
}
