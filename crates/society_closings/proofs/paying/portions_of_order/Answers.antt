use Rattle.std.proofs.Common.{List, subst, sym, rules}
use Rattle.std.specs.Prelude.{Vec}
use Rattle.std.specs.declared.alloc.Global.{Global}
use Rattle.pool_split.specs.Credits.{credits_together}
use Rattle.pool_split.specs.declared.claim.Credit.{Credit}
use Rattle.society_book.proofs.lemmas.together.StepLemmas.{looks_then}
use Rattle.society_closings.proofs.lemmas.cuts.CutLists.{lists_fewer}
use Rattle.society_closings.specs.Choosing.{PaysTallied}
use Rattle.society_closings.specs.CutWorks.{ListsWorks, wants, wants_for}
use Rattle.society_core.specs.Points.{is_tallied}
use Rattle.sqlite.specs.Held.{state}
use Rattle.society_closings.proofs.paying.portions_of_order.Goals as goal

pub returns-clause-looks : goal.returns-clause-looks
returns-clause-looks g c = record {
  same_reference = search rules;
  says =
      let o = c.args.office.now in
      let order = c.args.order.now in
      let tally = c.in_ok-tally.tally in
      let listed = c.in_ok-works.field-0 in
      let works = c.of-works.result in
      let wanted = c.add_order.new.self in
      let old = state g.S.Store c.args.tx.now.conn.now in
      let one = state g.S.Store c.add_order.new.tx.conn.now in
      let two = state g.S.Store c.works.new.tx.conn.now in
      let new = state g.S.Store c.portions_for.new.tx.conn.now in
      looks_then old one new tally c.portions_for.result _ (λ db (y : Vec (List Credit) Global). ListsWorks (wants wanted) db listed × PaysTallied o order tally works db (credits_together y.items)) _ c.in_ok-tally.ensures.looks.says
      (looks_then one two new listed c.portions_for.result _ _ _ c.in_ok-works.ensures.looks.says c.portions_for.ensures.looks.says (λ y listed pays. (listed, pays)))
      (λ y tallied found b holds reached. found.1 (subst (ListsWorks (wants_for order.cut (is_tallied tally)) old.now.trees) (sym c.of-works.ensures.listed) (lists_fewer (wants wanted) (wants_for order.cut (is_tallied tally)) old.now.trees listed c.in_ok-tally.ensures.wants found.0)) (c.of-works.ensures.none o old.now.trees) b holds reached (tallied o b holds).0);
}
