use Rattle.std.proofs.Common.{[], List, Ok, map, rules}
use Rattle.sqlite.specs.Held.{state}
use Rattle.sqlite_value.specs.Order.{Row}
use Rattle.society_rows.specs.Rows.{pool_cut_values, pool_return_values, pool_values}
use Rattle.society_closings.specs.Closings.{AddsOrder}
use Rattle.society_closings.proofs.lemmas.money.PoolWrites.{adds_cut, adds_marked, adds_order}
use Rattle.society_book.proofs.lemmas.together.StepLemmas.{does_of, does_open_then}
use Rattle.society_closings.proofs.closings.add_order.Goals as goal

pub returns : goal.returns
returns g c = record {
  does = record {
    same_reference = search rules;
    says =
        let row = pool_values c.args.pool.now in
        let cut : List Row = map pool_cut_values c.args.cuts.now in
        let paid : List Row = map pool_return_values c.args.paid.now in
        let old = state g.S.Store c.args.tx.now.conn.now in
        let one = state g.S.Store c.add.new.tx.conn.now in
        let two = state g.S.Store c.add_all.new.tx.conn.now in
        let three = state g.S.Store c.add_all-2.new.tx.conn.now in
        let new = state g.S.Store c.add_mark.new.tx.conn.now in
        does_open_then old three new _ c.add_mark.result (λ before after _. AddsOrder row cut paid [] before.trees after.trees) _ _
        (does_open_then old two three _ (Ok _) (λ before after _. AddsOrder row cut [] [] before.trees after.trees) _ _
        (does_open_then old one two _ (Ok _) _ _ _
        (record { does = does_of old one (Ok _) _ c.in_ok-add.ensures.written.says (λ before after adds. adds.layout); answered = λ clean inside. c.in_ok-add.ensures.whole clean inside })
        (does_of one two (Ok _) _ c.in_ok-add_all.ensures.written.says (λ before after adds. adds.layout))
        (λ y first second. adds_cut row cut old.now one.now two.now first second))
        (does_of two three (Ok _) _ c.in_ok-add_all-2.ensures.written.says (λ before after adds. adds.layout))
        (λ y first second. adds_order row cut paid old.now two.now three.now first second))
        c.add_mark.ensures.does.says
        (λ y first second. adds_marked row cut paid c.args.pool.now.pool c.args.kind old.now three.now new.now first second);
  };
}
