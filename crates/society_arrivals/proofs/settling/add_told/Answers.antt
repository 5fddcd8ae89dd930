use Rattle.std.proofs.Common.{[], List, Ok, map, rules}
use Rattle.sqlite.specs.Held.{state}
use Rattle.sqlite_value.specs.Order.{Row}
use Rattle.society_rows.specs.Rows.{recording_values, version_values}
use Rattle.society_arrivals.specs.LineTables.{AddsTold}
use Rattle.society_arrivals.proofs.lemmas.RunWrites.{tells_all, tells_works}
use Rattle.society_book.proofs.lemmas.together.StepLemmas.{does_of, does_then}
use Rattle.society_arrivals.proofs.settling.add_told.Goals as goal

pub returns : goal.returns
returns g c = record {
  does = record {
    same_reference = search rules;
    says =
        let told : List Row = map version_values c.args.versions.now in
        let named : List Row = map recording_values c.args.recordings.now in
        let old = state g.S.Store c.args.tx.now.conn.now in
        let one = state g.S.Store c.add_all.new.tx.conn.now in
        let two = state g.S.Store c.add_all-2.new.tx.conn.now in
        let new = state g.S.Store c.add_all-3.new.tx.conn.now in
        does_then old one new _ c.add_all-3.result _ (λ before after _. AddsTold [] told named before.trees after.trees) _ (does_of old one (Ok _) _ c.in_ok-add_all.ensures.written.says (λ before after adds. adds.layout))
        (does_then one two new _ c.add_all-3.result _ _ (λ before after _. AddsTold [] told named before.trees after.trees) (does_of one two (Ok _) _ c.in_ok-add_all-2.ensures.written.says (λ before after adds. adds.layout)) (does_of two new c.add_all-3.result _ c.add_all-3.ensures.written.says (λ before after adds. adds.layout))
        (λ y first second. tells_works told named one.now two.now new.now first second))
        (λ y first second. tells_all _ told named old.now one.now new.now first second);
  };
}
