use Rattle.std.proofs.Common.{Ok, rules}
use Rattle.sqlite.specs.Held.{state}
use Rattle.society_arrivals.proofs.lemmas.RunWrites.{adds_ordered, puts_line_by}
use Rattle.society_book.proofs.lemmas.together.StepLemmas.{does_of, does_then}
use Rattle.society_arrivals.proofs.settling.put_told.Goals as goal

pub returns : goal.returns
returns g c = record {
  does = record {
    same_reference = search rules;
    says =
        let old = state g.S.Store c.args.tx.now.conn.now in
        let mid = state g.S.Store c.put_front.new.tx.conn.now in
        let new = state g.S.Store c.add_told.new.tx.conn.now in
        does_then old mid new _ c.add_told.result _ _ _ (does_of old mid (Ok _) _ c.in_ok-put_front.ensures.written.says (λ before after puts. puts.layout))
        (rw (c.as_slice.ensures.value, c.as_slice-2.ensures.value, c.as_slice-3.ensures.value, c.in_ok-verdicts.ensures) at c.add_told.ensures.does.says)
        (λ y first second. puts_line_by _ _ _ _ old.now mid.now new.now first (adds_ordered _ _ _ _ _ mid.now.trees new.now.trees c.in_ok-versions.ensures c.in_ok-recordings.ensures second));
  };
}
