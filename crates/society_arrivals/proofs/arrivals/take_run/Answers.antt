use Rattle.std.proofs.Common.{rules}
use Rattle.sqlite.specs.Held.{state}
use Rattle.society_core.proofs.lemmas.Books.{sound_with}
use Rattle.society_arrivals.proofs.lemmas.HeldAdds.{fits, next_order}
use Rattle.society_book.proofs.lemmas.lines.KnownSenders.{knows_sent}
use Rattle.society_arrivals.proofs.lemmas.RunBooks.{lined_by}
use Rattle.society_arrivals.proofs.lemmas.RunTables.{sent_added}
use Rattle.society_book.proofs.lemmas.together.StepLemmas.{does_of, does_then}
use Rattle.society_arrivals.proofs.arrivals.take_run.Goals as goal

pub returns : goal.returns
returns g c = record {
  does = record {
    same_reference = search rules;
    says =
        let s = c.args.sender.now in
        let n = c.args.number in
        let body = c.args.body.now in
        let run = c.args.run.now in
        let old = state g.S.Store c.args.tx.now.conn.now in
        let mid = state g.S.Store c.put_run.new.tx.conn.now in
        let new = state g.S.Store c.add.new.tx.conn.now in
        does_then old mid new tt c.add.result _ _ _ c.in_ok-put_run.ensures.does.says
        (rw (c.as_bytes.ensures.bytes, c.value.ensures.value) at (does_of mid new c.add.result _ c.add.ensures.written.says (λ before after adds. adds.layout)))
        (λ y puts adds o b holds at may goes.
        let sound = sound_with b s n body holds.sound may.free may.entry (fits b s n body holds.sound may) in
        let is = lined_by o b _ s run goes (next_order b s n body holds.sound may s).right (knows_sent b s n body) old.now.trees mid.now.trees holds (puts o b holds at) in
        sent_added o b s n body may.free mid.now.trees new.now.trees is sound adds.rows adds.others);
  };
}
