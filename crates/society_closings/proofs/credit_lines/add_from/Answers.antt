use Rattle.std.proofs.Common.{◌∙◌, ap, map, rules}
use Rattle.sqlite.specs.Held.{state}
use Rattle.society_book.proofs.lemmas.together.StepLemmas.{does_of}
use Rattle.society_closings.proofs.credit_lines.add_from.Goals as goal

pub returns : goal.returns
returns g c = record {
  does = record {
    same_reference = search rules;
    says =
        let rows = c.in_ok-rows.ensures (ap (map (λ t. t.items)) c.as_slice.ensures.value ∙ c.in_ok-texts.ensures) in
        rw (c.as_slice-2.ensures.value, rows) at (does_of (state g.S.Store c.args.tx.now.conn.now) (state g.S.Store c.add_all.new.tx.conn.now) c.add_all.result _ c.add_all.ensures.written.says (λ before after adds. adds.layout));
  };
}
