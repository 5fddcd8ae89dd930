use Rattle.std.proofs.Common.{◌∙◌, map, refl, rules}
use Rattle.std.specs.Slice.Iter.{chunks_rest}
use Rattle.sqlite.specs.Held.{state}
use Rattle.society_rows.specs.Stored.{HasLayout}
use Rattle.society_rows.proofs.lemmas.errors.Blamed.{blames_after}
use Rattle.society_rows.proofs.lemmas.errors.Told.{tells_after}
use Rattle.society_rows.proofs.lemmas.changes.ListWrites.{some_first, some_next, some_fails, some_left, some_all}
use Rattle.society_rows.proofs.pairing.add_all.Goals as goal

pub loop-part-init : goal.loop-part-init
loop-part-init g c = record {
  ready = search rules;
  finite = tt;
  size = search rules;
  same_reference = refl;
  some = some_first g.R.PairedRow.table g.R.PairedRow.values c.args.rows.now _ (state g.S.Store c.args.tx.now.conn.now) (search rules);
}

pub loop-part-preserved : goal.loop-part-preserved
loop-part-preserved g c =
    let steps = c.in-Some.ensures.steps in
    record {
      ready = search rules;
      finite = tt;
      size = steps.0 ∙ c.loop-part.invariant.size;
      same_reference = c.add_part.ensures.written.same_reference ∙ c.loop-part.invariant.same_reference;
      some = some_next g.R.PairedRow.table g.R.PairedRow.values c.args.rows.now _ (state g.S.Store c.args.tx.now.conn.now) (state g.S.Store c.loop-part.tx.conn.now) (state g.S.Store c.add_part.new.tx.conn.now)
          c.loop-part.invariant.some c.in-Some.part.now (chunks_rest c.next.new.self) tt steps.1.0 c.in_ok-add_part.ensures.written.says;
    }

pub returns-in_err-add_part : goal.returns-in_err-add_part
returns-in_err-add_part g c =
    let old = state g.S.Store c.args.tx.now.conn.now in
    let on = state g.S.Store c.loop-part.tx.conn.now in
    let new = state g.S.Store c.add_part.new.tx.conn.now in
    record {
      written = record {
        same_reference = c.add_part.ensures.written.same_reference ∙ c.loop-part.invariant.same_reference;
        says = some_fails g.R.PairedRow.table g.R.PairedRow.values c.args.rows.now _ old on new c.loop-part.invariant.some c.in_err-add_part.field-0.0 _ (map g.R.PairedRow.values c.args.rows.now) c.from_residual.result
            c.from_residual.ensures.0 c.in_err-add_part.ensures.written.says;
      };
      left = some_left g.R.PairedRow.table g.R.PairedRow.values c.args.rows.now _ old on new c.loop-part.invariant.some c.in_err-add_part.field-0.0 c.from_residual.result c.in_err-add_part.ensures.written.says.survives
          c.in_err-add_part.ensures.whole;
      err = tells_after HasLayout HasLayout old on new c.loop-part.invariant.some.written (λ d e h. h.layout) c.in_err-add_part.field-0.0 c.from_residual.result c.from_residual.ensures.1 c.in_err-add_part.ensures.written.says.survives c.in_err-add_part.ensures.err;
      blamed = blames_after HasLayout HasLayout old on new c.loop-part.invariant.some.written (λ d e h. h.layout) c.in_err-add_part.field-0.0 c.from_residual.result c.from_residual.ensures.1 c.in_err-add_part.ensures.written.says.survives c.in_err-add_part.ensures.blamed;
    }

pub returns-clause-written : goal.returns-clause-written
returns-clause-written g c = record {
  same_reference = search rules;
  says =
      some_all g.R.PairedRow.table g.R.PairedRow.values c.args.rows.now _ (state g.S.Store c.args.tx.now.conn.now) (state g.S.Store c.loop-part.tx.conn.now) c.in-None.ensures.steps.1.0 c.loop-part.invariant.some;
}
