use Rattle.std.proofs.Common.{◌≡◌, ℕ, List, ◌<◌, ◌++◌, ◌∙◌, [], ap, sym, length, get_or, arith, below_more, map}
use Rattle.std.proofs.lemmas.List.{length-map}
use Rattle.cwr_records.specs.Layouts.{nowhere, position_of, width_of}
use Rattle.cwr_records.specs.declared.layout.Position.{Position}
use Rattle.cwr_records.proofs.lemmas.Rows.{row-next, ordered-next, kept-next, widths-all, on_ok}
use Rattle.cwr_records.proofs.write.append_record.Goals as goal

pub loop-index-preserved : goal.loop-index-preserved
loop-index-preserved g c =
    let ps = c.positions-positions.result.now in
    let cs = g.K.RecordKind.kind.contents c.args.source.now in
    let l = c.loop-index in
    let within : l.index < length ps = omega arith in
    let counted : l.index < length cs = omega (arith, g.K.RecordKind.kind.counted c.args.source.now, ap length c.positions-positions.ensures, length-map g.K.RecordKind.kind.places position_of) in
    let next = ordered-next ps l.index l.behind within l.invariant.ordered in
    let blanks = c.in_ok-append_blanks.ensures.ok in
    let field = c.in_ok-append_field.ensures.ok ∙ ap (λ (f : List ℕ). c.append_blanks.new.out.items ++ f) c.content.ensures.value in
    let kept = kept-next _ _ _ _ _ l.invariant.kept l.invariant.grown (field ∙ ap (λ (b : List ℕ). b ++ get_or cs l.index []) blanks) in
    record {
      items = row-next ps cs l.index l.behind l.out.items _ _ within counted blanks field ∙ l.invariant.items;
      ordered = next.2;
      widths = below_more _ _ l.invariant.widths (ap length (sym c.content.ensures.value) ∙ c.content.ensures.width ∙ ap (λ (p : List Position). width_of (get_or p l.index nowhere)) (sym c.positions-positions.ensures));
      kept = kept.0;
      grown = kept.1;
    }

pub returns-clause-widths : goal.returns-clause-widths
returns-clause-widths g c =
    let ps = c.positions-positions.result.now in
    let cs = g.K.RecordKind.kind.contents c.args.source.now in
    let counted : length cs ≡ length ps = omega (arith, g.K.RecordKind.kind.counted c.args.source.now, ap length c.positions-positions.ensures, length-map g.K.RecordKind.kind.places position_of) in
    on_ok _ (widths-all ps cs c.loop-index.index counted (omega arith) c.loop-index.invariant.widths ∙ ap (map width_of) c.positions-positions.ensures)
