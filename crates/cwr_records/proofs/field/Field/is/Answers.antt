use Rattle.std.proofs.Common.{◌∙◌, sym, arith, ap}
use Rattle.std.specs.List.{list_all}
use Rattle.std.proofs.lemmas.Slice.Eq.{slice_eq-Decides}
use Rattle.std.proofs.lemmas.Bool.{false≢true}
use Rattle.std.proofs.lemmas.Bool.Decides.{Decides-eqb}
use Rattle.work_ids.specs.Blanks.{is_blank_byte}
use Rattle.cwr_records.proofs.lemmas.Fields.{filled-decides, filled-differs}
use Rattle.cwr_records.proofs.field.Field.is.Goals as goal

pub returns-then-eq : goal.returns-then-eq
returns-then-eq c =
    let same = (slice_eq-Decides Decides-eqb _ _ _ c.eq.ensures).0 c.if-eq.true in
    filled-decides c.self.inside.present.now c.args.text.now c.args.self.now c.self.inside.width _ c.self.invariant (omega arith) c.self.view_is (sym c.split_at.ensures.front ∙ same) (c.are_blank.ensures ∙ ap (list_all is_blank_byte) c.split_at.ensures.back)

pub returns-else-eq : goal.returns-else-eq
returns-else-eq c = filled-differs c.self.inside.present.now c.args.text.now c.args.self.now _ c.self.view_is (λ e. false≢true (sym c.if-eq.false ∙ (slice_eq-Decides Decides-eqb _ _ _ c.eq.ensures).1 (c.split_at.ensures.front ∙ e)))
