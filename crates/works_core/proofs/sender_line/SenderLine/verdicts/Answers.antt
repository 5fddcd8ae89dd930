use Rattle.std.proofs.Common.{◌∙◌, List, [], ap, sym, subst}
use Rattle.works_core.specs.Kept.{AreVerdicts, kept_line}
use Rattle.works_core.specs.Line.{verdicts_at, verdicts_behind}
use Rattle.works_core.specs.Numbered.{has_number}
use Rattle.works_core.specs.LineValue.{SenderLineValue}
use Rattle.works_core.specs.declared.sender_line.KeptTransmission.{KeptTransmission}
use Rattle.works_core.proofs.sender_line.SenderLine.verdicts.Goals as goal

pub loop-transmission-init : goal.loop-transmission-init
unfolding verdicts_at
loop-transmission-init c =
    let is = c.as_slice-transmission-items.ensures.value in (
      [],
      subst (AreVerdicts []) (sym is) c.self.invariant.told,
      ap (λ (xs : List KeptTransmission). has_number c.args.number (kept_line xs)) is ∙ ap (λ (v : SenderLineValue). has_number c.args.number v.transmissions) c.self.view_is,
      ap (λ (xs : List KeptTransmission). verdicts_behind [] c.args.number (kept_line xs)) is ∙ ap (λ (v : SenderLineValue). verdicts_behind [] c.args.number v.transmissions) c.self.view_is,
    )
