use Rattle.std.proofs.Common.{◌∙◌, List, ap, sym, arith}
use Rattle.std.specs.Option.{option_copied}
use Rattle.works_core.specs.Kept.{kept_line}
use Rattle.works_core.specs.LineValue.{SenderLineValue}
use Rattle.works_core.specs.Numbered.{last_number}
use Rattle.works_core.specs.declared.sender_line.KeptTransmission.{KeptTransmission}
use Rattle.works_core.proofs.lemmas.KeptLemmas.{last_of}
use Rattle.works_core.proofs.sender_line.SenderLine.front.Goals as goal

pub returns-in-Some : goal.returns-in-Some
returns-in-Some c =
    let x = c.in-Some.last.now in
    let is = c.deref.ensures.value in
    record {
      front =
          c.value.ensures.value
          ∙ last_of 0 c.deref.result.now x (sym c.last.ensures.value ∙ ap option_copied c.in-Some.is)
          ∙ ap (λ (xs : List KeptTransmission). last_number 0 (kept_line xs)) is
          ∙ ap (λ (v : SenderLineValue). last_number 0 v.transmissions) c.self.view_is;
      limit = omega (arith, c.value.ensures.value, c.value.ensures.limits);
    }
