-- Representation, not meaning: what a sender's line keeps of each transmission, and of the works.
use Rattle.std.specs.Prelude.{◌≡◌, List, [], ◌∷◌, map}
use Rattle.works_core.specs.Tracks.{Tracks}
use Rattle.works_core.specs.Verdicts.{behind, verdicts_from}
use Rattle.works_core.specs.Numbered.{IsRising, JudgedTransmission}
use Rattle.works_core.specs.Versions.{placed_line}
use Rattle.works_core.specs.declared.judged.Judged.{Judged}
use Rattle.works_core.specs.declared.sender_line.KeptTransmission.{KeptTransmission}
use Rattle.works_core.specs.declared.works.Works.{Works}

-- the line that is kept
abbrev pub kept_line : List KeptTransmission → List JudgedTransmission
kept_line kept = map (λ x. record { number = x.number; judged = x.judged.items }) kept

-- the verdicts that are kept of transmissions are theirs, where some transactions stand before them
abbrev pub AreVerdicts : List Judged → List KeptTransmission → Type 0
AreVerdicts past [] = Unit {0}
AreVerdicts past (x ∷ more) = (x.verdicts.items ≡ verdicts_from past x.judged.items) × AreVerdicts (behind past x.judged.items) more

-- what is kept: numbers rise, and the verdicts and the works are those of what was judged
pub record IsKeptLine (kept : List KeptTransmission) (works : Works) : Type 0 where
  pub rises : IsRising 0 (kept_line kept)
  pub told : AreVerdicts [] kept
  pub tracked : Tracks works (placed_line (kept_line kept))
