use Rattle.std.proofs.Common.{◌≡◌, List, drop}
use Rattle.works_core.specs.Kept.{AreVerdicts, kept_line}
use Rattle.works_core.specs.Line.{verdicts_at, verdicts_behind}
use Rattle.works_core.specs.Numbered.{has_number}
use Rattle.works_core.specs.declared.judged.Judged.{Judged}
use Rattle.works_core.proofs.sender_line.SenderLine.verdicts.Given as goal

-- of the number, what is left of the line says what the whole line does
abbrev pub invariant-loop-transmission : goal.invariant-loop-transmission
invariant-loop-transmission l =
    let rest = drop l.transmission-index l.transmission-items in
    (past : List Judged) × AreVerdicts past rest × (has_number l.number (kept_line rest) ≡ has_number l.number l.self.transmissions) × (verdicts_behind past l.number (kept_line rest) ≡ verdicts_at l.self.transmissions l.number)
