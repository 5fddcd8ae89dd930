use Rattle.std.proofs.Common.{◌≡◌, ◌+◌, ◌<◌, drop}
use Rattle.std.specs.List.{sum}
use Rattle.share_rules.specs.Blocks.{descend, halves}
use Rattle.share_rules.proofs.party_keys.PartyKeys.descend.Given as goal

abbrev pub invariant-loop-step : goal.invariant-loop-step
invariant-loop-step l = record {
  room : l.place + sum (drop l.step-index halves) < 2048;
  left : descend l.self.keys l.key (drop l.step-index halves) l.place ≡ descend l.self.keys l.key halves 0;
}
