use Rattle.std.proofs.Common.{◌≡◌, false, drop, map}
use Rattle.share_rules.specs.Fault.{collects_too_much}
use Rattle.share_rules.specs.Parties.{interests, collected}
use Rattle.share_rules.specs.Steps.{is_exceeded}
use Rattle.share_rules.proofs.lemmas.Exceeding.{exceed_beside}
use Rattle.share_rules.proofs.excess.few_collect_too_much.Given as goal

abbrev pub invariant-loop-index : goal.invariant-loop-index
invariant-loop-index l = record {
  within : is_exceeded l.totals ≡ false;
  left : exceed_beside l.totals (map (collected l.office) (interests (drop l.index l.records))) ≡ collects_too_much l.office l.records;
}
