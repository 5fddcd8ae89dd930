use Rattle.std.proofs.Common.{◌≡◌, false, drop, map}
use Rattle.share_rules.specs.Fault.{owns_too_much}
use Rattle.share_rules.specs.Parties.{interests, owned}
use Rattle.share_rules.specs.Steps.{is_exceeded}
use Rattle.share_rules.proofs.lemmas.Exceeding.{exceed_beside}
use Rattle.share_rules.proofs.excess.owns_too_much.Given as goal

abbrev pub invariant-loop-record : goal.invariant-loop-record
invariant-loop-record l = record {
  within : is_exceeded l.totals ≡ false;
  left : exceed_beside l.totals (map owned (interests (drop l.record-index l.records))) ≡ owns_too_much l.records;
}
