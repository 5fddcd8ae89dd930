use Rattle.std.proofs.Common.{◌≡◌, ◌≤◌, false, length}
use Rattle.share_rules.specs.Blocks.{collected_behind}
use Rattle.share_rules.specs.Steps.{is_exceeded}
use Rattle.share_rules.proofs.excess.collects_too_much.Given as goal

abbrev pub invariant-loop-end : goal.invariant-loop-end
invariant-loop-end l = record {
  within : l.end ≤ length l.records;
  room : is_exceeded l.totals ≡ false;
  sums : l.totals ≡ collected_behind l.office l.records l.end;
}

abbrev pub decreases-loop-end : goal.decreases-loop-end
decreases-loop-end l = l.end
