use Rattle.std.proofs.Common.{◌≡◌, ◌++◌, ◌≤◌, length, drop}
use Rattle.work_ids.specs.Digits.{last_digits}
use Rattle.work_ids.proofs.digits.last_digits.Given as goal

-- the digits in front of a place and those already written are those of the number
abbrev pub invariant-loop-at : goal.invariant-loop-at
invariant-loop-at g l = record {
  len : length l.bytes ≡ g.row.WIDTH;
  within : l.at ≤ g.row.WIDTH;
  so_far : last_digits l.at l.rest ++ drop l.at l.bytes ≡ last_digits g.row.WIDTH l.fn.number;
}

abbrev pub decreases-loop-at : goal.decreases-loop-at
decreases-loop-at g l = l.at
