use Rattle.std.proofs.Common.{◌≡◌, ◌+◌, ◌==◌, count_by, map, min, nat_lt, sum, take}
use Rattle.std.specs.List.{range_with_len}
use Rattle.pool_split.specs.Threshold.{threshold_part, ties_at}
use Rattle.pool_split.proofs.splitting.with_units.Given as goal

abbrev pub invariant-loop-place : goal.invariant-loop-place
invariant-loop-place l = record {
  ties : l.ties ≡ ties_at l.remainders l.threshold l.place;
  parts : l.parts.items ≡ map (threshold_part l.quotients l.remainders l.threshold) (range_with_len 0 l.place);
  sum : sum l.parts.items ≡ sum (take l.place l.quotients) + (count_by (nat_lt l.threshold.remainder) (take l.place l.remainders) + min l.threshold.ties (count_by (λ other. l.threshold.remainder == other) (take l.place l.remainders)));
}
