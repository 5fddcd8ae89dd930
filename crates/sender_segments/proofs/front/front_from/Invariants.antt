use Rattle.std.proofs.Common.{◌≡◌, ◌≤◌, true, ◌-◌}
use Rattle.sender_segments.specs.Ways.{is_reached}
use Rattle.sender_segments.proofs.front.front_from.Given as goal
use Rattle.work_ids.specs.Segments.{greatest_rank}

-- what was come to is reached
abbrev pub invariant-loop-front : goal.invariant-loop-front
invariant-loop-front g l = record {
  reached : is_reached (g.N.Numbers.there l.numbers) (g.N.Numbers.ends l.numbers) l.front ≡ true;
  limit : l.front ≤ greatest_rank;
}

abbrev pub decreases-loop-front : goal.decreases-loop-front
decreases-loop-front g l = greatest_rank - l.front
