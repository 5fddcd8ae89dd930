use Rattle.std.proofs.Common.{◌≡◌, ◌<◌, ◌≤◌, ◌-◌, true, false}
use Rattle.work_ids.specs.Segments.{base_of, greatest_rank, segment_of}
use Rattle.sender_segments.specs.Ways.{leads_to}
use Rattle.sender_segments.proofs.led.leads.Given as goal

-- the way has come to the first rank of a segment; where that is behind the wanted one, nothing leads to the rank
abbrev pub invariant-loop-at : goal.invariant-loop-at
invariant-loop-at g l = record {
  led : leads_to (g.N.Numbers.ends l.numbers) l.at ≡ true;
  base : l.at ≡ base_of (segment_of l.at);
  limit : l.at ≤ greatest_rank;
  past : l.wanted < l.at → leads_to (g.N.Numbers.ends l.numbers) l.rank ≡ false;
}

abbrev pub decreases-loop-at : goal.decreases-loop-at
decreases-loop-at g l = greatest_rank - l.at
