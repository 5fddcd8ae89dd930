use Rattle.std.proofs.Common.{◌≤◌, ◌*◌, take, length, flat_map}
use Rattle.society_core.specs.Candidates.{rows_of_return}
use Rattle.society_core.specs.Points.{Tallies}
use Rattle.society_core.proofs.plain_pools.tally_of.Given as goal

abbrev pub invariant-loop-key : goal.invariant-loop-key
invariant-loop-key l = record {
  counted : Tallies l.tally (flat_map (rows_of_return l.book) (take l.key-index l.key-items));
  few : length (flat_map (rows_of_return l.book) (take l.key-index l.key-items)) ≤ l.key-index * 10000;
}
