use Rattle.std.proofs.Common.{take, flat_map}
use Rattle.society_core.specs.Points.{is_tallied}
use Rattle.society_core.specs.Candidates.{StandFor}
use Rattle.society_core.specs.Owners.{versions_at_cut}
use Rattle.society_core.proofs.candidates.candidates_of.Given as goal
use Rattle.society_core.specs.Pools.{holders_of}

abbrev pub invariant-loop-key : goal.invariant-loop-key
invariant-loop-key l = StandFor (holders_of l.fn.kind l.office) (is_tallied l.tally) (flat_map (versions_at_cut l.office l.book) (take l.key-index l.key-items)) l.candidates.items
