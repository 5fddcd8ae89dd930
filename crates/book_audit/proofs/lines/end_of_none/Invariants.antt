use Rattle.std.proofs.Common.{[], take}
use Rattle.society_arrivals.specs.Runs.{is_key_among}
use Rattle.book_audit.proofs.lines.end_of_none.Given as goal
use Rattle.works_core.specs.Ends.{EndsAt}

abbrev pub invariant-loop-work : goal.invariant-loop-work
invariant-loop-work l = EndsAt (is_key_among (take l.work-index l.works)) [] l.end
