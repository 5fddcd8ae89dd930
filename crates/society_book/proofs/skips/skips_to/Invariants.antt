use Rattle.std.proofs.Common.{◌≤◌, ◌-◌}
use Rattle.sender_segments.specs.Ways.{AreRight}
use Rattle.society_book.specs.EndLists.{end_listed}
use Rattle.society_book.proofs.lemmas.shown.Skips.{AreSkippedTo}
use Rattle.society_book.proofs.skips.skips_to.Given as goal
use Rattle.work_ids.specs.Segments.{greatest_rank}

-- all that is skipped before the segment that it has come to is in the list
abbrev pub invariant-segments : goal.invariant-segments
invariant-segments l = record {
  limit : l.first ≤ greatest_rank;
  so_far : (right : AreRight (end_listed l.ends)) → AreSkippedTo (end_listed l.ends) right l.front l.first l.skips.items;
}

abbrev pub decreases-segments : goal.decreases-segments
decreases-segments l = greatest_rank - l.first
