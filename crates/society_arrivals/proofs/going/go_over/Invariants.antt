use Rattle.std.proofs.Common.{◌≡◌, ◌≤◌, ◌-◌, Ok}
use Rattle.sqlite.specs.Held.{state}
use Rattle.society_arrivals.specs.Going.{RunsPast}
use Rattle.society_book.specs.Steps.{Looks}
use Rattle.society_arrivals.proofs.going.go_over.Given as goal
use Rattle.work_ids.specs.Segments.{greatest_rank}

abbrev pub invariant-segments : goal.invariant-segments
invariant-segments g l = record {
  limit : l.rank ≤ greatest_rank;
  same_reference : l.tx.conn.ghost_name ≡ l.initial.tx.conn.ghost_name;
  looks : Looks {X = Unit {0}} (state g.S.Store l.initial.tx.conn.now) (state g.S.Store l.tx.conn.now) (Ok tt)
      (λ db _. RunsPast l.sender l.ends l.begun l.initial.run l.rank l.run db);
}

abbrev pub decreases-segments : goal.decreases-segments
decreases-segments g l = greatest_rank - l.rank
