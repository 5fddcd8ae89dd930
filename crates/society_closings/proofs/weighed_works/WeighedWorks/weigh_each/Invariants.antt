use Rattle.std.proofs.Common.{◌≡◌, Ok}
use Rattle.sqlite.specs.Held.{state}
use Rattle.society_book.specs.Steps.{Looks}
use Rattle.society_core.specs.Points.{is_tallied}
use Rattle.society_closings.specs.Weighing.{AreWeighed}
use Rattle.society_closings.proofs.weighed_works.WeighedWorks.weigh_each.Given as goal

-- what is weighed so far is so, where it was so before
abbrev pub invariant-loop-key : goal.invariant-loop-key
invariant-loop-key g l = record {
  same_reference : l.tx.conn.ghost_name ≡ l.initial.tx.conn.ghost_name;
  recordings : l.self.recordings ≡ l.initial.self.recordings;
  looks : Looks {X = Unit {0}} (state g.S.Store l.initial.tx.conn.now) (state g.S.Store l.tx.conn.now) (Ok tt)
      (λ db _. AreWeighed l.weighing.kind l.weighing.office.now (is_tallied l.weighing.tally.now) db l.initial.self → AreWeighed l.weighing.kind l.weighing.office.now (is_tallied l.weighing.tally.now) db l.self);
}
