use Rattle.std.proofs.Common.{◌≡◌, Ok, map, option_map, take}
use Rattle.sqlite.specs.Held.{state}
use Rattle.society_book.specs.Steps.{Looks}
use Rattle.order_credits.specs.Looked.{OfReached, StandForWanted}
use Rattle.order_credits.specs.Shares.{recording_share, shares_wanted}
use Rattle.order_credits.proofs.sharing.shares_paid.Given as goal

-- the shares of those so far that are wanted
abbrev pub invariant-loop-recording : goal.invariant-loop-recording
invariant-loop-recording g l = record {
  same_reference : l.tx.conn.ghost_name ≡ l.fn.tx.conn.ghost_name;
  looks : Looks {X = Unit {0}} (state g.S.Store l.fn.tx.conn.now) (state g.S.Store l.tx.conn.now) (Ok tt)
      (λ db _. OfReached l.fn.order (λ o b. StandForWanted o b l.fn.order (option_map (λ set. set.now) l.fn.wanted) l.fn.candidates l.fn.paid
      → l.shares.items ≡ shares_wanted (option_map (λ set. set.now) l.fn.wanted) (map (recording_share o b l.fn.order l.fn.total) (take l.recording-index l.fn.paid))) db);
}
