use Rattle.std.proofs.Common.{◌≡◌, Ok, length, take}
use Rattle.sqlite.specs.Held.{state}
use Rattle.society_rows.specs.Layout.{credits_table}
use Rattle.society_rows.specs.Stored.{Adds}
use Rattle.pool_split.specs.Credits.{credits_together}
use Rattle.society_closings.specs.Closings.{ComeToTheSame, lines_from}
use Rattle.society_book.specs.Steps.{Does}
use Rattle.society_closings.proofs.credit_lines.add_lines.Given as goal

-- the lines of the portions so far are added, and the totals are theirs
abbrev pub invariant-loop-portion : goal.invariant-loop-portion
invariant-loop-portion g l =
    let done = credits_together (take l.portion-index l.portions) in
    record {
      same_reference : l.tx.conn.ghost_name ≡ l.initial.tx.conn.ghost_name;
      line : l.line ≡ length done;
      totals : ComeToTheSame l.totals.list.items done;
      does : Does {X = Unit {0}} (state g.S.Store l.initial.tx.conn.now) (state g.S.Store l.tx.conn.now) (Ok tt) (λ before after _. Adds credits_table (lines_from l.pool 0 done) before after);
    }
