use Rattle.std.proofs.Common.{◌≡◌, Ok, length, take}
use Rattle.sqlite.specs.Held.{state}
use Rattle.pool_split.specs.Credits.{credits_together}
use Rattle.society_book.specs.Steps.{Never}
use Rattle.book_derivation.specs.Deriving.{Derives}
use Rattle.book_derivation.specs.Money.{AddsCredits}
use Rattle.book_derivation.proofs.credits.write_lines.Given as goal

-- the lines of the portions so far are added
abbrev pub invariant-loop-portion : goal.invariant-loop-portion
invariant-loop-portion g l =
    let done = credits_together (take l.portion-index l.portions) in
    record {
      same_reference : l.tx.conn.ghost_name ≡ l.fn.tx.conn.ghost_name;
      line : l.line ≡ length done;
      derives : Derives {X = Unit {0}} Never (state g.S.Store l.fn.tx.conn.now) (state g.S.Store l.tx.conn.now) (Ok tt) (λ before after _. AddsCredits l.pool done before after);
    }
