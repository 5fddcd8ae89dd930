use Rattle.std.proofs.Common.{◌≡◌, None, Ok, take}
use Rattle.sqlite.specs.Held.{state}
use Rattle.society_book.specs.Steps.{Looks}
use Rattle.society_core.specs.Answers.{cut_refusal, first_refusal}
use Rattle.book_audit.specs.Standing.{OfLines}
use Rattle.order_credits.proofs.refusing.cut_refusal.Given as goal

-- no number so far is refused
abbrev pub invariant-loop-key : goal.invariant-loop-key
invariant-loop-key g l = record {
  same_reference : l.tx.conn.ghost_name ≡ l.fn.tx.conn.ghost_name;
  looks : Looks {X = Unit {0}} (state g.S.Store l.fn.tx.conn.now) (state g.S.Store l.tx.conn.now) (Ok tt) (λ db _. OfLines (λ book. first_refusal (cut_refusal book) (take l.key-index l.cut) ≡ None) db);
}
