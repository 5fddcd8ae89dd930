use Rattle.std.proofs.Common.{◌≡◌, List, Ok, length, true, ℕ}
use Rattle.http_desk.specs.Counted.{failures_of}
use Rattle.sqlite.specs.Held.{state}
use Rattle.society_book.specs.Steps.{Looks}
use Rattle.credit_listing.specs.Answered.{TellsLines}
use Rattle.credit_listing.specs.Lines.{AreTaken}
use Rattle.credit_listing.proofs.listing.list_credits.Given as goal

-- so many lines were read, answered and told so far, by the tables as they were, and nothing is said where all of them were answered by rows
abbrev pub invariant-loop-done : goal.invariant-loop-done
invariant-loop-done g l = record {
  same_reference : l.tx.conn.ghost_name ≡ l.fn.tx.conn.ghost_name;
  looks : Looks {X = Unit {0}} (state g.S.Store l.fn.tx.conn.now) (state g.S.Store l.tx.conn.now) (Ok tt) (λ db _.
      (lines : List (List ℕ)) × (length lines ≡ l.done) × TellsLines l.fn.office db g.W.Write.contents g.E.Write.contents 1 lines l.all l.initial.out l.out l.fn.err l.err
      × AreTaken g.R.Read.remaining l.fn.reader l.reader l.input lines);
  quiet : l.all ≡ true → l.err ≡ l.fn.err;
  reads : failures_of l.reader ≡ failures_of l.fn.reader;
  writes : failures_of l.out ≡ failures_of l.fn.out;
}
