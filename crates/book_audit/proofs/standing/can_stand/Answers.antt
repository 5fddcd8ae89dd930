use Rattle.std.proofs.Common.{◌≡◌, ◌∙◌, ◌&&◌, Bool, Ok, ap₂, rules}
use Rattle.sqlite.specs.Held.{state}
use Rattle.society_book.proofs.lemmas.together.JudgedLemmas.{examines_as, examines_then}
use Rattle.society_book.specs.Steps.{Never}
use Rattle.book_audit.specs.Standing.{HoldsNoLines, TellsPaid, TellsReturns}
use Rattle.book_audit.proofs.standing.can_stand.Goals as goal

pub returns-clause-examined : goal.returns-clause-examined
returns-clause-examined g c = record {
  same_reference = search rules;
  says =
      let old = state g.S.Store c.args.tx.now.conn.now in
      let one = state g.S.Store c.are_in_line.new.tx.conn.now in
      let two = state g.S.Store c.are_there.new.tx.conn.now in
      let new = state g.S.Store c.are_paid_once.new.tx.conn.now in
      let keys = c.args.order.now.returns in
      let reached = c.in_ok-are_reached.are_reached in
      let there = c.in_ok-are_there.are_there in
      let once = c.in_ok-are_paid_once.are_paid_once in
      examines_then HoldsNoLines Never HoldsNoLines old one new reached (Ok c.are_all.result) _
      (λ db (told : Bool). (told ≡ (reached && (there && once))) × TellsReturns keys db there × TellsPaid keys db once) _ (rw c.cut.ensures.value at c.in_ok-are_reached.ensures.examined.says)
      (examines_then Never Never Never one two new there (Ok c.are_all.result) (TellsReturns keys) (λ db (told : Bool). (told ≡ (reached && (there && once))) × TellsPaid keys db once) _ (rw c.returns.ensures.value at c.in_ok-are_there.ensures.examined.says)
      (examines_as Never Never two new once (Ok c.are_all.result) (TellsPaid keys) _ (rw c.returns-2.ensures.value at c.in_ok-are_paid_once.ensures.examined.says) (λ paid. (c.are_all.ensures, paid)) (λ paid. tt))
      (λ told returns it. (it.0, returns, it.1)) (λ returns never. never))
      (λ told cut it knows.
      let now = cut knows in
      (now.0, λ o b holds. it.0 ∙ ap₂ (λ (s t : Bool). s && t) (now.1 o b holds) (ap₂ (λ (s t : Bool). s && t) (it.1 o b holds) it.2)))
      (λ cut never. absurd never);
}
