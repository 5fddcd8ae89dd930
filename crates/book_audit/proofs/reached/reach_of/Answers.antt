use Rattle.std.proofs.Common.{◌≡◌, Ok, refl, subst, sym, rules}
use Rattle.sqlite.specs.Held.{state}
use Rattle.society_core.specs.Book.{front}
use Rattle.society_book.proofs.lemmas.together.JudgedLemmas.{examines_as, examines_not, examines_then}
use Rattle.book_audit.specs.Standing.{HoldsNoLines, IsReach, OfLines}
use Rattle.book_audit.specs.declared.reached.Reach.{Reach}
use Rattle.book_audit.proofs.reached.reach_of.Goals as goal

pub returns-in_err-front : goal.returns-in_err-front
returns-in_err-front g c = record {
  examined = record {
    same_reference = search rules;
    says =
        let old = state g.S.Store c.args.tx.now.conn.now in
        let mid = state g.S.Store c.ends_of.new.tx.conn.now in
        let new = state g.S.Store c.front_in.new.tx.conn.now in
        let s = c.args.sender.now in
        examines_then HoldsNoLines HoldsNoLines HoldsNoLines old mid new c.in_ok-ends.ends c.from_residual-in_err-front.result _ (IsReach s) (IsReach s) c.in_ok-ends.ensures.examined.says
        (examines_not HoldsNoLines HoldsNoLines mid new c.in_err-front.field-0.0 c.from_residual-in_err-front.result _ (IsReach s) c.in_err-front.ensures.examined.says c.from_residual-in_err-front.ensures.1 (λ wrong. wrong))
        (λ reach reads found. found) (λ reads wrong. wrong);
  };
}

pub returns : goal.returns
returns g c = record {
  examined = record {
    same_reference = search rules;
    says =
        let old = state g.S.Store c.args.tx.now.conn.now in
        let mid = state g.S.Store c.ends_of.new.tx.conn.now in
        let new = state g.S.Store c.front_in.new.tx.conn.now in
        let s = c.args.sender.now in
        let reach : Reach = record { front = c.in_ok-front.front; ends = c.in_ok-ends.ends } in
        examines_then HoldsNoLines HoldsNoLines HoldsNoLines old mid new c.in_ok-ends.ends (Ok reach) _ (λ db it. (it ≡ reach) × OfLines (λ book. reach.front ≡ front book s) db) (IsReach s) c.in_ok-ends.ensures.examined.says
        (examines_as HoldsNoLines HoldsNoLines mid new c.in_ok-front.front (Ok reach) _ _ c.in_ok-front.ensures.examined.says (λ found. (refl, found)) (λ found. tt))
        (λ it reads found. subst (IsReach s old.now.trees) (sym found.0) (reads, found.1)) (λ reads wrong. wrong);
  };
}
