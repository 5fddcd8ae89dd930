use Rattle.book_audit.specs.Examining.{IsNot}
use Rattle.society_book.proofs.lemmas.together.JudgedLemmas.{examines_not, examines_then}
use Rattle.sqlite.specs.Held.{state}
use Rattle.sqlite_trees.specs.Tree.{Trees}
use Rattle.pool_split.specs.declared.claim.Credit.{Credit}
use Rattle.std.proofs.Common.{List, rules}
use Rattle.book_audit.specs.Balances.{AreTotalsOf, HasBalances}
use Rattle.book_audit.specs.Credits.{AreCreditsOfPools}
use Rattle.book_audit.specs.Paying.{DeniesPools, FindsPools, LackPools, credits_by}
use Rattle.book_audit.proofs.lemmas.OwnPools.{all_reached, balances_own, credits_own, works_held}
use Rattle.book_audit.proofs.paying.pools_agree.Goals as goal

pub returns-in_err-has_no_stranger : goal.returns-in_err-has_no_stranger
returns-in_err-has_no_stranger g c = record {
  examined = record {
    same_reference = search rules;
    says =
        let old = state g.S.Store c.args.tx.now.conn.now in
        let mid = state g.S.Store c.totals_of.new.tx.conn.now in
        let new = state g.S.Store c.has_no_stranger.new.tx.conn.now in
        let db = old.now.trees in
        let o = c.args.office.now in
        let closed = c.args.closed.now in
        let numbers = c.in_ok-numbers.numbers in
        let r = c.from_residual-in_err-has_no_stranger.result in
        examines_then (LackPools o closed) (IsNot (AreCreditsOfPools numbers)) (DeniesPools o closed) old mid new c.in_ok-totals.totals r _ (λ db (done : Unit {0}). FindsPools o closed db) _ c.in_ok-totals.ensures.examined.says
        (examines_not (IsNot (AreCreditsOfPools numbers)) (IsNot (AreCreditsOfPools numbers)) mid new c.in_err-has_no_stranger.field-0.0 r _ _ c.in_err-has_no_stranger.ensures.examined.says c.from_residual-in_err-has_no_stranger.ensures.1 (λ wrong. wrong))
        (λ done paid found. found)
        (λ paid wrong book holds there whole apart. wrong (credits_own o book db holds closed whole numbers c.in_ok-numbers.ensures));
  };
}

pub returns : goal.returns
returns g c = record {
  examined = record {
    same_reference = search rules;
    says =
        let old = state g.S.Store c.args.tx.now.conn.now in
        let one = state g.S.Store c.totals_of.new.tx.conn.now in
        let two = state g.S.Store c.has_no_stranger.new.tx.conn.now in
        let new = state g.S.Store c.balances_agree.new.tx.conn.now in
        let db = old.now.trees in
        let o = c.args.office.now in
        let closed = c.args.closed.now in
        let numbers = c.in_ok-numbers.numbers in
        let totals = c.in_ok-totals.totals in
        let Apart : Trees → Type 0 = λ db. (credits : List Credit) → AreTotalsOf totals credits → HasBalances credits db → ⊥ in
        let Agree : Trees → Type 0 = λ db. (credits : List Credit) → AreTotalsOf totals credits → HasBalances credits db in
        examines_then (LackPools o closed) Apart (DeniesPools o closed) old one new totals c.balances_agree.result _ (λ db (done : Unit {0}). AreCreditsOfPools numbers db × Agree db) _ c.in_ok-totals.ensures.examined.says
        (examines_then (IsNot (AreCreditsOfPools numbers)) Apart Apart one two new tt c.balances_agree.result _ (λ db (done : Unit {0}). Agree db) _ c.in_ok-has_no_stranger.ensures.examined.says c.balances_agree.ensures.examined.says
        (λ done owners agree. (owners, agree)) (λ owners wrong. wrong))
        (λ done paid found. record {
          numbers = numbers;
          these = c.in_ok-numbers.ensures;
          owners = found.0;
          paid = λ book works reached. let its = paid book works reached in (its.0, found.1 (credits_by o book closed) its.1);
        })
        (λ paid wrong book holds there whole apart. wrong (credits_by o book closed) (paid book (works_held o book db holds closed whole) (all_reached o book db holds closed whole closed there)).1 (balances_own o book db holds closed whole apart));
  };
}
