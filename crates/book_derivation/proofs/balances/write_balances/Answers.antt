use Rattle.std.proofs.Common.{◌∙◌, Ok, refl, rules}
use Rattle.sqlite.specs.Held.{state}
use Rattle.sqlite_trees.specs.Tree.{Trees}
use Rattle.society_book.specs.Steps.{Never}
use Rattle.book_derivation.specs.Money.{AddsBalance, WritesBalances}
use Rattle.book_derivation.proofs.lemmas.Derivings.{derives_as, derives_not, derives_nothing, derives_then}
use Rattle.book_derivation.proofs.lemmas.money.BalanceSteps.{WritesUpTo, all_added, none_added, one_added}
use Rattle.book_derivation.proofs.balances.write_balances.Goals as goal

pub loop-account-init : goal.loop-account-init
loop-account-init g c =
    let old = state g.S.Store c.args.tx.now.conn.now in
    let entries = c.args.totals.now.units.entries in
    let left = c.into_iter-account-iterator.result in
    record {
      same_reference = refl;
      derives = derives_nothing Never old tt (λ before after (done : Unit {0}). WritesUpTo entries left before after) (none_added entries left old.now.trees c.into_iter-account-iterator.ensures.into_iter_gives.0);
    }

pub returns-in_err-write_balance : goal.returns-in_err-write_balance
returns-in_err-write_balance g c = record {
  derives = record {
    same_reference = search rules;
    says =
        let old = state g.S.Store c.args.tx.now.conn.now in
        let mid = state g.S.Store c.loop-account.tx.conn.now in
        let new = state g.S.Store c.write_balance.new.tx.conn.now in
        let totals = c.args.totals.now in
        let left = c.loop-account.account-iterator in
        let r = c.from_residual.result in
        let Nothing : Trees → Trees → Unit {0} → Type 0 = λ before after done. ⊥ in
        derives_then Never Never Never old mid new tt r (λ before after (done : Unit {0}). WritesUpTo totals.units.entries left before after) Nothing (λ before after done. WritesBalances totals before after) c.loop-account.invariant.derives
        (derives_not {X = Unit {0}} Never Never mid new c.in_err-write_balance.field-0.0 r (λ before after done. AddsBalance c.as_slice.result.now c.in-Some.units.now before after) Nothing c.in_err-write_balance.ensures.derives.says c.from_residual.ensures.1 (λ never. never))
        (λ y own later before never. absurd never) (λ own before never. never);
  };
}

pub loop-account-preserved : goal.loop-account-preserved
loop-account-preserved g c =
    let old = state g.S.Store c.args.tx.now.conn.now in
    let mid = state g.S.Store c.loop-account.tx.conn.now in
    let new = state g.S.Store c.write_balance.new.tx.conn.now in
    let entries = c.args.totals.now.units.entries in
    let left = c.loop-account.account-iterator in
    let more = c.next.new.self in
    let account = c.in-Some.account.now in
    let units = c.in-Some.units.now in
    record {
      same_reference = c.write_balance.ensures.derives.same_reference ∙ c.loop-account.invariant.same_reference;
      derives =
          derives_then Never Never Never old mid new tt (Ok tt) (λ before after (done : Unit {0}). WritesUpTo entries left before after) (λ before after (done : Unit {0}). AddsBalance account.items units before after) (λ before after done. WritesUpTo entries more before after)
          c.loop-account.invariant.derives (rw c.as_slice.ensures.value at c.in_ok-write_balance.ensures.derives.says)
          (λ y own later before adds. one_added entries left more account units old.now.trees mid.now.trees new.now.trees c.in-Some.ensures.steps before adds)
          (λ own before never. never);
    }

pub returns : goal.returns
returns g c = record {
  derives = record {
    same_reference = search rules;
    says =
        let old = state g.S.Store c.args.tx.now.conn.now in
        let new = state g.S.Store c.loop-account.tx.conn.now in
        let totals = c.args.totals.now in
        let left = c.loop-account.account-iterator in
        derives_as Never Never old new tt (Ok tt) (λ before after (done : Unit {0}). WritesUpTo totals.units.entries left before after) (λ before after (done : Unit {0}). WritesBalances totals before after) c.loop-account.invariant.derives
        (λ before. all_added totals left old.now.trees new.now.trees c.in-None.ensures.steps.0 c.into_iter-account-iterator.ensures.into_iter_gives.5 before) (λ before. tt);
  };
}
