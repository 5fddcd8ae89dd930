use Rattle.std.proofs.Common.{◌≡◌, ◌∙◌, ◌+◌, ℕ, Some, cond, ap, arith, rules, bytes_eq, unwrap_or}
use Rattle.std.proofs.lemmas.Grind.{common_steps}
use Rattle.book_audit.specs.Balances.{units_at}
use Rattle.book_audit.proofs.lemmas.balances.TextKeys.{units_changed}
use Rattle.book_audit.proofs.totals.add_units.Goals as goal

pub returns-clause-added : goal.returns-clause-added
returns-clause-added c = λ q.
    let account = c.args.account.items in
    let had = units_at c.args.units.now account in
    let sum : c.in-Some.sum ≡ unwrap_or had 0 + c.args.more = first_of (search rules, grind (arith, common_steps)) in
    units_changed account c.args.units.now c.insert.new.self (Some c.in-Some.sum) c.in_ok-insert.ensures.updates q
    ∙ ap (λ (n : ℕ). cond (bytes_eq account q) (Some n) (units_at c.args.units.now q)) sum
