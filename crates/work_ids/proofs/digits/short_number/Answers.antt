use Rattle.std.proofs.Common.{◌≤◌, ◌^◌, length, arith}
use Rattle.std.proofs.Math.Nat.{pow-le-pow_right}
use Rattle.work_ids.proofs.lemmas.LastDigits.{value_below}
use Rattle.work_ids.proofs.digits.short_number.Goals as goal

pub returns-clause-value : goal.returns-clause-value
returns-clause-value c =
    let few : 10 ^ length c.args.digits.now ≤ 10 ^ 4 = pow-le-pow_right {n = 10} (omega arith) c.requires.length in
    omega (arith, c.number_up_to.ensures, value_below c.args.digits.now c.requires.digits, few)

pub returns-clause-limit : goal.returns-clause-limit
returns-clause-limit c =
    let few : 10 ^ length c.args.digits.now ≤ 10 ^ 4 = pow-le-pow_right {n = 10} (omega arith) c.requires.length in
    omega (arith, c.number_up_to.ensures, value_below c.args.digits.now c.requires.digits, few)
