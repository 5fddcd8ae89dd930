use Rattle.std.proofs.Common.{◌≤◌, length, arith}
use Rattle.society_rows.proofs.lemmas.definitions.OneChecks.{asks_one, one_asked}
use Rattle.society_rows.proofs.shapes.says_one.Goals as goal

pub returns-then-is_first : goal.returns-then-is_first
returns-then-is_first c =
    let ops = c.args.ops.now in
    let deep : 2 ≤ length ops = omega (arith, c.if-ops-lt2.false) in (
      λ t. asks_one ops c.args.root _ _ deep c.in-Some.ensures (c.is_first.ensures.0 c.if-is_first.true) (c.is_number.ensures.0 t),
      λ e. c.is_number.ensures.1 (one_asked ops c.args.root _ _ c.in-Some.ensures e).1,
    )

pub returns-else-is_first : goal.returns-else-is_first
returns-else-is_first c =
    (λ t. absurd (let no = c.if-is_first.false in cc), λ e. c.is_first.ensures.1 (one_asked c.args.ops.now c.args.root _ _ c.in-Some.ensures e).0)
