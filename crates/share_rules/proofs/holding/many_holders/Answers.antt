use Rattle.std.proofs.Common.{◌≡◌, ℕ, List, reverse, ap, ◌∙◌, arith}
use Rattle.std.proofs.lemmas.List.{reverse-reverse}
use Rattle.share_rules.specs.Blocks.{holders_from}
use Rattle.share_rules.specs.declared.holder.Holder.{Holder}
use Rattle.share_rules.proofs.holding.many_holders.Goals as goal

pub returns : goal.returns
returns c =
    let from : ℕ → List Holder = holders_from c.args.basis.now c.args.records.now in
    let start : c.loop-end.end ≡ 0 = omega (arith, c.loop-end-test.false) in
    c.reverse.ensures.items
    ∙ ap reverse c.loop-end.invariant.held
    ∙ reverse-reverse (from c.loop-end.end)
    ∙ ap from start

pub loop-end-preserved : goal.loop-end-preserved
loop-end-preserved c = record { within = omega arith; held = c.in_ok-push_block.ensures }
