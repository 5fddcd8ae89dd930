use Rattle.std.proofs.Common.{not, ap, sym, ◌∙◌}
use Rattle.society_core.proofs.lemmas.Found.{first_in, found_all, found_before, found_not, found_now}
use Rattle.society_core.proofs.plain_book.payer_in.Goals as goal
use Rattle.society_core.proofs.plain_book.payer_in.Goals.{else-is_none-via-then-is_none+else-names, else-is_none-via-else-is_none}

pub loop-pool-init : goal.loop-pool-init
loop-pool-init c = ap (first_in c.args.key.now) (sym (c.into_iter-pool-iterator.ensures.into_iter_gives ∙ c.iter-pool-items.ensures.rest))

pub loop-pool-preserved-then-names : goal.loop-pool-preserved-then-names
loop-pool-preserved-then-names c =
    found_now c.args.key.now _ c.loop-pool.payer c.loop-pool.pool-iterator c.next.new.self c.in-Some.pool.now c.in-Some.order.now c.loop-pool.invariant c.in-Some.ensures.steps
    (c.is_none.ensures ∙ ap not c.if-is_none.true) (sym c.names.ensures ∙ c.if-names.true)

pub loop-pool-preserved : goal.loop-pool-preserved
loop-pool-preserved c =
    elim c.else-is_none.branch [
      | else-is_none-via-then-is_none+else-names w ↦
          found_not c.args.key.now _ c.loop-pool.payer c.loop-pool.pool-iterator c.next.new.self c.in-Some.pool.now c.in-Some.order.now c.loop-pool.invariant c.in-Some.ensures.steps
          (sym w.names.ensures ∙ w.if-names.false)
      | else-is_none-via-else-is_none w ↦
          found_before c.args.key.now _ c.loop-pool.payer c.loop-pool.pool-iterator c.next.new.self c.loop-pool.invariant (c.is_none.ensures ∙ ap not w.if-is_none.false)
    ]

pub returns-clause-pool : goal.returns-clause-pool
returns-clause-pool c = found_all c.args.key.now _ c.loop-pool.payer c.loop-pool.pool-iterator c.loop-pool.invariant c.in-None.ensures.steps.0
