use Rattle.std.proofs.Common.{◌-◌, arith, refl, sym, ◌∙◌, true≢false}
use Rattle.pool_split.proofs.lemmas.Neighbours.{ascend_by_neighbours, below_from_ascend}
use Rattle.pool_split.proofs.payable.are_ascending.Goals as goal

pub returns-then-not-is_below : goal.returns-then-not-is_below
returns-then-not-is_below c =
    let place = c.loop-place.place in (
      λ claimed. absurd (true≢false (sym claimed)),
      λ ascend. sym c.if-not-is_below.true ∙ c.is_below.ensures.1 (below_from_ascend c.args.claims.now (place - 1) place c.index-claims-place.result c.index-claims-place-in-loop-place.result ascend (omega arith) c.loop-place-test.true c.index-claims-place.is c.index-claims-place-in-loop-place.is),
    )

pub returns : goal.returns
returns c = (λ _. ascend_by_neighbours c.args.claims.now (c.loop-place.place - 1) (omega arith) c.loop-place.invariant, λ _. refl)
