use Rattle.std.proofs.Common.{◌≡◌, ◌∙◌, ◌+◌, ◌++◌, ◌<◌, List, drop, map, length, ap, sym, subst, arith, append_assoc}
use Rattle.std.proofs.lemmas.List.{append-nil, drop_all}
use Rattle.society_arrivals.specs.Outcomes.{settled}
use Rattle.society_arrivals.specs.Runs.{KnowsRun, Notes, Settled, behind_run, settled_from, settled_run}
use Rattle.society_arrivals.proofs.lemmas.OutcomeLemmas.{next_of}
use Rattle.society_arrivals.proofs.outcomes.settle_run.Goals as goal
use Rattle.works_core.specs.Ends.{EndsAt}
use Rattle.works_core.specs.Verdicts.{verdicts_from}
use Rattle.works_core.specs.Versions.{Placed, judged_of, placed_behind}

pub loop-noted-preserved : goal.loop-noted-preserved
loop-noted-preserved c = λ known past at there.
    let i = c.loop-noted.noted-index in
    let all = c.args.run.now in
    let x = c.noted-item.result in
    let here : i < length all = omega (arith, c.loop-noted-test.true) in
    let next = next_of all i x here c.noted-item.is in
    let so_far = c.loop-noted.invariant known past at there in
    let now = so_far.0 in
    let knows = subst (KnowsRun known) next so_far.2 in
    let rest = drop (i + 1) all in
    let old = map settled c.loop-noted.list.items in
    let behind = placed_behind now x.number 0 x.judged in
    let its = settled_from x.number 0 x.judged x.isrcs (verdicts_from (judged_of now) x.judged) in (
      behind,
      c.in_ok-settle_next.ensures.ends known now so_far.1 knows.0,
      knows.1,
      ap (λ (l : List Settled). l ++ settled_run behind rest) (c.in_ok-settle_next.ensures.settled known now so_far.1 knows.0)
          ∙ append_assoc old its (settled_run behind rest)
          ∙ ap (λ (xs : List Notes). old ++ settled_run now xs) (sym next)
          ∙ so_far.3,
      ap (behind_run now) (sym next) ∙ so_far.4,
    )

pub returns-clause-settled : goal.returns-clause-settled
returns-clause-settled c = λ known past at there.
    let all = c.args.run.now in
    let so_far = c.loop-noted.invariant known past at there in
    let none = drop_all c.loop-noted.noted-index all (omega (arith, c.loop-noted-test.false)) in
    sym (append-nil (map settled c.loop-noted.list.items))
    ∙ ap (λ (xs : List Notes). map settled c.loop-noted.list.items ++ settled_run so_far.0 xs) (sym none)
    ∙ so_far.3

pub returns-clause-ends : goal.returns-clause-ends
returns-clause-ends c = λ known past at there.
    let all = c.args.run.now in
    let so_far = c.loop-noted.invariant known past at there in
    let none = drop_all c.loop-noted.noted-index all (omega (arith, c.loop-noted-test.false)) in
    let same : so_far.0 ≡ behind_run past all = ap (behind_run so_far.0) (sym none) ∙ so_far.4 in
    subst (λ (p : List Placed). EndsAt known p c.loop-noted.end) same so_far.1
