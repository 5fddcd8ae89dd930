use Rattle.std.proofs.Common.{◌∙◌, ◌++◌, ◌<◌, drop, map, length, ap, sym, arith, List}
use Rattle.std.proofs.lemmas.List.{append-nil, drop_all, get_or_default}
use Rattle.society_arrivals.specs.Outcomes.{settled}
use Rattle.society_arrivals.specs.Runs.{Settled}
use Rattle.society_arrivals.proofs.lemmas.OutcomeLemmas.{settled_at, settled_end}
use Rattle.society_arrivals.proofs.outcomes.append_outcomes.Goals as goal

pub loop-at-preserved : goal.loop-at-preserved
loop-at-preserved c =
    let here : c.loop-at.at < length c.args.verdicts.now = omega (arith, c.loop-at-test.true) in
    settled_at c.loop-at.at c.args.noted.now c.args.verdicts.now _ (map settled c.args.list.now.items) _ _ here (get_or_default c.args.verdicts.now c.loop-at.at _ _ here) c.in_ok-append_outcome.ensures c.loop-at.invariant

pub returns : goal.returns
returns c =
    let notes = c.args.noted.now in
    let all = c.args.verdicts.now in
    let none = drop_all c.loop-at.at all (omega (arith, c.loop-at-test.false)) in
    sym (append-nil (map settled c.loop-at.list.items))
    ∙ ap (λ (l : List Settled). map settled c.loop-at.list.items ++ l) (sym (settled_end notes.number c.loop-at.at (drop c.loop-at.at notes.judged) (drop c.loop-at.at notes.isrcs) (drop c.loop-at.at all) none))
    ∙ c.loop-at.invariant
