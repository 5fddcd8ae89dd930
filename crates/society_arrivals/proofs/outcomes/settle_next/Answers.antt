use Rattle.std.proofs.Common.{◌≡◌, ◌∙◌, ◌++◌, ℕ, List, OnOk, map, ap, sym, subst}
use Rattle.society_arrivals.specs.Outcomes.{settled}
use Rattle.society_arrivals.specs.Runs.{settled_from}
use Rattle.society_arrivals.proofs.lemmas.OutcomeLemmas.{on_any}
use Rattle.society_arrivals.proofs.outcomes.settle_next.Goals as goal
use Rattle.works_core.specs.Ends.{EndsAt, KnowsWorks}
use Rattle.works_core.specs.Verdicts.{verdicts_from}
use Rattle.works_core.specs.Versions.{judged_of, placed_behind}
use Rattle.works_core.specs.declared.judged.Judged.{Judged}
use Rattle.works_core.specs.declared.verdict.Verdict.{Verdict}

pub returns-clause-settled : goal.returns-clause-settled
returns-clause-settled c = λ known past at knows.
    let notes = c.args.noted.now in
    let verdicts : c.as_slice.result.now ≡ verdicts_from (judged_of past) notes.judged =
    c.as_slice.ensures.value ∙ c.in_ok-verdicts.ensures.verdicts known past at (subst (KnowsWorks known) (sym c.judgements.ensures) knows) ∙ ap (verdicts_from (judged_of past)) c.judgements.ensures in
    subst (λ (vs : List Verdict). OnOk c.append_outcomes.result (map settled c.append_outcomes.new.list.items ≡ map settled c.args.list.now.items ++ settled_from notes.number 0 notes.judged notes.isrcs vs)) verdicts c.append_outcomes.ensures

pub returns-clause-ends : goal.returns-clause-ends
returns-clause-ends c = λ known past at knows.
    on_any c.append_outcomes.result
    (subst (λ (js : List Judged). EndsAt known (placed_behind past c.args.noted.now.number 0 js) c.verdicts_next.new.end) c.judgements.ensures
    (subst (λ (k : ℕ). EndsAt known (placed_behind past k 0 c.judgements.result.now) c.verdicts_next.new.end) c.number.ensures
    (c.in_ok-verdicts.ensures.ends known past at (subst (KnowsWorks known) (sym c.judgements.ensures) knows))))
