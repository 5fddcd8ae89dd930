use Rattle.std.proofs.Common.{ap, sym, ◌∙◌}
use Rattle.works_core.specs.Ends.{last_after, last_in}
use Rattle.works_core.specs.Versions.{next_verdict}
use Rattle.works_core.proofs.lemmas.EndLemmas.{ends-refused, ends-taken, told}
use Rattle.works_core.proofs.line_end.LineEnd.settle.Goals as goal

pub returns-in_ok-append-in-Accepted-clause-verdict : goal.returns-in_ok-append-in-Accepted-clause-verdict
returns-in_ok-append-in-Accepted-clause-verdict c = λ known past at there.
    let now = c.args.self.now in
    sym c.in-Accepted.is ∙ c.in_ok-verdict.ensures.value ∙ ap (λ o. next_verdict c.args.judged.now o now.works) c.known_version.ensures ∙ told known past now c.args.judged.now at there

pub returns-in_ok-append-in-Accepted-clause-ends : goal.returns-in_ok-append-in-Accepted-clause-ends
returns-in_ok-append-in-Accepted-clause-ends c = λ known past at there.
    let now = c.args.self.now in
    let is = c.in_ok-verdict.ensures.value ∙ ap (λ o. next_verdict c.args.judged.now o now.works) c.known_version.ensures ∙ told known past now c.args.judged.now at there in
    ends-taken known past now c.append.new.self c.args.judged.now c.args.place.transmission c.args.place.place c.in-Accepted.ordinal c.in-Accepted.revision at (sym is ∙ c.in-Accepted.is) c.in_ok-append-in-Accepted.ensures.works
    (λ other. c.in_ok-append-in-Accepted.ensures.last other ∙ ap (λ v. last_after c.args.judged.now v (last_in now) other) c.version-version.ensures)

pub returns-in-Rejected-clause-verdict : goal.returns-in-Rejected-clause-verdict
returns-in-Rejected-clause-verdict c = λ known past at there.
    let now = c.args.self.now in
    c.in_ok-verdict.ensures.value ∙ ap (λ o. next_verdict c.args.judged.now o now.works) c.known_version.ensures ∙ told known past now c.args.judged.now at there

pub returns-in-Rejected-clause-ends : goal.returns-in-Rejected-clause-ends
returns-in-Rejected-clause-ends c = λ known past at there.
    let now = c.args.self.now in
    let is = c.in_ok-verdict.ensures.value ∙ ap (λ o. next_verdict c.args.judged.now o now.works) c.known_version.ensures ∙ told known past now c.args.judged.now at there in
    ends-refused known past now _ c.in-Rejected.field-0 at (sym is ∙ c.in-Rejected.is)
