use Rattle.std.proofs.Common.{◌≡◌, ◌∙◌, ◌++◌, ◌∷◌, [], length, map, refl, ap, sym}
use Rattle.std.specs.List.{slice_get}
use Rattle.std.proofs.lemmas.List.{map_push}
use Rattle.std.proofs.lemmas.Option.{slice_get_read}
use Rattle.society_arrivals.specs.Outcomes.{settled}
use Rattle.society_arrivals.specs.Runs.{Settled}
use Rattle.society_arrivals.proofs.outcomes.append_outcome.Goals as goal

pub returns : goal.returns
returns c =
    let there = c.in-Some.ensures.lookup in
    let listed = c.judgements.result.now in
    let fields : settled (record { number = c.value.result; place = c.in-Ok.place; work = c.work_of.result; isrcs = c.in-Some-isrcs.isrcs; verdict = c.args.verdict })
    ≡ record { number = c.args.noted.now.number; place = c.args.at; work = _; isrcs = c.in-Some-isrcs.isrcs.now; verdict = c.args.verdict } =
    λ i. record { number = (c.value.ensures.value ∙ c.number.ensures) i; place = c.in-Ok.ensures.1 i; work = c.work_of.ensures i; isrcs = c.in-Some-isrcs.isrcs.now; verdict = c.args.verdict } in
    record {
      judged = c.in-Some.judged.now;
      isrcs = c.in-Some-isrcs.isrcs.now;
      judged_there = ap (λ l. slice_get l c.args.at) (sym c.judgements.ensures) ∙ slice_get_read listed (length listed) c.args.at c.in-Some.judged.now refl there.3.0 there.1;
      isrcs_there = sym c.in-Some-isrcs.ensures;
      more = ap (map settled) c.in_ok-push.ensures.items ∙ map_push settled c.args.list.now.items _ ∙ ap (λ (x : Settled). map settled c.args.list.now.items ++ x ∷ []) fields;
    }
