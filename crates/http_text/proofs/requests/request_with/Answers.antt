use Rattle.std.proofs.Common.{◌≢◌, Result, Ok, Err, sym, subst}
use Rattle.std.specs.Prelude.{OnErr}
use Rattle.society_core.specs.Requests.{AsksElsewhere}
use Rattle.http_text.specs.Wanted.{asked_whole}
use Rattle.http_text.specs.declared.requests.WithBody.{WithBody}
use Rattle.http_text.proofs.lemmas.EndLemmas.{state_some}
use Rattle.http_text.proofs.lemmas.OrderLemmas.{close_some}
use Rattle.http_text.proofs.requests.request_with.Goals as goal

always : {T E : Type 0} (result : Result T E) (P : Type 0) → P → OnErr result P
always (Ok x) P holds = tt
always (Err fault) P holds = holds

pub returns-in-Segment-clause-refused : goal.returns-in-Segment-clause-refused
returns-in-Segment-clause-refused c =
    let P : WithBody → Type 0 = λ w. asked_whole w c.args.body.now ≢ AsksElsewhere in
    always c.state_by.result _ (subst P (sym c.in-Segment.is) (state_some c.in-Segment.sender c.in-Segment.segment c.args.body.now))

pub returns-in-Pool-clause-refused : goal.returns-in-Pool-clause-refused
returns-in-Pool-clause-refused c =
    let P : WithBody → Type 0 = λ w. asked_whole w c.args.body.now ≢ AsksElsewhere in
    always c.close_by.result _ (subst P (sym c.in-Pool.is) (close_some c.in-Pool.pool c.args.body.now))
