use Rattle.std.proofs.Common.{◌∙◌, IfOk, Result, Ok, Err}
use Rattle.society_closings.proofs.lemmas.money.SameTotals.{same_in_order}
use Rattle.society_closings.proofs.totals.totals_of.Goals as goal

weaker_ok : {X E : Type 0} (r : Result X E) (P Q : X → Type 0) → ((x : X) → P x → Q x) → IfOk r P → IfOk r Q
weaker_ok (Ok x) P Q more h = more x h
weaker_ok (Err e) P Q more h = tt

pub returns : goal.returns
returns c =
    weaker_ok c.totals_of_runs.result _ _ (λ totals same a. same a ∙ same_in_order c.args.credits.now c.in_ok-sorted.sorted.items c.in_ok-sorted.ensures a)
    (rw c.deref.ensures.value at c.totals_of_runs.ensures)
