use Rattle.std.proofs.Common.{◌≡◌, ℕ, ◌+◌, ◌<◌, List, [], ◌∷◌, ◌++◌, drop, length, sym, ap, subst, ◌∙◌, arith, suc, add-one, append_assoc, drop-cons, get_or}
use Rattle.std.proofs.lemmas.List.{append-nil, drop_all}
use Rattle.works_core.specs.Ends.{EndsAt, KnowsWorks}
use Rattle.works_core.specs.Verdicts.{verdicts_from}
use Rattle.works_core.specs.Versions.{Placed, judged_of, placed_at, placed_behind}
use Rattle.works_core.specs.declared.judged.Judged.{Judged}
use Rattle.works_core.specs.declared.verdict.Verdict.{Verdict}
use Rattle.works_core.proofs.line_end.LineEnd.apply.Goals as goal

next_of : (xs : List Judged) (i : ℕ) (x : Judged) → i < length xs → x ≡ get_or xs i x → drop i xs ≡ x ∷ drop (i + 1) xs
next_of xs i x h is = rw (add-one, drop-cons xs i x h) (ap (λ (y : Judged). y ∷ drop (suc i) xs) (sym is))

pub loop-place-preserved : goal.loop-place-preserved
loop-place-preserved c = λ known past at there.
    let place = c.loop-place.place in
    let all = c.args.transactions.now in
    let judged = c.index-transactions-place.result in
    let here : place < length all = omega (arith, c.loop-place-test.true) in
    let next = next_of all place judged here c.index-transactions-place.is in
    let so_far = c.loop-place.invariant known past at there in
    let now = so_far.0 in
    let knows = subst (KnowsWorks known) next so_far.2 in
    let more = verdicts_from (judged ∷ judged_of now) (drop (place + 1) all) in (
      placed_at c.args.number place judged ∷ now,
      c.in_ok-settle.ensures.ends known now so_far.1 knows.0,
      knows.1,
      ap (λ (vs : List Verdict). vs ++ more) c.in_ok-push.ensures.items
          ∙ append_assoc c.loop-place.verdicts.items (c.in_ok-settle.field-0 ∷ []) more
          ∙ ap (λ (v : Verdict). c.loop-place.verdicts.items ++ v ∷ more) (c.in_ok-settle.ensures.verdict known now so_far.1 knows.0)
          ∙ ap (λ (js : List Judged). c.loop-place.verdicts.items ++ verdicts_from (judged_of now) js) (sym next)
          ∙ so_far.3,
      ap (placed_behind now c.args.number place) (sym next) ∙ so_far.4,
    )

pub returns-clause-verdicts : goal.returns-clause-verdicts
returns-clause-verdicts c = λ known past at there.
    let all = c.args.transactions.now in
    let so_far = c.loop-place.invariant known past at there in
    let none = drop_all c.loop-place.place all (omega (arith, c.loop-place-test.false)) in
    sym (append-nil c.loop-place.verdicts.items)
    ∙ ap (λ (js : List Judged). c.loop-place.verdicts.items ++ verdicts_from (judged_of so_far.0) js) (sym none)
    ∙ so_far.3

pub returns-clause-ends : goal.returns-clause-ends
returns-clause-ends c = λ known past at there.
    let all = c.args.transactions.now in
    let so_far = c.loop-place.invariant known past at there in
    let none = drop_all c.loop-place.place all (omega (arith, c.loop-place-test.false)) in
    let same : so_far.0 ≡ placed_behind past c.args.number 0 all = ap (placed_behind so_far.0 c.args.number c.loop-place.place) (sym none) ∙ so_far.4 in
    subst (λ (p : List Placed). EndsAt known p c.loop-place.self) same so_far.1
