use Rattle.std.proofs.Common.{◌∙◌, ◌||◌, ◌+◌, [], IsTrue, List, ℕ, ap, bytes_eq, refl, subst, sym, take, arith}
use Rattle.std.proofs.lemmas.List.Folds.{list_any_more}
use Rattle.society_arrivals.specs.Runs.{is_key_among}
use Rattle.society_arrivals.proofs.lemmas.RunLines.{ends_less}
use Rattle.book_audit.proofs.lines.end_of_none.Goals as goal

pub loop-work-preserved : goal.loop-work-preserved
loop-work-preserved c =
    let all = c.args.works.now in
    let i = c.loop-work.work-index in
    let x = c.work-item.result in
    let known = is_key_among (take i all) in
    let less = λ (w : List ℕ) (h : IsTrue (is_key_among (take (i + 1) all) w)).
    subst IsTrue (list_any_more (λ y. bytes_eq y w) all i x (omega (arith, c.loop-work-test.true)) ∙ ap (λ (y : List ℕ). known w || bytes_eq y w) (sym c.work-item.is)) h in
    ends_less (λ w. known w || bytes_eq x w) (is_key_among (take (i + 1) all)) c.learn.new.self less (c.in_ok-learn.ensures known [] c.loop-work.invariant refl)
