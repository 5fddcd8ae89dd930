use Rattle.std.proofs.Common.{◌∙◌, ◌||◌, ◌+◌, IsTrue, List, ℕ, Ok, ap, bytes_eq, subst, sym, take, arith}
use Rattle.std.proofs.lemmas.List.Folds.{list_any_more}
use Rattle.sqlite.specs.Held.{state}
use Rattle.society_arrivals.specs.Runs.{is_key_among}
use Rattle.society_arrivals.proofs.lemmas.RunLines.{ends_less}
use Rattle.society_book.proofs.lemmas.together.StepLemmas.{looks_then}
use Rattle.society_arrivals.proofs.settling.learn_all.Goals as goal

pub loop-work-preserved : goal.loop-work-preserved
loop-work-preserved g c =
    let s = c.args.sender.now in
    let all = c.args.works.now in
    let i = c.loop-work.work-index in
    let x = c.work-item.result in
    let old = state g.S.Store c.args.tx.now.conn.now in
    let mid = state g.S.Store c.loop-work.tx.conn.now in
    let new = state g.S.Store c.learn_work.new.tx.conn.now in
    let known = is_key_among (take i all) in
    let less = λ (w : List ℕ) (h : IsTrue (is_key_among (take (i + 1) all) w)).
    subst IsTrue (list_any_more (λ y. bytes_eq y w) all i x (omega (arith, c.loop-work-test.true)) ∙ ap (λ (y : List ℕ). known w || bytes_eq y w) (sym c.work-item.is)) h in
    record {
      same_reference = c.learn_work.ensures.looks.same_reference ∙ c.loop-work.invariant.same_reference;
      looks = looks_then old mid new tt (Ok tt) _ _ _ c.loop-work.invariant.looks c.in_ok-learn_work.ensures.looks.says
          (λ y first second o b holds at. ends_less (λ w. known w || bytes_eq x w) (is_key_among (take (i + 1) all)) c.learn_work.new.end less (second o b known holds (first o b holds at)));
    }
