use Rattle.std.proofs.Common.{◌≡◌, ℕ, ◌+◌, ◌-◌, ◌<◌, List, [], ◌∷◌, ◌++◌, drop, length, sym, ap, subst, ◌∙◌, arith, suc, add-one, append_assoc, drop-cons, get_or}
use Rattle.works_core.specs.Tracks.{HasLinks}
use Rattle.works_core.specs.Verdicts.{verdicts_from}
use Rattle.works_core.specs.Versions.{judged_of, placed_at, placed_behind}
use Rattle.works_core.specs.declared.judged.Judged.{Judged}
use Rattle.works_core.specs.declared.verdict.Verdict.{Verdict}
use Rattle.works_core.proofs.sender_line.settle_all.Goals as goal

next_of : (xs : List Judged) (i : ℕ) (x : Judged) → i < length xs → x ≡ get_or xs i x → drop i xs ≡ x ∷ drop (i + 1) xs
next_of xs i x h is = rw (add-one, drop-cons xs i x h) (ap (λ (y : Judged). y ∷ drop (suc i) xs) (sym is))

pub loop-place-preserved : goal.loop-place-preserved
loop-place-preserved c =
    let place = c.loop-place.place in
    let all = c.args.transactions.now in
    let judged = c.index-transactions-place.result in
    let here : place < length all = omega (arith, c.loop-place-test.true) in
    let next = next_of all place judged here c.index-transactions-place.is in
    let pushed = rw c.unwrap.ensures at c.push.ensures.items in
    let left : length all - place ≡ length all - (place + 1) + 1 = omega arith in
    record {
      settled = λ past tracks.
          let before = c.loop-place.invariant.settled past tracks in
          let now = before.0 in
          let more = verdicts_from (judged ∷ judged_of now) (drop (place + 1) all) in (
            placed_at c.args.transmission place judged ∷ now,
            c.settle.ensures.tracks now before.1,
            ap (λ (vs : List Verdict). vs ++ more) pushed
                ∙ append_assoc c.loop-place.verdicts.items (c.settle.result ∷ []) more
                ∙ ap (λ (v : Verdict). c.loop-place.verdicts.items ++ v ∷ more) (c.settle.ensures.verdict now before.1)
                ∙ ap (λ (js : List Judged). c.loop-place.verdicts.items ++ verdicts_from (judged_of now) js) (sym next)
                ∙ before.2,
            ap (placed_behind now c.args.transmission place) (sym next) ∙ before.3,
          );
      entries = λ other there. c.settle.ensures.entries other (c.loop-place.invariant.entries other there);
      room = c.settle.ensures.room (length all - (place + 1)) (subst (λ (n : ℕ). HasLinks n c.loop-place.works) left c.loop-place.invariant.room);
      verdict_room = (let room = c.loop-place.invariant.verdict_room in omega (arith, c.push.ensures.capacity, c.push.ensures.upper_bound));
    }
