use Rattle.std.proofs.Common.{◌≡◌, ◌∙◌, ◌++◌, [], List, ℕ, Ok, ap, arith, flat_map, get_or, subst, sym, take, true}
use Rattle.std.proofs.lemmas.List.{flat_map_more, take_all, take_more}
use Rattle.sender_segments.specs.Ways.{StatedEnds, leads_to}
use Rattle.society_core.proofs.lemmas.Fronts.{front_led}
use Rattle.society_core.specs.Book.{ends_of}
use Rattle.society_book.specs.Standing.{AreSkipped, numbers_within}
use Rattle.society_book.specs.declared.skips.Skip.{Skip}
use Rattle.society_book.proofs.lemmas.shown.AskedInTurn.{failed_behind}
use Rattle.society_book.proofs.lemmas.shown.QuestionLemmas.{asked_then, then_asked}
use Rattle.society_book.proofs.standing.skipped_to.Goals as goal

pub loop-skip-init : goal.loop-skip-init
loop-skip-init g c =
    let s = c.args.sender.now in
    then_asked _ _ c.in_ok-ends.ends (Ok tt) _ _ c.in_ok-ends.ensures.asked
    (λ reads o book holds at.
    let same = reads book holds.kept.ends in
    let led = subst (λ (ends : StatedEnds). leads_to ends c.args.reached ≡ true) (sym same) (subst (λ (k : ℕ). leads_to (ends_of book s) k ≡ true) (sym at) (front_led book.transmissions book.ends s)) in (
      subst (AreSkipped (ends_of book s) c.args.reached) (sym c.as_slice-skip-items.ensures.value)
          (subst (λ (ends : StatedEnds). AreSkipped ends c.args.reached c.in_ok-skips.skips.items) same (c.in_ok-skips.ensures led)),
      c.new-list.ensures.items,
    ))

pub loop-skip-preserved : goal.loop-skip-preserved
loop-skip-preserved g c =
    let s = c.args.sender.now in
    let all = c.as_slice-skip-items.result.now in
    let i = c.loop-skip.skip-index in
    asked_then _ _ _ tt (Ok tt) _ _ _ c.loop-skip.invariant c.in_ok-append_within.ensures.asked
    (λ y found within o book holds at.
    let so_far = found o book holds at in
    let told : Skip → List ℕ = λ skip. numbers_within book s skip.above skip.below in
    let none : Skip = record { above = 0; below = 0 } in (
      so_far.0,
      within book holds.kept.transmissions
          ∙ ap (λ (ns : List ℕ). ns ++ told (get_or all i none)) so_far.1
          ∙ flat_map_more told [] (take i all) (get_or all i none)
          ∙ ap (flat_map told) (sym (take_more all i none (omega (arith, c.loop-skip-test.true)))),
    ))

pub returns-in_err-append_within : goal.returns-in_err-append_within
returns-in_err-append_within g c = record {
  asked = failed_behind _ _ _ tt _ _ _ _ _ _ c.from_residual-in_err-append_within.ensures.1 c.loop-skip.invariant c.in_err-append_within.ensures.asked;
}

pub returns : goal.returns
returns g c =
    let s = c.args.sender.now in
    let all = c.as_slice-skip-items.result.now in
    record {
      asked =
          then_asked _ _ tt (Ok c.loop-skip.list) _ _ c.loop-skip.invariant
          (λ found o book holds at.
          let so_far = found o book holds at in
          let told : Skip → List ℕ = λ skip. numbers_within book s skip.above skip.below in
          record { skips = all; are = so_far.0; numbers = so_far.1 ∙ ap (flat_map told) (take_all c.loop-skip.skip-index all c.loop-skip-test.false) });
    }
