use Rattle.std.proofs.Common.{◌≡◌, ◌∙◌, ◌<◌, ◌≤◌, ◌++◌, ◌∷◌, [], List, Some, ℕ, ap, subst, sym}
use Rattle.society_book.specs.EndLists.{end_listed, passed_to}
use Rattle.society_book.specs.declared.skips.Skip.{Skip}
use Rattle.society_book.proofs.lemmas.shown.Skips.{AreSkippedTo, all_skipped, with_skip, without_skip}
use Rattle.society_book.proofs.skips.skips_to.Goals as goal
use Rattle.work_ids.specs.Segments.{segment_of}

pub next_segment-above-requires-clause-first : goal.next_segment-above-requires-clause-first
next_segment-above-requires-clause-first c = (c.segments.invariant.so_far c.see_years.ensures.right).begins

pub segments-preserved-in_ok-push : goal.segments-preserved-in_ok-push
segments-preserved-in_ok-push c =
    let ends = end_listed c.args.ends.now in
    let front = c.args.front in
    let first = c.segments.first in
    let list = c.segments.skips.items in
    let next = c.in-Some.next in
    let is : passed_to front (ends (segment_of first)) ≡ Some next = sym c.rank_passed_to.ensures.value ∙ c.in-Some.is in
    let made : ℕ → Skip = λ a. record { above = a; below = next } in
    record {
      limit = c.in-Some.ensures.later.1;
      so_far = λ right.
          subst (λ (l : List Skip). AreSkippedTo ends right front next l) (ap (λ (a : ℕ). list ++ made a ∷ []) (sym c.next_segment-above.ensures) ∙ sym c.in_ok-push.ensures.items)
          (with_skip ends right front first list (c.segments.invariant.so_far right) next is (subst (λ (a : ℕ). a < next) c.next_segment-above.ensures c.if-above-next.true));
    }

pub segments-preserved : goal.segments-preserved
segments-preserved c =
    let ends = end_listed c.args.ends.now in
    let next = c.in-Some.next in
    let is : passed_to c.args.front (ends (segment_of c.segments.first)) ≡ Some next = sym c.rank_passed_to.ensures.value ∙ c.in-Some.is in
    record {
      limit = c.in-Some.ensures.later.1;
      so_far = λ right.
          without_skip ends right c.args.front c.segments.first c.segments.skips.items (c.segments.invariant.so_far right) next is (subst (λ (a : ℕ). next ≤ a) c.next_segment-above.ensures c.if-above-next.false);
    }

pub returns : goal.returns
returns c = λ led.
    let right = c.see_years.ensures.right in
    all_skipped (end_listed c.args.ends.now) right c.args.front c.segments.first c.segments.skips.items (c.segments.invariant.so_far right) led (sym c.rank_passed_to.ensures.value ∙ c.in_default.is)
