use Rattle.std.proofs.Common.{◌≡◌, ◌<◌, ◌≤◌, ℕ, Some, true, sym, ap, ◌∙◌, option_map, arith, subst}
use Rattle.work_ids.specs.Segments.{base_of, greatest_rank, index_of, segment_of}
use Rattle.work_ids.specs.declared.segment.Segment.TheVariants.{Year}
use Rattle.sender_segments.specs.Ways.{End, end_stated, leads_to}
use Rattle.sender_segments.proofs.lemmas.LedTo.{base_is, base_segment, bases_back, led_over, skips, stops}
use Rattle.sender_segments.proofs.lemmas.Ranks.{base_within}
use Rattle.sender_segments.proofs.led.leads.Goals as goal

pub loop-at-preserved : goal.loop-at-preserved
loop-at-preserved g c =
    let ends = g.N.Numbers.ends c.args.numbers.now in
    let at = c.loop-at.at in
    let e : End = end_stated c.in-Some.end in
    let ended : ends (segment_of at) ≡ Some e = sym c.end_of.ensures ∙ ap (option_map end_stated) c.in-Some.is in
    let to : base_of e.next ≡ c.first_rank-at.result = sym (c.first_rank-at.ensures ∙ ap (λ year. base_of (index_of (Year year))) c.next.ensures) in
    let its = base_is c.args.rank in
    let sequence = c.sequence.ensures in
    let below = c.loop-at-test.true in
    let base = c.loop-at.invariant.base in
    let later : segment_of at < segment_of c.args.rank = bases_back (segment_of at) (segment_of c.args.rank) (omega (arith, its, sequence, below, base)) in
    record {
      led = subst (λ (n : ℕ). leads_to ends n ≡ true) to (led_over ends c.requires.right at e c.loop-at.invariant.led ended);
      base = subst (λ (n : ℕ). n ≡ base_of (segment_of n)) to (sym (ap base_of (base_segment e.next)));
      limit = subst (λ (n : ℕ). n ≤ greatest_rank) to (base_within e.next (c.requires.years (segment_of at) e ended));
      past = λ over. skips ends c.requires.right at c.args.rank e c.loop-at.invariant.led ended later (bases_back (segment_of c.args.rank) e.next (omega (arith, its, sequence, over, to)));
    }

pub returns-in-None : goal.returns-in-None
returns-in-None g c =
    let ends = g.N.Numbers.ends c.args.numbers.now in
    let at = c.loop-at.at in
    let its = base_is c.args.rank in
    let sequence = c.sequence.ensures in
    let below = c.loop-at-test.true in
    let base = c.loop-at.invariant.base in
    let later : segment_of at < segment_of c.args.rank = bases_back (segment_of at) (segment_of c.args.rank) (omega (arith, its, sequence, below, base)) in
    sym (stops ends c.requires.right at c.args.rank c.loop-at.invariant.led (sym c.end_of.ensures ∙ ap (option_map end_stated) c.in-None.is) later)
