use Rattle.std.proofs.Common.{◌≡◌, ◌≤◌, ◌+◌, ℕ, Some, true, sym, ap, ◌∙◌, option_map, arith, subst}
use Rattle.work_ids.specs.Segments.{base_of, greatest_rank, index_of, segment_of, sequence_of}
use Rattle.work_ids.specs.declared.segment.Segment.TheVariants.{Year}
use Rattle.sender_segments.specs.Ways.{End, end_stated, is_reached}
use Rattle.sender_segments.proofs.lemmas.Ranks.{base_within, room_before}
use Rattle.sender_segments.proofs.lemmas.Reached.{next_reached, over_reached}
use Rattle.sender_segments.proofs.front.front_from.Goals as goal

pub loop-front-preserved-then-has : goal.loop-front-preserved-then-has
loop-front-preserved-then-has g c =
    let there = g.N.Numbers.there c.args.numbers.now in
    let ends = g.N.Numbers.ends c.args.numbers.now in
    let it : there (c.loop-front.front + 1) ≡ true = (let a = c.has.ensures in let b = c.if-has.true in cc) in
    record {
      reached = next_reached ends c.requires.right there c.loop-front.front (room_before c.loop-front.front (c.requires.numbers.from_one (c.loop-front.front + 1) it)) c.loop-front.invariant.reached it;
      limit = c.requires.numbers.most (c.loop-front.front + 1) it;
    }

pub loop-front-preserved : goal.loop-front-preserved
loop-front-preserved g c =
    let there = g.N.Numbers.there c.args.numbers.now in
    let ends = g.N.Numbers.ends c.args.numbers.now in
    let e : End = end_stated c.in-Some.end in
    let ended : ends (segment_of c.loop-front.front) ≡ Some e = sym c.end_of.ensures ∙ ap (option_map end_stated) c.in-Some.is in
    let to : base_of e.next ≡ c.first_rank-front.result = sym (c.first_rank-front.ensures ∙ ap (λ year. base_of (index_of (Year year))) c.next.ensures) in
    let over : e.last ≤ sequence_of c.loop-front.front = (let a = c.if-last-sequence.true in let b = c.sequence.ensures in let l = c.last.ensures.value in omega (arith, a, b, l)) in
    record {
      reached = subst (λ (n : ℕ). is_reached there ends n ≡ true) to (over_reached ends c.requires.right there c.loop-front.front e c.loop-front.invariant.reached ended over);
      limit = subst (λ (n : ℕ). n ≤ greatest_rank) to (base_within e.next (c.requires.years (segment_of c.loop-front.front) e ended));
    }
