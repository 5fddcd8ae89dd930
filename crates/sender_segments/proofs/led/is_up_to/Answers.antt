use Rattle.std.proofs.Common.{◌∙◌, ◌&&◌, ℕ, Bool, nat_le, ap, sym}
use Rattle.work_ids.specs.Segments.{sequence_of}
use Rattle.sender_segments.specs.Ways.{leads_to}
use Rattle.sender_segments.proofs.lemmas.LedTo.{up_to_front}
use Rattle.sender_segments.proofs.led.is_up_to.Goals as goal

pub returns : goal.returns
returns g c =
    let ends = g.N.Numbers.ends c.args.numbers.now in
    let rank = c.args.rank in
    let front = c.args.front in
    c.are_all.ensures
    ∙ ap (λ (k : ℕ). nat_le 1 k && (nat_le rank front && (c.leads-is_led_to.result && c.is_up_to_end-is_within.result))) c.sequence.ensures
    ∙ ap (λ (b : Bool). nat_le 1 (sequence_of rank) && (nat_le rank front && (b && c.is_up_to_end-is_within.result))) c.leads-is_led_to.ensures
    ∙ ap (λ (b : Bool). nat_le 1 (sequence_of rank) && (nat_le rank front && (leads_to ends rank && b))) c.is_up_to_end-is_within.ensures
    ∙ sym (up_to_front ends c.requires.right front rank c.requires.led c.requires.within)
