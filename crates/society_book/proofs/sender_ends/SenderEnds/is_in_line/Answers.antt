use Rattle.std.proofs.Common.{◌∙◌, ◌&&◌, ℕ, Bool, nat_le, ap, sym}
use Rattle.sender_segments.specs.Ways.{leads_to, numbers_up_to}
use Rattle.sender_segments.proofs.lemmas.LedTo.{up_to_front}
use Rattle.society_core.specs.Book.{is_one_of}
use Rattle.society_book.specs.EndLists.{end_listed}
use Rattle.society_book.proofs.sender_ends.SenderEnds.is_in_line.Goals as goal
use Rattle.work_ids.specs.Segments.{sequence_of}

pub returns : goal.returns
returns c = λ led within.
    let ends = end_listed c.args.self.now in
    let rank = c.value-rank.result in
    let front = c.args.front in
    c.are_all.ensures
    ∙ ap (λ (k : ℕ). nat_le 1 k && (nat_le rank front && (c.leads-is_led_to.result && c.is_up_to_end-is_within.result))) c.sequence.ensures
    ∙ ap (λ (b : Bool). nat_le 1 (sequence_of rank) && (nat_le rank front && (b && c.is_up_to_end-is_within.result))) c.leads-is_led_to.ensures
    ∙ ap (λ (b : Bool). nat_le 1 (sequence_of rank) && (nat_le rank front && (leads_to ends rank && b))) c.is_up_to_end-is_within.ensures
    ∙ sym (up_to_front ends c.see_years.ensures.right front rank led within)
    ∙ ap (is_one_of (numbers_up_to ends front)) c.value-rank.ensures.value
