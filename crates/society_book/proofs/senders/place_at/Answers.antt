use Rattle.std.proofs.Common.{◌≡◌, ◌∙◌, ℕ, Ok, ap₂, subst, sym, true}
use Rattle.sender_segments.specs.Ways.{IsWithinEnd, StatedEnds, leads_to, numbers_up_to}
use Rattle.society_core.proofs.lemmas.Books.{sound_order}
use Rattle.society_core.proofs.lemmas.Fronts.{front_led}
use Rattle.society_core.proofs.lemmas.KeptFronts.{kept_front_fits}
use Rattle.society_core.proofs.lemmas.LineNumbers.{in_line_is}
use Rattle.society_core.specs.Answers.{place_by}
use Rattle.society_core.specs.Book.{ends_of, is_one_of}
use Rattle.society_book.proofs.lemmas.shown.QuestionLemmas.{then_asked}
use Rattle.society_book.proofs.senders.place_at.Goals as goal

pub returns : goal.returns
returns g c =
    let s = c.args.sender.now in
    let n = c.args.number in
    record {
      asked =
          then_asked _ _ c.in_ok-ends.ends (Ok _) _ _ c.in_ok-ends.ensures.asked
          (λ reads o book holds at.
          let same = reads book holds.kept.ends in
          let led = subst (λ (ends : StatedEnds). leads_to ends c.args.reached ≡ true) (sym same) (subst (λ (k : ℕ). leads_to (ends_of book s) k ≡ true) (sym at) (front_led book.transmissions book.ends s)) in
          let within = subst (λ (ends : StatedEnds). IsWithinEnd ends c.args.reached) (sym same)
          (subst (λ (k : ℕ). IsWithinEnd (ends_of book s) k) (sym at) (kept_front_fits book.transmissions book.ends s (sound_order book holds.sound s))) in
          ap₂ place_by at
          (c.is_in_line.ensures led within ∙ ap₂ (λ (ends : StatedEnds) (k : ℕ). is_one_of (numbers_up_to ends k) n) same at ∙ sym (in_line_is book s n)));
    }
