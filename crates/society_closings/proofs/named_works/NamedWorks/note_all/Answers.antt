use Rattle.std.proofs.Common.{◌≡◌, ◌∙◌, ◌+◌, ◌++◌, ◌∷◌, [], List, ℕ, ap, subst, sym, take, true}
use Rattle.std.proofs.lemmas.List.{take_more}
use Rattle.society_closings.specs.CutWorks.{NotesListed, is_noted, notes_of_sender}
use Rattle.society_closings.proofs.lemmas.cuts.CutNotes.{all_listed_still, notes_then}
use Rattle.society_closings.proofs.named_works.NamedWorks.note_all.Goals as goal
use Rattle.sqlite_keyed.proofs.ListLemmas.{all-append}

pub loop-sender-preserved : goal.loop-sender-preserved
loop-sender-preserved c =
    let works = c.args.works.now in
    let so_far = take c.loop-sender.sender-index works in
    let one = c.loop-sender-item.result in
    let named = c.note.new.self in
    let more = c.in_ok-note.ensures.more in
    let next : take (c.loop-sender.sender-index + 1) works ≡ so_far ++ one ∷ [] = take_more works c.loop-sender.sender-index one c.loop-sender-test.true ∙ ap (λ (x : List ℕ × List ℕ). so_far ++ x ∷ []) (sym c.loop-sender-item.is) in
    record {
      more = notes_then c.args.self.now c.loop-sender.self named c.loop-sender.invariant.more more;
      noted = subst (λ (l : List (List ℕ × List ℕ)). NotesListed l named) (sym next)
          (all-append (λ (x : List ℕ × List ℕ). notes_of_sender named x.0 ≡ true → is_noted named x.0 x.1 ≡ true) so_far (one ∷ []) (all_listed_still c.loop-sender.self named more so_far c.loop-sender.invariant.noted)
          ((λ asked. c.in_ok-note.ensures.noted (sym (more.senders one.0) ∙ asked)), tt));
    }
