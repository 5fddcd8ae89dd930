use Rattle.std.proofs.Common.{IsSome, refl, subst, sym}
use Rattle.society_closings.proofs.lemmas.cuts.CutNotes.{note_more}
use Rattle.society_closings.proofs.named_works.NamedWorks.note.Goals as goal

pub returns-in_ok-insert-clause-more : goal.returns-in_ok-insert-clause-more
returns-in_ok-insert-clause-more c =
    let put = (c.get_mut.follows.holds c.insert.new.self).3 (subst IsSome c.in-Some.ensures.value refl) in
    note_more c.args.self.now _ c.args.sender.now c.args.work c.in-Some.works.now c.insert.new.self (sym c.in-Some.ensures.value) put.0 c.in_ok-insert.ensures.updates.0
