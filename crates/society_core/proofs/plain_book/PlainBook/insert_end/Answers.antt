use Rattle.std.proofs.Common.{ℕ, subst, sym}
use Rattle.std.specs.FinMap as finite
use Rattle.society_core.specs.Keys.{segment_key}
use Rattle.society_core.specs.PlainMaps.{ends_kept, transmissions_of}
use Rattle.society_core.specs.Book.{AreOrderly, Book, with_end}
use Rattle.society_core.proofs.lemmas.Books.{sound_order}
use Rattle.sender_segments.specs.Ways.{end_stated}
use Rattle.society_core.specs.Ends.{place_stated}
use Rattle.society_core.proofs.plain_book.PlainBook.insert_end.Goals as goal

pub insert_end_with_front-requires-clause-orderly : goal.insert_end_with_front-requires-clause-orderly
insert_end_with_front-requires-clause-orderly c = λ s.
    subst (λ (b : Book). AreOrderly b.transmissions b.ends s) (sym c.self.view_is) (sound_order c.args.self.now c.requires.sound s)

pub insert_end_with_front-requires-clause-after : goal.insert_end_with_front-requires-clause-after
insert_end_with_front-requires-clause-after c = λ s.
    let sender = c.args.sender.now in
    let end = c.args.end.now in
    let place = place_stated end in
    subst (λ (g : ℕ). AreOrderly (transmissions_of c.self.inside.transmissions) (finite.insert (ends_kept c.self.inside.ends) (segment_key sender g) (end_stated end)) s) (sym c.place.ensures)
    (subst (λ (b : Book). AreOrderly b.transmissions (with_end b sender place (end_stated end)).ends s) (sym c.self.view_is)
    (sound_order (with_end c.args.self.now sender place (end_stated end)) c.requires.after s))
