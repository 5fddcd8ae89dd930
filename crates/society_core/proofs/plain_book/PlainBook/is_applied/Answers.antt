use Rattle.std.proofs.Common.{ap, sym, subst, ◌∙◌}
use Rattle.sender_segments.specs.Ways.{numbers_up_to}
use Rattle.society_core.specs.Book.{AreOrderly, Book, ends_among}
use Rattle.society_core.specs.PlainMaps.{ends_kept}
use Rattle.society_core.proofs.lemmas.Books.{sound_order}
use Rattle.society_core.proofs.lemmas.LineKeys.{in_line_by, led_by}
use Rattle.society_core.proofs.plain_book.PlainBook.is_applied.Goals as goal

pub new-requires-clause-orderly : goal.new-requires-clause-orderly
new-requires-clause-orderly c =
    subst (λ (b : Book). AreOrderly b.transmissions b.ends c.args.sender.now) (sym c.self.view_is) (sound_order c.args.self.now c.requires c.args.sender.now)

pub returns : goal.returns
returns c =
    let book = c.args.self.now in
    let sender = c.args.sender.now in
    let line = c.new.result in
    let ends = ends_kept line.ends.now in
    let led = led_by book sender ends line.sender line.front (ap (λ r. ends_kept r.now) c.new.ensures.ends ∙ ap (λ (b : Book). b.ends) c.self.view_is) c.new.ensures.sender (c.new.ensures.front ∙ c.front-front.ensures) in
    c.has.ensures ∙ in_line_by book sender (numbers_up_to (ends_among ends line.sender) line.front) led c.args.number
