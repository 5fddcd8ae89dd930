use Rattle.std.proofs.Common.{ap, ap₂, sym, subst, ◌∙◌}
use Rattle.sender_segments.specs.Ways.{numbers_up_to}
use Rattle.society_core.specs.Answers.{place_by}
use Rattle.society_core.specs.Book.{AreOrderly, Book, Transmissions, ends_among, with_transmission}
use Rattle.society_core.specs.PlainMaps.{ends_kept, plain_book}
use Rattle.society_core.proofs.lemmas.Books.{sound_order}
use Rattle.society_core.proofs.lemmas.LineKeys.{in_line_by, led_by}
use Rattle.society_core.proofs.plain_book.PlainBook.insert_transmission.Goals as goal

pub insert_with_front-requires-clause-orderly : goal.insert_with_front-requires-clause-orderly
insert_with_front-requires-clause-orderly c = λ s.
    subst (λ (b : Book). AreOrderly b.transmissions b.ends s) (sym c.self.view_is) (sound_order c.args.self.now c.requires.sound s)

pub insert_with_front-requires-clause-after : goal.insert_with_front-requires-clause-after
insert_with_front-requires-clause-after c = λ s.
    let sender = c.args.sender.now in
    let number = c.args.number in
    let body = c.args.body.items in
    subst (λ (b : Book). AreOrderly (with_transmission b sender number body).transmissions b.ends s) (sym c.self.view_is)
    (sound_order (with_transmission c.args.self.now sender number body) c.requires.after s)

pub new-line-requires-clause-orderly : goal.new-line-requires-clause-orderly
new-line-requires-clause-orderly c =
    let sender = c.args.sender.now in
    let number = c.args.number in
    let body = c.args.body.items in
    subst (λ (kept : Transmissions). AreOrderly kept (ends_kept c.self.inside.ends) sender) (sym c.in_ok-front.ensures.ok)
    (subst (λ (b : Book). AreOrderly (with_transmission b sender number body).transmissions b.ends sender) (sym c.self.view_is)
    (sound_order (with_transmission c.args.self.now sender number body) c.requires.after sender))

pub returns-clause-place : goal.returns-clause-place
returns-clause-place c =
    let inside = c.self.inside in
    let after = plain_book c.insert_with_front.new.transmissions.entries inside.ends.entries inside.returns.entries inside.pools.entries in
    let sender = c.args.sender.now in
    let line = c.new-line.result in
    let ends = ends_kept line.ends.now in
    let led = led_by after sender ends line.sender line.front (ap (λ r. ends_kept r.now) c.new-line.ensures.ends) c.new-line.ensures.sender (c.new-line.ensures.front ∙ c.in_ok-front.ensures.front) in
    ap₂ place_by c.in_ok-front.ensures.front (c.has.ensures ∙ in_line_by after sender (numbers_up_to (ends_among ends line.sender) line.front) led c.args.number)
