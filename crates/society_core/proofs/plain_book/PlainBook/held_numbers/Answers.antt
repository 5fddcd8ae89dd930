use Rattle.std.proofs.Common.{◌≡◌, IfOk, ℕ, List, Vec, Global, map, ap, sym, subst, ◌∙◌}
use Rattle.std.specs.FinMap as finite
use Rattle.sender_segments.specs.Ways.{numbers_up_to}
use Rattle.society_core.specs.Book.{AreOrderly, Book, ends_among}
use Rattle.society_core.specs.PlainMaps.{ends_kept}
use Rattle.society_core.specs.declared.transmission_key.TransmissionKey.{TransmissionKey}
use Rattle.society_core.proofs.lemmas.Books.{sound_order}
use Rattle.society_core.proofs.lemmas.Kept.{keys_in_order}
use Rattle.society_core.proofs.lemmas.KeyOrders.{exact_transmissions, transmissions_total}
use Rattle.society_core.proofs.lemmas.LineKeys.{held_by_keys, led_by}
use Rattle.society_core.proofs.plain_book.PlainBook.held_numbers.Goals as goal

pub new-line-requires-clause-orderly : goal.new-line-requires-clause-orderly
new-line-requires-clause-orderly c =
    subst (λ (b : Book). AreOrderly b.transmissions b.ends c.args.sender.now) (sym c.self.view_is) (sound_order c.args.self.now c.requires c.args.sender.now)

pub returns : goal.returns
returns c =
    let book = c.args.self.now in
    let sender = c.args.sender.now in
    let line = c.new-line.result in
    let ends = ends_kept line.ends.now in
    let led = led_by book sender ends line.sender line.front (ap (λ r. ends_kept r.now) c.new-line.ensures.ends ∙ ap (λ (b : Book). b.ends) c.self.view_is) c.new-line.ensures.sender (c.new-line.ensures.front ∙ c.front-front.ensures) in
    let entries = c.self.inside.transmissions.entries in
    let keys = map (λ (e : TransmissionKey × Vec ℕ Global). e.0) entries in
    let are : finite.keys book.transmissions ≡ keys =
    ap (λ (b : Book). finite.keys b.transmissions) (sym c.self.view_is) ∙ keys_in_order transmissions_total exact_transmissions (λ (v : Vec ℕ Global). v.items) entries c.numbers_apart.ensures.ordered in
    subst (λ (numbers : List ℕ). IfOk c.numbers_apart.result (λ (found : Vec ℕ Global). found.items ≡ numbers))
    (held_by_keys book sender (numbers_up_to (ends_among ends line.sender) line.front) led keys are)
    c.numbers_apart.ensures.numbers
