use Rattle.std.proofs.Common.{ℕ, Vec, Global, ap, sym, ◌∙◌}
use Rattle.std.specs.FinMap as finite
use Rattle.society_core.specs.Keys.{transmission_key}
use Rattle.society_core.proofs.lemmas.Kept.{get_shown, lent_one, shown_one}
use Rattle.society_core.proofs.lemmas.KeyOrders.{exact_transmissions, transmissions_total}
use Rattle.society_core.specs.Book.{Book}
use Rattle.society_core.proofs.plain_book.PlainBook.transmission.Goals as goal

pub returns : goal.returns
returns c =
    let key = transmission_key c.args.sender.now c.args.number in
    let bytes = λ (v : Vec ℕ Global). v.items in
    lent_one transmissions_total exact_transmissions bytes c.get.result
    ∙ ap (shown_one transmissions_total exact_transmissions bytes) c.get.ensures.value
    ∙ sym (get_shown transmissions_total exact_transmissions bytes c.self.inside.transmissions.entries key)
    ∙ ap (λ (b : Book). finite.get b.transmissions key) c.self.view_is
