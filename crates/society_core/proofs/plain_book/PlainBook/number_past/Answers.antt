use Rattle.std.proofs.Common.{◌≡◌, ℕ, Vec, Global, map, ap, sym, ◌∙◌}
use Rattle.std.specs.FinMap as finite
use Rattle.society_core.specs.Book.{Book}
use Rattle.society_core.specs.Ends.{place_stated}
use Rattle.society_core.specs.declared.transmission_key.TransmissionKey.{TransmissionKey}
use Rattle.society_core.proofs.lemmas.Kept.{keys_in_order}
use Rattle.society_core.proofs.lemmas.KeyOrders.{exact_transmissions, transmissions_total}
use Rattle.society_core.proofs.lemmas.LineKeys.{past_by_keys}
use Rattle.society_core.proofs.plain_book.PlainBook.number_past.Goals as goal

pub returns : goal.returns
returns c =
    let book = c.args.self.now in
    let end = c.args.end.now in
    let entries = c.self.inside.transmissions.entries in
    let keys = map (λ (e : TransmissionKey × Vec ℕ Global). e.0) entries in
    let are : finite.keys book.transmissions ≡ keys =
    ap (λ (b : Book). finite.keys b.transmissions) (sym c.self.view_is) ∙ keys_in_order transmissions_total exact_transmissions (λ (v : Vec ℕ Global). v.items) entries c.number_past.ensures.ordered in
    c.number_past.ensures.number ∙ past_by_keys book c.args.sender.now (place_stated end) end.last keys are
