use Rattle.std.proofs.Common.{◌≡◌, ℕ, Vec, Global, ap, sym, ◌∙◌}
use Rattle.society_core.specs.Book.{is_among}
use Rattle.society_core.specs.Keys.{transmission_key}
use Rattle.society_core.specs.PlainMaps.{transmissions_of}
use Rattle.society_core.proofs.lemmas.Kept.{is_some-shown}
use Rattle.society_core.proofs.lemmas.KeyOrders.{exact_transmissions, transmissions_total}
use Rattle.society_core.proofs.lemmas.Numbers.{number_is}
use Rattle.work_ids.specs.Segments.{is_transmission_number}
use Rattle.society_core.proofs.line.SenderNumbersNumbers.has.Goals as goal

pub returns-in-Some : goal.returns-in-Some
returns-in-Some c =
    let kept = c.args.self.now.transmissions.now in
    let sender = c.args.self.now.sender in
    let number : c.in-Some.number ≡ c.args.rank = number_is is_transmission_number c.args.rank c.in-Some.number (sym c.from_u32.ensures ∙ c.in-Some.is) in
    c.contains_key.ensures
    ∙ sym (is_some-shown transmissions_total exact_transmissions (λ (v : Vec ℕ Global). v.items) kept.entries (transmission_key sender c.in-Some.number))
    ∙ ap (is_among (transmissions_of kept) sender) number
