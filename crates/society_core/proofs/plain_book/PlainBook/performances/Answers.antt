use Rattle.std.proofs.Common.{ℕ, Vec, Global, ap, sym, ◌∙◌}
use Rattle.std.specs.FinMap as finite
use Rattle.society_core.proofs.lemmas.Kept.{get_shown, lent_one, shown_one}
use Rattle.society_core.proofs.lemmas.KeyOrders.{exact_returns, returns_total}
use Rattle.society_core.specs.Book.{Book}
use Rattle.society_core.proofs.plain_book.PlainBook.performances.Goals as goal

pub returns : goal.returns
returns c =
    let bytes = λ (v : Vec ℕ Global). v.items in
    lent_one returns_total exact_returns bytes c.get.result
    ∙ ap (shown_one returns_total exact_returns bytes) c.get.ensures.value
    ∙ sym (get_shown returns_total exact_returns bytes c.self.inside.returns.entries c.args.key.now)
    ∙ ap (λ (b : Book). finite.get b.returns c.args.key.now) c.self.view_is
