use Rattle.std.proofs.Common.{ℕ, List, ap, sym, ◌∙◌}
use Rattle.std.specs.Cmp.{nat_cmp_total}
use Rattle.std.specs.FinMap as finite
use Rattle.std.specs.Ordering.{nat_cmp}
use Rattle.society_core.specs.Orders.{Order}
use Rattle.society_core.proofs.lemmas.Kept.{get_shown, lent_one, pairs_same, shown_one}
use Rattle.society_core.proofs.lemmas.KeyOrders.{exact_numbers}
use Rattle.society_core.specs.Book.{Book}
use Rattle.society_core.proofs.plain_book.PlainBook.order.Goals as goal

pub returns : goal.returns
returns c =
    let same = λ (o : Order). o in
    lent_one nat_cmp_total exact_numbers same c.get.result
    ∙ ap (shown_one nat_cmp_total exact_numbers same) c.get.ensures.value
    ∙ sym (get_shown nat_cmp_total exact_numbers same c.self.inside.pools.entries c.args.pool)
    ∙ ap (λ (es : List (ℕ × Order)). finite.get (finite.from_entries {R = nat_cmp} es) c.args.pool) (pairs_same c.self.inside.pools.entries)
    ∙ ap (λ (b : Book). finite.get b.pools c.args.pool) c.self.view_is
