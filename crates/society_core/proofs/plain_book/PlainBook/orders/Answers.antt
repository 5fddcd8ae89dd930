use Rattle.std.proofs.Common.{◌≡◌, ℕ, Bor, IfOk, List, Vec, Global, ap, map, sym, subst, ◌∙◌}
use Rattle.std.specs.Cmp.{nat_cmp_total}
use Rattle.std.specs.FinMap as finite
use Rattle.society_core.specs.Book.{Book}
use Rattle.society_core.specs.Orders.{Order}
use Rattle.society_core.proofs.lemmas.KeyOrders.{exact_numbers}
use Rattle.society_core.proofs.lemmas.KeysOfMaps.{entries_in_order}
use Rattle.society_core.proofs.plain_book.PlainBook.orders.Goals as goal

pub returns : goal.returns
returns c =
    let entries = c.self.inside.pools.entries in
    subst (λ (orders : List Order). IfOk c.orders_in.result (λ (kept : Vec (Bor Order) Global). map (λ (order : Bor Order). order.now) kept.items ≡ orders))
    (ap (map (λ (e : ℕ × Order). e.1)) (sym (entries_in_order nat_cmp_total exact_numbers entries c.orders_in.ensures.ordered))
    ∙ ap (λ (b : Book). finite.values b.pools) c.self.view_is)
    c.orders_in.ensures.orders
