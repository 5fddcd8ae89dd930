use Rattle.std.proofs.Common.{◌≡◌, sym, ◌∙◌}
use Rattle.society_core.proofs.lemmas.Ascending.{same_contents_ascend}
use Rattle.society_core.proofs.lemmas.KeyOrders.{exact_returns, exact_transmissions, returns_total, transmissions_total}
use Rattle.society_core.proofs.lemmas.SameOrders.{one_order}
use Rattle.society_core.proofs.order.orders_are_sets.Goals as goal

pub returns : goal.returns
returns c a b kept kept_too kind amount same_cut same_returns =
    let cut : a.cut ≡ b.cut = sym kept.cut ∙ same_contents_ascend transmissions_total exact_transmissions a.cut b.cut same_cut ∙ kept_too.cut in
    let returned : a.returns ≡ b.returns = sym kept.returns ∙ same_contents_ascend returns_total exact_returns a.returns b.returns same_returns ∙ kept_too.returns in
    one_order a b kind amount cut returned
