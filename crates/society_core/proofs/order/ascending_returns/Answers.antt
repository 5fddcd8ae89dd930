use Rattle.std.proofs.Common.{◌≡◌, IfOk, rules, subst, ◌∙◌, ap}
use Rattle.society_core.specs.Keys.{ascending, return_cmp}
use Rattle.society_core.proofs.lemmas.Ascending.{collected_ascends}
use Rattle.society_core.proofs.lemmas.KeyOrders.{exact_returns, returns_total}
use Rattle.society_core.proofs.order.ascending_returns.Goals as goal

pub returns : goal.returns
returns c =
    let listed : IfOk c.collect.result (λ keys. keys.items ≡ c.in_ok-keys.keys.keys) = search rules in
    subst (λ ks. IfOk c.collect.result (λ keys. keys.items ≡ ks)) (collected_ascends returns_total exact_returns c.in_ok-return_keys.field-0.items c.in_ok-keys.keys c.in_ok-keys.ensures ∙ ap (ascending return_cmp) c.in_ok-return_keys.ensures) listed
