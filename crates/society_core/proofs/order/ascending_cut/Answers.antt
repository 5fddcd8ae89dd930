use Rattle.std.proofs.Common.{◌≡◌, IfOk, rules, subst, ◌∙◌, ap}
use Rattle.society_core.specs.Keys.{ascending, transmission_cmp}
use Rattle.society_core.proofs.lemmas.Ascending.{collected_ascends}
use Rattle.society_core.proofs.lemmas.KeyOrders.{exact_transmissions, transmissions_total}
use Rattle.society_core.proofs.order.ascending_cut.Goals as goal

pub returns-clause-keys : goal.returns-clause-keys
returns-clause-keys c =
    let listed : IfOk c.collect.result (λ keys. keys.items ≡ c.in_ok-keys.keys.keys) = search rules in
    subst (λ ks. IfOk c.collect.result (λ keys. keys.items ≡ ks)) (collected_ascends transmissions_total exact_transmissions c.in_ok-transmission_keys.field-0.items c.in_ok-keys.keys c.in_ok-keys.ensures ∙ ap (ascending transmission_cmp) c.in_ok-transmission_keys.ensures.keys) listed
