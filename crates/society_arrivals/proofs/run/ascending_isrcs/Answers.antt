use Rattle.std.proofs.Common.{◌≡◌, IfOk, rules, subst, ◌∙◌, ap}
use Rattle.std.proofs.lemmas.Cmp.{nat_list_cmp_total}
use Rattle.std.proofs.lemmas.Map.Lookups.{exact_bytes}
use Rattle.society_core.specs.Keys.{ascending, bytes_cmp}
use Rattle.society_core.proofs.lemmas.Ascending.{collected_ascends}
use Rattle.society_arrivals.proofs.run.ascending_isrcs.Goals as goal

pub returns : goal.returns
returns c =
    let listed : IfOk c.collect.result (λ list. list.items ≡ c.in_ok-set.set.keys) = search rules in
    subst (λ ks. IfOk c.collect.result (λ list. list.items ≡ ks)) (collected_ascends nat_list_cmp_total exact_bytes c.in_ok-isrcs.field-0.items c.in_ok-set.set c.in_ok-set.ensures ∙ ap (ascending bytes_cmp) c.in_ok-isrcs.ensures) listed
