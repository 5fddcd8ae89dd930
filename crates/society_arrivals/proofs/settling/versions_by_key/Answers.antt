use Rattle.std.proofs.Common.{List, IsPermutation, map, subst}
use Rattle.std.proofs.lemmas.List.Sorted.{IsPermutation-map}
use Rattle.sqlite_value.specs.Order.{Row}
use Rattle.society_rows.specs.Rows.{version_values}
use Rattle.society_arrivals.proofs.settling.versions_by_key.Goals as goal

pub returns : goal.returns
returns c =
    subst (λ (l : List Row). IsPermutation l (map version_values c.sort_by_key.new.self.items)) c.in_ok-rows.ensures
    (IsPermutation-map version_values c.in_ok-rows.rows.items c.sort_by_key.new.self.items c.sort_by_key.ensures.permutation)
