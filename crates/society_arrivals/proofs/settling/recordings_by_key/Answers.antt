use Rattle.std.proofs.Common.{List, IsPermutation, map, subst}
use Rattle.std.proofs.lemmas.List.Sorted.{IsPermutation-map}
use Rattle.sqlite_value.specs.Order.{Row}
use Rattle.society_rows.specs.Rows.{recording_values}
use Rattle.society_arrivals.proofs.settling.recordings_by_key.Goals as goal

pub returns : goal.returns
returns c =
    subst (λ (l : List Row). IsPermutation l (map recording_values c.sort_by_key.new.self.items)) c.in_ok-rows.ensures
    (IsPermutation-map recording_values c.in_ok-rows.rows.items c.sort_by_key.new.self.items c.sort_by_key.ensures.permutation)
