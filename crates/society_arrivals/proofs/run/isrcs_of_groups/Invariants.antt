use Rattle.std.proofs.Common.{◌≡◌, ◌++◌, map, flat_map, drop}
use Rattle.society_core.specs.Keys.{ascending, bytes_cmp}
use Rattle.works_core.specs.Recordings.{isrcs_of}
use Rattle.society_arrivals.proofs.run.isrcs_of_groups.Given as goal

abbrev pub invariant-loop-group : goal.invariant-loop-group
invariant-loop-group l =
    map (λ x. x.items) l.list.items ++ map (λ x. ascending bytes_cmp (isrcs_of x)) (flat_map (λ g. g.transactions) (drop l.group-index l.groups))
    ≡ map (λ x. ascending bytes_cmp (isrcs_of x)) (flat_map (λ g. g.transactions) l.groups)
