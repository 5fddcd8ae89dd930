use Rattle.std.proofs.Common.{◌≡◌, ◌++◌, map, flat_map, drop}
use Rattle.works_core.specs.Line.{judged}
use Rattle.works_core.proofs.sender_line.judged_groups.Given as goal

abbrev pub invariant-loop-group : goal.invariant-loop-group
invariant-loop-group l =
    l.list.items ++ map (judged l.office) (flat_map (λ g. g.transactions) (drop l.group-index l.groups)) ≡ map (judged l.office) (flat_map (λ g. g.transactions) l.groups)
