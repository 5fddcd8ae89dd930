use Rattle.std.proofs.Common.{◌≡◌, map, take}
use Rattle.society_rows.specs.Shapes.{in_order, refers_to}
use Rattle.society_rows.proofs.shapes.are_references.Given as goal

abbrev pub invariant-loop-at : goal.invariant-loop-at
invariant-loop-at l = take l.at l.references ≡ take l.at (in_order l.turned (map refers_to l.parents))
