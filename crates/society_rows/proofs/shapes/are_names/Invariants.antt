use Rattle.std.proofs.Common.{◌≡◌, ℕ, List, Bor, map, take}
use Rattle.society_rows.proofs.shapes.are_names.Given as goal

abbrev pub invariant-loop-at : goal.invariant-loop-at
invariant-loop-at l = take l.at l.names ≡ take l.at (map (λ (f : Bor (List ℕ)). f.now) l.forms)
