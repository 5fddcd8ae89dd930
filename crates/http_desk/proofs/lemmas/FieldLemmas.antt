-- The values of a field that were found so far.
use Rattle.std.proofs.Common.{ℕ, List, [], ◌∷◌, Option, Some, None, Bor}

-- the values that were found so far
abbrev pub found_values : Option (Bor (List ℕ)) → List (List ℕ)
found_values None = []
found_values (Some value) = value.now ∷ []
