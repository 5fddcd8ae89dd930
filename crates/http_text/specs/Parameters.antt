-- Representation, not meaning: what the parameters of a match took.
use Rattle.std.specs.Prelude.{◌≤◌, ℕ, List, length}
use Rattle.matchit.specs.Params.{AllText, walk}
use Rattle.matchit.specs.declared.params.Params.{Params}
use Rattle.http_text.specs.Part.{max_head}

-- the parts of the path that the parameters of a match took, each with its name
abbrev pub parts_of : Params → List (List ℕ × List ℕ)
parts_of params = walk params.pattern.now params.text.now params.path.now params.names.now 0 0

-- what a match took of a path: each part is text, and the path is no longer than a head
pub record IsTaken (params : Params) : Type 0 where
  pub text : AllText (parts_of params)
  pub short : length params.path.now ≤ max_head
