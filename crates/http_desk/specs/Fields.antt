-- Representation, not meaning: what a search for the fields of one name found.
use Rattle.std.specs.Prelude.{◌≡◌, ℕ, List, [], ◌∷◌}
use Rattle.http_desk.specs.declared.body_length.Found.{Found}
use Rattle.http_desk.specs.declared.body_length.Found.TheVariants.{Nothing, One, Several}

-- these are the values: none, the one, or two and more
abbrev pub FindsValues : Found → List (List ℕ) → Type 0
FindsValues Nothing values = values ≡ []
FindsValues (One value) values = values ≡ value.now ∷ []
FindsValues Several values =
    (first : List ℕ) × (second : List ℕ) × (others : List (List ℕ)) × (values ≡ first ∷ second ∷ others)
