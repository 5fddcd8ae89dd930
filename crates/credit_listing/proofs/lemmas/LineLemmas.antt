-- What lines spell, element by element.
use Rattle.std.proofs.Common.{◌≡◌, ℕ, List, ◌++◌, Option, drop, option_map}
use Rattle.serde_json.specs.View.{items_view}
use Rattle.serde_json.specs.declared.value.Value.{Value}
use Rattle.credit_listing.specs.Spelled.{recordings_among}

-- these and then the others, where they are there
abbrev pub behind : List (List ℕ) → Option (List (List ℕ)) → Option (List (List ℕ))
behind done others = option_map (λ (rest : List (List ℕ)). done ++ rest) others

-- so far these elements named recordings
abbrev pub NamedSoFar : List Value → ℕ → List (List ℕ) → Type 0
NamedSoFar values count done = recordings_among (items_view values) ≡ behind done (recordings_among (items_view (drop count values)))
