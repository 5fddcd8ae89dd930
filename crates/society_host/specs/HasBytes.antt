-- Whether a file with bytes was seen (representation).
use Rattle.std.specs.Prelude.{◌≡◌, ◌<◌, ℕ, List, true}
use Rattle.society_host.specs.declared.look.Look.{Look}

-- a look at a path found a file with a byte
abbrev pub HasBytes : (List ℕ → Look → Type 0) → List ℕ → Type 0
HasBytes finds path = (look : Look) × finds path look × (look.is_file ≡ true) × (0 < look.len)
