-- Representation, not meaning: the line that a store in memory looks numbers up in.
use Rattle.std.specs.Prelude.{ℕ, Bool, List, map}
use Rattle.std.specs.List.{filter}
use Rattle.sender_segments.specs.Ways.{numbers_up_to}
use Rattle.society_core.specs.Book.{ends_among, is_one_of}
use Rattle.society_core.specs.PlainMaps.{ends_kept}
use Rattle.society_core.specs.declared.line.Line.{Line}
use Rattle.society_core.specs.declared.transmission_key.TransmissionKey.{TransmissionKey}

-- whether a number is in a line
abbrev pub has : Line → ℕ → Bool
has line number = is_one_of (numbers_up_to (ends_among (ends_kept line.ends.now) line.sender) line.front) number

-- the numbers of the keys that pass a test
abbrev pub numbers_passing : (TransmissionKey → Bool) → List TransmissionKey → List ℕ
numbers_passing passes keys = map (λ key. key.number) (filter passes keys)
