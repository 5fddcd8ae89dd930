-- Numbered faults, each with the sentence that holds where it is there.
use Rattle.std.specs.Prelude.{ℕ, Bool, List, [], ◌∷◌, Option, Some, None, if◌then◌else◌}

-- a fault's number, and whether its sentence holds
pub record Sentence : Type 0 where
  pub fault : ℕ
  pub holds : Bool

-- a numbered sentence
abbrev pub sentence : ℕ → Bool → Sentence
sentence fault holds = record { fault = fault; holds = holds }

-- the fault of the first sentence that holds; of sentences in the order of their numbers, the least
abbrev pub first_that_holds : List Sentence → Option ℕ
first_that_holds [] = None
first_that_holds (s ∷ more) = if s.holds then Some s.fault else first_that_holds more
