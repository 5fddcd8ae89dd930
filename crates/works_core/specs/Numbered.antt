-- The transmissions of a line under their numbers, which rise along it.
use Rattle.std.specs.Prelude.{ℕ, ◌<◌, ◌==◌, Bool, List, [], ◌∷◌, filter, nat_le}
use Rattle.std.specs.List.{list_any}
use Rattle.works_core.specs.declared.judged.Judged.{Judged}

-- a transmission of a line: its number, and what is judged of its transactions, in the order of the file
pub record JudgedTransmission : Type 0 where
  pub number : ℕ
  pub judged : List Judged

-- the transmissions of a line up to a number
abbrev pub up_to : ℕ → List JudgedTransmission → List JudgedTransmission
up_to number line = filter (λ x. nat_le x.number number) line

-- whether a line has a transmission under a number
abbrev pub has_number : ℕ → List JudgedTransmission → Bool
has_number number line = list_any (λ x. x.number == number) line

-- the last number of a line, and another one where it has none
abbrev pub last_number : ℕ → List JudgedTransmission → ℕ
last_number other [] = other
last_number other (x ∷ line) = last_number x.number line

-- the numbers of a line rise, the first from above a number
abbrev pub IsRising : ℕ → List JudgedTransmission → Type 0
IsRising low [] = Unit {0}
IsRising low (x ∷ line) = (low < x.number) × IsRising x.number line
