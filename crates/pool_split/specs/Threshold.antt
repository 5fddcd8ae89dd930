-- Representation, not meaning: a threshold of remainders, by which the places that get a unit are found.
use Rattle.std.specs.Prelude.{ℕ, ◌≡◌, ◌≤◌, ◌+◌, ◌-◌, ◌==◌, ◌&&◌, ◌||◌, Bool, List, count_by, get_or, if◌then◌else◌, length, map, min, nat_lt, take}
use Rattle.std.specs.List.{range_with_len}
use Rattle.pool_split.specs.declared.threshold.Threshold.{Threshold}

-- a threshold gives so many units: the remainders above it and its ties, of which there are enough
pub record IsThreshold (remainders : List ℕ) (units : ℕ) (threshold : Threshold) : Type 0 where
  pub units_are : count_by (nat_lt threshold.remainder) remainders + threshold.ties ≡ units
  pub some : 1 ≤ threshold.ties
  pub enough : threshold.ties ≤ count_by (λ other. threshold.remainder == other) remainders

-- whether a place with this remainder gets a unit, where so many ties are left
abbrev pub takes_unit : ℕ → ℕ → ℕ → Bool
takes_unit bound ties remainder = nat_lt bound remainder || (remainder == bound && nat_lt 0 ties)

-- the ties that are left at a place
abbrev pub ties_at : List ℕ → Threshold → ℕ → ℕ
ties_at remainders threshold place = threshold.ties - count_by (λ other. threshold.remainder == other) (take place remainders)

-- the unit that a place gets by a threshold
abbrev pub threshold_unit : List ℕ → Threshold → ℕ → ℕ
threshold_unit remainders threshold place = if takes_unit threshold.remainder (ties_at remainders threshold place) (get_or remainders place 0) then 1 else 0

-- the whole units of a place, with its unit by a threshold
abbrev pub threshold_part : List ℕ → List ℕ → Threshold → ℕ → ℕ
threshold_part quotients remainders threshold place = get_or quotients place 0 + threshold_unit remainders threshold place

-- the parts that a threshold makes
abbrev pub threshold_parts : List ℕ → List ℕ → Threshold → List ℕ
threshold_parts quotients remainders threshold = map (threshold_part quotients remainders threshold) (range_with_len 0 (length quotients))

-- the units that a threshold gives
abbrev pub units_of_threshold : List ℕ → Threshold → ℕ
units_of_threshold remainders threshold = count_by (nat_lt threshold.remainder) remainders + min threshold.ties (count_by (λ other. threshold.remainder == other) remainders)
