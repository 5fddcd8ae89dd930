-- A whole amount split over weights: the whole units of each part, and the units that these leave, to the greatest remainders.
use Rattle.std.specs.Prelude.{ℕ, ◌≡◌, ◌<◌, ◌+◌, ◌-◌, ◌*◌, ◌/◌, ◌%◌, ◌==◌, List, count_by, get_or, if◌then◌else◌, length, map, nat_lt, sum, take}
use Rattle.std.specs.List.{range_with_len}

-- the whole units of a part: amount times weight, divided by the total (profile)
abbrev pub quotient : ℕ → ℕ → ℕ → ℕ
quotient amount total weight = amount * weight / total

-- what they leave of amount times weight
abbrev pub remainder : ℕ → ℕ → ℕ → ℕ
remainder amount total weight = amount * weight % total

-- the whole units of each part
abbrev pub quotients : ℕ → List ℕ → List ℕ
quotients amount weights = map (quotient amount (sum weights)) weights

-- the remainder of each part
abbrev pub remainders : ℕ → List ℕ → List ℕ
remainders amount weights = map (remainder amount (sum weights)) weights

-- the units that the whole units leave of the amount
abbrev pub left : ℕ → List ℕ → ℕ
left amount weights = amount - sum (quotients amount weights)

-- how many places go before a place: those with a greater remainder, and those before it with an equal one (profile)
abbrev pub places_before : List ℕ → ℕ → ℕ
places_before remainders place =
    count_by (nat_lt (get_or remainders place 0)) remainders + count_by (λ other. get_or remainders place 0 == other) (take place remainders)

-- the unit that a place gets on top: one where fewer places go before it than there are units
abbrev pub unit : List ℕ → ℕ → ℕ → ℕ
unit remainders units place = if nat_lt (places_before remainders place) units then 1 else 0

-- a part: its whole units, and one of those that are left where it is among the first (profile)
abbrev pub part : ℕ → List ℕ → ℕ → ℕ
part amount weights place = get_or (quotients amount weights) place 0 + unit (remainders amount weights) (left amount weights) place

-- the parts of an amount, one for each weight (profile)
unfoldable pub split_of : ℕ → List ℕ → List ℕ
split_of amount weights = map (part amount weights) (range_with_len 0 (length weights))

-- a part differs from its share by less than one unit: total times part from amount times weight by less than the total
abbrev pub IsNear : ℕ → ℕ → ℕ → ℕ → Type 0
IsNear total amount weight part = (total * part < amount * weight + total) × (amount * weight < total * part + total)

-- the parts add up to the amount, a weight of zero gets nothing, and each part is near its share
pub record IsFair (amount : ℕ) (weights parts : List ℕ) : Type 0 where
  pub whole : sum parts ≡ amount
  pub nothing : (place : ℕ) → get_or weights place 0 ≡ 0 → get_or parts place 0 ≡ 0
  pub near : (place : ℕ) → place < length weights → IsNear (sum weights) amount (get_or weights place 0) (get_or parts place 0)
