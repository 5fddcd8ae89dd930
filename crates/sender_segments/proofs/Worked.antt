-- Worked ways.
use Rattle.std.proofs.Common.{◌≡◌, ℕ, ◌==◌, ◌||◌, Bool, true, false, cond, [], ◌∷◌, Some, None, refl}
use Rattle.sender_segments.specs.Ways.{StatedEnds, is_reached, leads_to, numbers_up_to}

-- plain numbers end with 1, and 26 comes next
abbrev stated : StatedEnds
stated g = cond (g == 0) (Some (record { last = 1; next = 27 })) None

abbrev there : ℕ → Bool
there n = (n == 1) || (n == 1260001) || (n == 1250001)

goes_over : numbers_up_to stated 1260001 ≡ 1 ∷ 1260001 ∷ []
goes_over = refl

year_begun : numbers_up_to stated 1260000 ≡ 1 ∷ []
year_begun = refl

is_there : is_reached there stated 1260001 ≡ true
is_there = refl

next_is_not : is_reached there stated 1260002 ≡ false
next_is_not = refl

skipped : leads_to stated 1250001 ≡ false
skipped = refl
