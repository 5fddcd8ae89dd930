-- Worked values: amounts split over weights, and a pool credited.
use Rattle.std.specs.Prelude.{◌≡◌, ◌∷◌, [], Some, None, codes, refl}
use Rattle.work_ids.specs.declared.account.Account.TheVariants.{Unclaimed}
use Rattle.pool_split.specs.Credits.{credits}
use Rattle.pool_split.specs.Split.{split_of}

thirds : split_of 100 (1 ∷ 1 ∷ 1 ∷ []) ≡ 34 ∷ 33 ∷ 33 ∷ []
unfolding split_of
thirds = refl

-- one unit goes to the greatest remainder, though it stands last
one_unit : split_of 1 (3333 ∷ 3333 ∷ 3334 ∷ []) ≡ 0 ∷ 0 ∷ 1 ∷ []
unfolding split_of
one_unit = refl

-- the first of two equal remainders goes before the second, and both before a smaller one
three_units : split_of 3 (5000 ∷ 2500 ∷ 2500 ∷ []) ≡ 1 ∷ 1 ∷ 1 ∷ []
unfolding split_of
three_units = refl

-- weights above the whole, and a weight of zero
weights_above : split_of 10006 (3335 ∷ 3335 ∷ 3336 ∷ 0 ∷ []) ≡ 3335 ∷ 3335 ∷ 3336 ∷ 0 ∷ []
unfolding split_of
weights_above = refl

nothing : split_of 0 (1 ∷ 0 ∷ []) ≡ 0 ∷ 0 ∷ []
unfolding split_of
nothing = refl

-- the limits of amount and total
limits : split_of 1000000000000 (1 ∷ 999999999999999999 ∷ []) ≡ 0 ∷ 1000000000000 ∷ []
unfolding split_of
limits = refl

odd_unit : split_of 1001 (5000 ∷ 5000 ∷ 0 ∷ []) ≡ 501 ∷ 500 ∷ 0 ∷ []
unfolding split_of
odd_unit = refl

-- a pool over no recording is nobody's
no_recording : credits 5 [] ≡ record { isrc = None; account = Unclaimed; units = 5 } ∷ []
unfolding credits
no_recording = refl

-- two recordings without owners: the first of two equal remainders goes up
two_recordings : credits 10 (record { isrc = codes "ATABC2600001"; points = 100; holders = None } ∷ record { isrc = codes "GBXYZ2600002"; points = 300; holders = None } ∷ [])
    ≡ record { isrc = Some (codes "ATABC2600001"); account = Unclaimed; units = 3 } ∷ record { isrc = Some (codes "GBXYZ2600002"); account = Unclaimed; units = 7 } ∷ []
unfolding credits split_of
two_recordings = refl
