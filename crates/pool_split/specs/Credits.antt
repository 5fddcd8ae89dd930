-- The credits of a pool: who is credited how much of its amount, and for which recording.
use Rattle.std.specs.Prelude.{ℕ, ◌≤◌, All, List, [], ◌∷◌, Option, Some, None, ⊤, map, sum}
use Rattle.std.specs.Cmp.Lexicographic.{slice_cmp}
use Rattle.std.specs.List.{flat_map, zip}
use Rattle.std.specs.List.Sorted.{IsStrictlySortedBy}
use Rattle.std.specs.Ordering.{nat_cmp}
use Rattle.share_rules.specs.declared.holder.Holder.{Holder}
use Rattle.work_ids.specs.declared.account.Account.TheVariants.{Unclaimed}
use Rattle.pool_split.specs.Split.{split_of}
use Rattle.pool_split.specs.declared.claim.Claim.{Claim}
use Rattle.pool_split.specs.declared.claim.Credit.{Credit}

-- the weights of holders
abbrev pub weights_in : List Holder → List ℕ
weights_in holders = map (λ h. h.weight) holders

-- the points of claims
abbrev pub points_claimed : List Claim → List ℕ
points_claimed claims = map (λ claim. claim.points) claims

-- the units of a credit
abbrev pub units_of : Credit → ℕ
units_of credit = credit.units

-- the credit of a holder with its part
abbrev pub holder_credit : List ℕ → Holder × ℕ → Credit
holder_credit isrc held = record { isrc = Some isrc; account = held.0.account; units = held.1 }

-- one credit to nobody
abbrev pub lone_credit : Option (List ℕ) → ℕ → List Credit
lone_credit isrc units = record { isrc = isrc; account = Unclaimed; units = units } ∷ []

-- the credits by the holders
abbrev pub claim_credits_by : List ℕ → Option (List Holder) → ℕ → List Credit
claim_credits_by isrc None units = lone_credit (Some isrc) units
claim_credits_by isrc (Some holders) units = map (holder_credit isrc) (zip holders (split_of units (weights_in holders)))

-- the credits of a recording that is paid so many units: split over its holders' weights, zeros included, or nobody's (profile)
abbrev pub claim_credits : Claim → ℕ → List Credit
claim_credits claim units = claim_credits_by claim.isrc claim.holders units

-- the credits of a portion: those of a claim that is paid so many units, nobody's where there is no claim (profile)
abbrev pub portion_credits : Option Claim → ℕ → List Credit
portion_credits None units = lone_credit None units
portion_credits (Some claim) units = claim_credits claim units

-- the credits of portions, one portion after another
abbrev pub credits_together : List (List Credit) → List Credit
credits_together portions = flat_map (λ credits. credits) portions

-- the credits of recordings that are paid these parts
abbrev pub paid_credits : List Claim → List ℕ → List Credit
paid_credits claims parts = flat_map (λ paid. claim_credits paid.0 paid.1) (zip claims parts)

-- the credits of a pool: the amount split over the recordings by their points, each part credited; nobody's where there are none (profile)
unfoldable pub credits : ℕ → List Claim → List Credit
credits amount [] = lone_credit None amount
credits amount (claim ∷ claims) = paid_credits (claim ∷ claims) (split_of amount (points_claimed (claim ∷ claims)))

-- holders, where there are some, have weights of at least one and at most 10 to the 18 in all
abbrev pub HasWeights : Option (List Holder) → Type 0
HasWeights None = ⊤
HasWeights (Some holders) = (1 ≤ sum (weights_in holders)) × (sum (weights_in holders) ≤ 1000000000000000000)

-- the units of a portion can be split: they are at most 10 to the 12, and the holders of its claim have weights
abbrev pub CanBeSplit : Option Claim → ℕ → Type 0
CanBeSplit None units = units ≤ 1000000000000
CanBeSplit (Some claim) units = (units ≤ 1000000000000) × HasWeights claim.holders

-- claims ascend by the bytes of their ISRCs, so that none has an ISRC twice (profile)
abbrev pub Ascend : List Claim → Type 0
Ascend claims = IsStrictlySortedBy (slice_cmp nat_cmp) (map (λ claim. claim.isrc) claims)

-- a claim can be paid: it has points, and its holders have weights
pub record IsPayable (claim : Claim) : Type 0 where
  pub points : 1 ≤ claim.points
  pub holders : HasWeights claim.holders

-- claims can be paid: they ascend by ISRC, each can be paid, and their points come to at most 10 to the 18 in all
pub record ArePayable (claims : List Claim) : Type 0 where
  pub ascending : Ascend claims
  pub payable : All IsPayable claims
  pub points : sum (points_claimed claims) ≤ 1000000000000000000
