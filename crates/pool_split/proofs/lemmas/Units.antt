-- The units of credits.
use Rattle.std.proofs.Common.{◌≡◌, ℕ, ◌+◌, ◌<◌, ◌≤◌, All, List, [], ◌∷◌, ◌++◌, None, length, map, sum, refl, ap, ◌∙◌, arith}
use Rattle.std.specs.List.{zip}
use Rattle.std.proofs.lemmas.List.{map-append}
use Rattle.std.proofs.lemmas.List.Sums.{sum_by-append, sum_by-cons}
use Rattle.share_rules.specs.declared.holder.Holder.{Holder}
use Rattle.pool_split.specs.Credits.{IsPayable, credits, holder_credit, lone_credit, paid_credits, points_claimed, units_of}
use Rattle.pool_split.specs.Split.{split_of}
use Rattle.pool_split.specs.declared.claim.Claim.{Claim}
use Rattle.pool_split.specs.declared.claim.Credit.{Credit}

-- the units of holders' credits are their parts
pub held_units : (isrc : List ℕ) (hs : List Holder) (parts : List ℕ) → length parts ≡ length hs → sum (map units_of (map (holder_credit isrc) (zip hs parts))) ≡ sum parts
held_units isrc [] [] same = refl
held_units isrc [] (p ∷ parts) same = absurd (omega arith)
held_units isrc (h ∷ hs) [] same = absurd (omega arith)
held_units isrc (h ∷ hs) (p ∷ parts) same =
    omega (
      arith,
      sum_by-cons (λ (n : ℕ). n) p (map units_of (map (holder_credit isrc) (zip hs parts))),
      sum_by-cons (λ (n : ℕ). n) p parts,
      held_units isrc hs parts (omega arith),
    )

-- the units of credits behind others
pub units_append : (cs ds : List Credit) → sum (map units_of (cs ++ ds)) ≡ sum (map units_of cs) + sum (map units_of ds)
units_append cs ds = ap sum (map-append units_of cs ds) ∙ sum_by-append (λ (n : ℕ). n) (map units_of cs) (map units_of ds)

-- a pool of no recordings, and one of some
pub no_claims : (amount : ℕ) (claims : List Claim) → length claims ≡ 0 → credits amount claims ≡ lone_credit None amount
unfolding credits
no_claims amount [] none = refl
no_claims amount (claim ∷ claims) none = absurd (omega arith)

pub some_claims : (amount : ℕ) (claims : List Claim) → 0 < length claims → credits amount claims ≡ paid_credits claims (split_of amount (points_claimed claims))
unfolding credits
some_claims amount [] some = absurd (omega arith)
some_claims amount (claim ∷ claims) some = refl

-- claims have points where there are some
pub some_points : (claims : List Claim) → 0 < length claims → All IsPayable claims → 1 ≤ sum (points_claimed claims)
some_points [] some payable = absurd (omega arith)
some_points (claim ∷ claims) some payable =
    let first = payable 0 claim some in
    omega (arith, first.points, sum_by-cons (λ (n : ℕ). n) claim.points (points_claimed claims))
