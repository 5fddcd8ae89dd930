-- Numbers, their segments and their places there.
use Rattle.std.proofs.Common.{◌≡◌, ℕ, zero, suc, ◌+◌, ◌-◌, ◌/◌, ◌<◌, ◌≤◌, cond, ap, sym, subst, ◌∙◌, arith, ⊎_elim}
use Rattle.std.proofs.lemmas.Bool.{cases_lt, lt-ltb, le-ltb}
use Rattle.work_ids.specs.Segments.{base_of, greatest_rank, most_in, segment_of, sequence_of}

-- segments come one behind another
pub bases_rise : (g : ℕ) → base_of g + most_in g < base_of (suc g)
bases_rise zero = omega arith
bases_rise (suc y) = omega arith

-- a later segment begins behind a former one
pub bases_order : (g k : ℕ) → base_of g + most_in g < base_of (suc g + k)
bases_order g zero = let e : suc g ≡ suc g + 0 = omega arith in subst (λ (h : ℕ). base_of g + most_in g < base_of h) e (bases_rise g)
bases_order g (suc k) =
    let e : suc (suc g + k) ≡ suc g + suc k = omega arith in
    subst (λ (h : ℕ). base_of g + most_in g < base_of h) e (omega (arith, bases_order g k, bases_rise (suc g + k)))

-- what a number is made of
pub record IsMade (n : ℕ) (g k : ℕ) : Type 0 where
  pub is : base_of g + k ≡ n
  pub within : k ≤ most_in g

pub made_plain : (n : ℕ) → n < 1000000 → segment_of n ≡ 0
made_plain n h = ap (λ b. cond b 0 ((n - 1000000) / 10000 + 1)) (lt-ltb n 1000000 h)

pub made_dated : (n : ℕ) → 1000000 ≤ n → segment_of n ≡ suc ((n - 1000000) / 10000)
made_dated n h = ap (λ b. cond b 0 ((n - 1000000) / 10000 + 1)) (le-ltb n 1000000 h) ∙ (omega arith)

-- the segment of a number that is made of one
pub segment_is : (g k : ℕ) → k ≤ most_in g → segment_of (base_of g + k) ≡ g
segment_is zero k h = made_plain (0 + k) (omega (arith, h))
segment_is (suc y) k h =
    let n : ℕ = base_of (suc y) + k in
    made_dated n (omega arith) ∙ ap suc (let e : (n - 1000000) / 10000 ≡ y = omega (arith, h) in e)

-- every number is made of its segment and its place there
pub number_is : (n : ℕ) → IsMade n (segment_of n) (sequence_of n)
number_is n = ⊎_elim plain dated (cases_lt n 1000000)
  where
    plain : n < 1000000 → IsMade n (segment_of n) (sequence_of n)
    plain h = subst (λ (g : ℕ). IsMade n g (n - base_of g)) (sym (made_plain n h)) (record { is = omega (arith, h); within = omega (arith, h) })

    dated : 1000000 ≤ n → IsMade n (segment_of n) (sequence_of n)
    dated h = subst (λ (g : ℕ). IsMade n g (n - base_of g)) (sym (made_dated n h)) (record { is = omega (arith, h); within = omega (arith, h) })

-- a number that is not the base of a segment has one before it in its segment
pub room_before : (n : ℕ) → 1 ≤ sequence_of (n + 1) → sequence_of n < most_in (segment_of n)
room_before n some =
    ⊎_elim
    (λ (room : sequence_of n < most_in (segment_of n)). room)
    (λ (full : most_in (segment_of n) ≤ sequence_of n).
    let a = number_is n in
    let on = next_base (segment_of n) in
    let g = segment_of n in
    let at : base_of (suc g) + 0 ≡ n + 1 = omega (arith, a.is, a.within, full, on) in
    let its : segment_of (n + 1) ≡ suc g = ap segment_of (sym at) ∙ segment_is (suc g) 0 (omega arith) in
    let b = number_is (n + 1) in
    let same : base_of (segment_of (n + 1)) ≡ base_of (suc g) = ap base_of its in
    absurd (omega (arith, b.is, same, at, some)))
    (cases_lt (sequence_of n) (most_in (segment_of n)))
  where
    next_base : (g : ℕ) → base_of (suc g) ≡ (base_of g + most_in g) + 1
    next_base zero = omega arith
    next_base (suc y) = omega arith

-- bases of segments to the last year
pub base_within : (g : ℕ) → g ≤ 100 → base_of g ≤ greatest_rank
base_within zero h = omega arith
base_within (suc y) h = omega (arith, h)
