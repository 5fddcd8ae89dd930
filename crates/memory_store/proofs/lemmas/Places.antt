-- Places in a log that rise: fewer of them, and one more at the end.
use Rattle.std.proofs.Common.{◌≡◌, ℕ, zero, suc, ◌-◌, ◌<◌, ◌≤◌, All, List, [], ◌∷◌, ◌++◌, take, length, get_or, refl, ◌∙◌, arith, inl, inr, eq-or-lt_of_le, take_all, slice_get, None}
use Rattle.std.proofs.lemmas.List.{length_push, take-append-le, get_or_default}

-- each place is at or behind those before it
abbrev pub Rise : List ℕ → Type 0
Rise marks = (i j : ℕ) → i ≤ j → j < length marks → get_or marks i 0 ≤ get_or marks j 0

pub taken_within : {X : Type 0} (n : ℕ) (xs : List X) (i : ℕ) → i < length (take n xs) → i < length xs
taken_within zero xs i low = absurd (omega arith)
taken_within (suc n) [] i low = absurd (omega arith)
taken_within (suc n) (x ∷ xs) zero low = omega arith
taken_within (suc n) (x ∷ xs) (suc i) low = omega (arith, taken_within n xs i (omega arith))

pub taken_at : {X : Type 0} (n : ℕ) (xs : List X) (i : ℕ) (d : X) → i < length (take n xs) → get_or (take n xs) i d ≡ get_or xs i d
taken_at zero xs i d low = absurd (omega arith)
taken_at (suc n) [] i d low = absurd (omega arith)
taken_at (suc n) (x ∷ xs) zero d low = refl
taken_at (suc n) (x ∷ xs) (suc i) d low = taken_at n xs i d (omega arith)

pub rise_taken : (n : ℕ) (marks : List ℕ) → Rise marks → Rise (take n marks)
rise_taken n marks h i j a b = rw (taken_at n marks i 0 (omega arith), taken_at n marks j 0 b) (h i j a (taken_within n marks j b))

pushed_at : (marks : List ℕ) (n i d : ℕ) → i < length marks → get_or (marks ++ n ∷ []) i d ≡ get_or marks i d
pushed_at [] n i d low = absurd (omega arith)
pushed_at (m ∷ marks) n zero d low = refl
pushed_at (m ∷ marks) n (suc i) d low = pushed_at marks n i d (omega arith)

pushed_last : (marks : List ℕ) (n d : ℕ) → get_or (marks ++ n ∷ []) (length marks) d ≡ n
pushed_last [] n d = refl
pushed_last (m ∷ marks) n d = pushed_last marks n d

pub within_pushed : (most : ℕ) (marks : List ℕ) → All (λ m. m ≤ most) marks → All (λ m. m ≤ most) (marks ++ most ∷ [])
within_pushed most marks h k d low =
    let past : k ≤ length marks = omega (arith, length_push marks most) in
    elim (eq-or-lt_of_le past) [ inl same ↦ rw (same, pushed_last marks most d) (omega arith) | inr below ↦ rw (pushed_at marks most k d below) (h k d below) ]

pub rise_pushed : (most : ℕ) (marks : List ℕ) → All (λ m. m ≤ most) marks → Rise marks → Rise (marks ++ most ∷ [])
rise_pushed most marks within h i j a b =
    let past : j ≤ length marks = omega (arith, length_push marks most) in
    elim (eq-or-lt_of_le past) [
      | inl same ↦ rw (same, pushed_last marks most 0) (within_pushed most marks within i 0 (omega arith))
      | inr below ↦ rw (pushed_at marks most i 0 (omega arith), pushed_at marks most j 0 below) (h i j a below)
    ]

-- the last one taken back
pub unpushed : (marks : List ℕ) (n : ℕ) → take (length (marks ++ n ∷ []) - 1) (marks ++ n ∷ []) ≡ marks
unpushed marks n =
    let less : length (marks ++ n ∷ []) - 1 ≡ length marks = omega (arith, length_push marks n) in
    rw less (take-append-le (length marks) marks (n ∷ []) (omega arith) ∙ take_all (length marks) marks (omega arith))

-- where there is no last one there is none
pub no_last : (marks : List ℕ) → slice_get marks (length marks - 1) ≡ None → marks ≡ []
no_last [] none = refl
no_last (m ∷ marks) none = absurd (go (m ∷ marks) (length (m ∷ marks) - 1) (omega arith) none)
  where
    go : (xs : List ℕ) (k : ℕ) → k < length xs → slice_get xs k ≡ None → ⊥
    go [] k low h = absurd (omega arith)
    go (x ∷ xs) zero low h = absurd (cc)
    go (x ∷ xs) (suc k) low h = go xs k (omega arith) h

-- no place is past the last
pub below_last : (marks : List ℕ) → Rise marks → All (λ n. n ≤ get_or marks (length marks - 1) 0) marks
below_last marks rise k d low = omega (arith, rise k (length marks - 1) (omega arith) (omega arith), get_or_default marks k d 0 low)
