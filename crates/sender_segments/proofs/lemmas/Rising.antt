-- Numbers that rise.
use Rattle.std.proofs.Common.{◌≡◌, ℕ, zero, suc, ◌+◌, ◌≤◌, List, [], ◌∷◌, ◌++◌, ap, ap₂, subst, ◌∙◌, arith}
use Rattle.std.specs.List.{range_with_len}
use Rattle.sender_segments.specs.Ascends.{Ascends}

pub rises_on : (a b c : ℕ) (xs ys : List ℕ) → Ascends a xs b → Ascends b ys c → Ascends a (xs ++ ys) c
rises_on a b c [] ys le rising = from_lower a b c ys le rising
  where
    from_lower : (a b c : ℕ) (ys : List ℕ) → a ≤ b → Ascends b ys c → Ascends a ys c
    from_lower a b c [] le rising = omega (arith, le, rising)
    from_lower a b c (y ∷ ys) le rising = (let x = rising.0 in omega (arith, le, x), rising.1)
rises_on a b c (x ∷ xs) ys rising more = (rising.0, rises_on x b c xs ys rising.1 more)

pub rises_to : (a b c : ℕ) (xs : List ℕ) → Ascends a xs b → b ≤ c → Ascends a xs c
rises_to a b c [] rising le = omega (arith, rising, le)
rises_to a b c (x ∷ xs) rising le = (rising.0, rises_to x b c xs rising.1 le)

-- numbers from one on
pub range_rises : (a len : ℕ) → Ascends a (range_with_len (a + 1) len) (a + len)
range_rises a zero = omega arith
range_rises a (suc len) = (omega arith, let e : (a + 1) + len ≡ a + suc len = omega arith in subst (λ (m : ℕ). Ascends (a + 1) (range_with_len ((a + 1) + 1) len) m) e (range_rises (a + 1) len))

-- numbers from one on, cut in two
pub range_split : (from a b : ℕ) → range_with_len from (a + b) ≡ range_with_len from a ++ range_with_len (from + a) b
range_split from zero b = ap₂ range_with_len (let e : from ≡ from + 0 = omega arith in e) (let e : 0 + b ≡ b = omega arith in e)
range_split from (suc a) b =
    ap (range_with_len from) (let e : suc a + b ≡ suc (a + b) = omega arith in e)
    ∙ ap (λ l. from ∷ l) (range_split (from + 1) a b ∙ ap (λ n. range_with_len (from + 1) a ++ range_with_len n b) (let e : (from + 1) + a ≡ from + suc a = omega arith in e))
