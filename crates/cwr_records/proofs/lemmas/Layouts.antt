-- Facts on layouts and on the rows that are written by them.
use Rattle.std.proofs.Common.{◌≡◌, ℕ, ◌+◌, ◌-◌, ◌<◌, ◌≤◌, true, eqb, leb, ◌&&◌, List, [], ◌∷◌, length, get_or, arith, suc, zero, IsTrue}
use Rattle.std.proofs.lemmas.Bool.Decides.{nat_tests}
use Rattle.cwr_records.specs.declared.layout.Position.{Position}
use Rattle.cwr_records.specs.Layouts.{is_wide, nowhere}

and3 : (a b c d e f : ℕ) → (leb a b && leb c d && eqb e f) ≡ true → (a ≤ b) × (c ≤ d) × (e ≡ f)
and3 a b c d e f h = (grind (arith, nat_tests), grind (arith, nat_tests), grind (arith, nat_tests))

pub record IsWide (ps : List Position) (index width : ℕ) (p : Position) : Type 0 where
  pub within : index < length ps
  pub from_one : 1 ≤ p.from
  pub in_order : p.from ≤ p.to
  pub wide : p.to + 1 - p.from ≡ width

-- what the test of a position's width tells
pub is_wide-tells : (ps : List Position) (index width : ℕ) → IsTrue (is_wide ps index width) → IsWide ps index width (get_or ps index nowhere)
is_wide-tells [] index width h = cc
is_wide-tells (p ∷ ps) zero width h =
    let parts = and3 1 p.from p.from p.to (p.to + 1 - p.from) width h in
    record { within = omega arith; from_one = parts.0; in_order = parts.1; wide = parts.2 }
is_wide-tells (p ∷ ps) (suc index) width h =
    let more = is_wide-tells ps index width h in
    record { within = omega arith; from_one = more.from_one; in_order = more.in_order; wide = more.wide }
