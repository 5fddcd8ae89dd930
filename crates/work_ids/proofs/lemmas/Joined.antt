-- Tests that are joined.
use Rattle.std.proofs.Common.{◌≡◌, Bool, true, ◌&&◌}
use Rattle.std.proofs.lemmas.Bool.{and_parts}

-- four tests that all pass
pub four_true : (a b c d : Bool) → (((a && b) && c) && d) ≡ true → (a ≡ true) × (b ≡ true) × (c ≡ true) × (d ≡ true)
four_true a b c d h =
    let all = and_parts ((a && b) && c) d h in
    let three = and_parts (a && b) c all.0 in
    let two = and_parts a b three.0 in
    (two.0, two.1, three.1, all.1)
