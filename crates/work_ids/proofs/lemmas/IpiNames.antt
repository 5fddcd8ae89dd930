-- IPI name numbers that are filled with zeros.
use Rattle.std.proofs.Common.{◌≡◌, ℕ, ◌-◌, ◌≤◌, Bool, true, ◌&&◌, List, ◌++◌, length, replicate, refl, ap, ◌∙◌, arith, eq-eqb}
use Rattle.std.specs.List.{list_all}
use Rattle.std.proofs.lemmas.List.{length-append, length-replicate}
use Rattle.std.proofs.lemmas.List.Folds.{list_all-append}
use Rattle.work_ids.proofs.lemmas.Trailing.{copies_pass}
use Rattle.work_ids.specs.Characters.{is_digit}
use Rattle.work_ids.specs.IpiName.{eleven_digits, is_ipi_name, is_ipi_number, is_zero}

behind_zeros : (test : ℕ → Bool) → test 48 ≡ true → (n : ℕ) (digits : List ℕ) → list_all test (replicate n 48 ++ digits) ≡ list_all test digits
behind_zeros test here n digits =
    list_all-append test (replicate n 48) digits ∙ ap (λ (t : Bool). t && list_all test digits) (copies_pass test 48 here n)

-- digits that are no number are none with zeros in front
pub ipi_filled : (digits : List ℕ) → length digits ≤ 11 → is_ipi_name digits ≡ true → is_ipi_number (eleven_digits digits) ≡ true
ipi_filled digits room name =
    let size : length (eleven_digits digits) ≡ 11 = omega (arith, length-append (replicate (11 - length digits) 48) digits, length-replicate {A = ℕ} (11 - length digits) 48) in
    rw (eq-eqb (length (eleven_digits digits)) 11 size, behind_zeros is_digit refl (11 - length digits) digits, behind_zeros is_zero refl (11 - length digits) digits) name
