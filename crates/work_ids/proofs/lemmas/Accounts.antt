-- The text of an account, read back.
use Rattle.std.proofs.Common.{◌≡◌, ℕ, ◌-◌, ◌<◌, Bool, true, false, ◌&&◌, ◌||◌, not, eqb, nat_le, List, ◌++◌, length, take, drop, get_or, Ok, refl, ap, ◌∙◌, arith, IsTrue, eqb-true, ne_eqb, suc}
use Rattle.std.specs.List.{list_all}
use Rattle.std.proofs.lemmas.Bool.Decides.{nat_tests}
use Rattle.std.proofs.lemmas.List.{take_at, drop_at, get_or-take, length-append}
use Rattle.work_ids.specs.Account.{account_of, account_text, ipi_account_of, is_spelled, is_trimmed_printable, party_account_of}
use Rattle.work_ids.specs.Blanks.{fill, is_blank_byte, without_trailing_blanks}
use Rattle.work_ids.specs.Characters.{is_capital_or_digit, is_printable}
use Rattle.work_ids.specs.IpiName.{is_ipi_name, is_ipi_number}
use Rattle.work_ids.specs.PartyNumber.{is_party_number}
use Rattle.work_ids.specs.SenderKey.{is_sender_key}
use Rattle.work_ids.specs.declared.account.Account.TheVariants.{Ipi, Party}
use Rattle.work_ids.proofs.lemmas.Trailing.{left, length-left, left_pass, filled_again, some_left}
use Rattle.work_ids.proofs.lemmas.Refilled.{left_last}
use Rattle.std.proofs.lemmas.Bool.{and_parts}

one_or_more : (n : ℕ) → eqb (suc n) 0 ≡ false
one_or_more n = ne_eqb (suc n) 0 (λ e. absurd (omega arith))

pub ipi_back : (digits : List ℕ) → is_ipi_number digits ≡ true → account_of (account_text (Ipi digits)) ≡ Ok (Ipi digits)
unfolding ipi_account_of
ipi_back digits h =
    let parts = and_parts (eqb (length digits) 11) (is_ipi_name digits) h in
    rw (one_or_more (length digits), parts.0, parts.1) refl

front_printed : (all blank : Bool) → (all || not blank) ≡ true → all ≡ false → blank ≡ false
front_printed true blank h other = cc
front_printed false true h other = cc
front_printed false false h other = refl

three : (a b c : Bool) → a ≡ true → b ≡ false → c ≡ false → (a && not b && not c) ≡ true
three a b c x y z = rw (x, y, z) refl

left_trimmed : (bytes : List ℕ) → list_all is_printable bytes ≡ true → is_blank_byte (get_or bytes 0 0) ≡ false → 0 < left bytes → is_trimmed_printable (without_trailing_blanks bytes) ≡ true
unfolding is_trimmed_printable
left_trimmed bytes printable front some =
    let m : List ℕ = without_trailing_blanks bytes in
    let first = ap is_blank_byte (get_or-take (left bytes) bytes 0 0 some) ∙ front in
    let last = left_last bytes (omega (arith, length-left bytes, some)) in
    three (list_all is_printable m) (is_blank_byte (get_or m 0 0)) (is_blank_byte (get_or m (length m - 1) 0)) (left_pass is_printable bytes printable) first last

party_read : (bytes sender number : List ℕ) → take 11 bytes ≡ sender → drop 11 bytes ≡ number → nat_le 12 (length bytes) ≡ true → nat_le (length bytes) 20 ≡ true → list_all is_capital_or_digit sender ≡ true → is_trimmed_printable number ≡ true → party_account_of bytes ≡ Ok (Party sender (fill 9 number))
unfolding party_account_of
party_read bytes sender number s n low high key printed = rw (low, high, s, n, key, printed) refl

pub party_back : (sender number : List ℕ) → is_sender_key sender ≡ true → is_party_number number ≡ true → IsTrue (is_spelled (Party sender number)) → account_of (account_text (Party sender number)) ≡ Ok (Party sender number)
unfolding is_party_number
party_back sender number k n spelled =
    let sized = and_parts (eqb (length sender) 11) (list_all is_capital_or_digit sender) k in
    let eleven = eqb-true (length sender) 11 sized.0 in
    let whole = and_parts (eqb (length number) 9 && list_all is_printable number) (list_all is_blank_byte number || not (is_blank_byte (get_or number 0 0))) n in
    let parts = and_parts (eqb (length number) 9) (list_all is_printable number) whole.0 in
    let nine = eqb-true (length number) 9 parts.0 in
    let other : list_all is_blank_byte number ≡ false = grind arith in
    let some = some_left number other in
    let m : List ℕ = without_trailing_blanks number in
    let trimmed = left_trimmed number parts.1 (front_printed (list_all is_blank_byte number) (is_blank_byte (get_or number 0 0)) whole.1 other) some in
    let size = length-append sender m in
    let rest = length-left number in
    let low : nat_le 12 (length (sender ++ m)) ≡ true = grind (arith, nat_tests) in
    let high : nat_le (length (sender ++ m)) 20 ≡ true = grind (arith, nat_tests) in
    let read = party_read (sender ++ m) sender m (take_at sender m 11 eleven) (drop_at sender m 11 eleven) low high sized.1 trimmed in
    rw (one_or_more (length (sender ++ m))) (read ∙ ap (λ (t : List ℕ). Ok (Party sender t)) (filled_again 9 number nine))
