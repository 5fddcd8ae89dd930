-- The accounts that money is credited to.
use Rattle.std.specs.Prelude.{ℕ, Bool, true, List, [], ◌∷◌, ◌++◌, ◌-◌, Result, Ok, Err, length, take, drop, slice_index, not, if◌then◌else◌, ◌==◌, ◌&&◌, nat_le}
use Rattle.std.specs.List.{list_all}
use Rattle.std.specs.Str.{bytes_eq}
use Rattle.work_ids.specs.Blanks.{is_blank_byte, fill, without_trailing_blanks}
use Rattle.work_ids.specs.Characters.{is_printable, is_capital_or_digit}
use Rattle.work_ids.specs.IpiName.{is_ipi_name}
use Rattle.work_ids.specs.declared.account.Account.{Account}
use Rattle.work_ids.specs.declared.account.Account.TheVariants.{Ipi, Party, Unclaimed}
use Rattle.work_ids.specs.declared.fault.IdFault.{IdFault}
use Rattle.work_ids.specs.declared.fault.IdFault.TheVariants.{Length, Character}

-- the text of the account of what nobody claims: UNCLAIMED (profile)
abbrev pub unclaimed : List ℕ
unclaimed = 85 ∷ 78 ∷ 67 ∷ 76 ∷ 65 ∷ 73 ∷ 77 ∷ 69 ∷ 68 ∷ []

-- printable ASCII with no blank at either end (profile)
unfoldable pub is_trimmed_printable : List ℕ → Bool
is_trimmed_printable bytes =
    list_all is_printable bytes && not (is_blank_byte (slice_index bytes 0)) && not (is_blank_byte (slice_index bytes (length bytes - 1)))

-- a sender key and the number that this sender gives a party (profile)
abbrev pub is_party : List ℕ → Bool
is_party bytes = list_all is_capital_or_digit (take 11 bytes) && is_trimmed_printable (drop 11 bytes)

-- the account of an IPI name number, by its text without the I (profile)
unfoldable pub ipi_account_of : List ℕ → Result Account IdFault
ipi_account_of digits = if length digits == 11 then (if is_ipi_name digits then Ok (Ipi digits) else Err Character) else Err Length

-- the account of a sender's party, by its text without the P (profile)
unfoldable pub party_account_of : List ℕ → Result Account IdFault
party_account_of bytes =
    if nat_le 12 (length bytes) && nat_le (length bytes) 20 then (if is_party bytes then Ok (Party (take 11 bytes) (fill 9 (drop 11 bytes))) else Err Character) else Err Length

-- the account of a text that begins with a byte; only I and P begin one (profile)
abbrev pub account_behind : ℕ → List ℕ → Result Account IdFault
account_behind first rest =
    if first == 73 then ipi_account_of rest else (if first == 80 then party_account_of rest else Err Character)

-- the account of a text: UNCLAIMED; or I and eleven digits, not all zeros; or P, a sender key and a party number of 1 to 9 bytes; where a text is none, the least refusal that holds (profile)
abbrev pub account_of : List ℕ → Result Account IdFault
account_of text =
    if bytes_eq text unclaimed then Ok Unclaimed else (if length text == 0 then Err Length else account_behind (slice_index text 0) (drop 1 text))

-- the text of an account (profile)
abbrev pub account_text : Account → List ℕ
account_text (Ipi digits) = 73 ∷ digits
account_text (Party sender number) = 80 ∷ (sender ++ without_trailing_blanks number)
account_text Unclaimed = unclaimed

-- an account that a text can spell: a party's number is not blank (profile)
abbrev pub is_spelled : Account → Bool
is_spelled (Ipi digits) = true
is_spelled (Party sender number) = not (list_all is_blank_byte number)
is_spelled Unclaimed = true
