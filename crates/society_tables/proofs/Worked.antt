-- Worked values of the rows of tables.
use Rattle.std.proofs.Common.{◌≡◌, pos, [], ◌∷◌, None, codes, refl}
use Rattle.pool_split.specs.declared.claim.Credit.{Credit}
use Rattle.sqlite_value.specs.declared.value.Value.TheVariants.{Null, Int, Text, Blob}
use Rattle.society_core.specs.Keys.{return_key, transmission_key}
use Rattle.society_book.specs.BookRows.{cut_row, paid_row, return_key_of, return_row, transmission_entry, transmission_row}
use Rattle.society_book.specs.Columns.{whole_number_at, text_at}
use Rattle.society_book.specs.DerivedRows.{balance_rows_by, credit_row, verdict_row}
use Rattle.work_ids.specs.Blanks.{fill}
use Rattle.work_ids.specs.declared.account.Account.TheVariants.{Unclaimed}
use Rattle.works_core.specs.declared.verdict.Verdict.TheVariants.{Accepted, Rejected}

-- a transmission is read back from its row
transmission_back : transmission_entry (transmission_row (transmission_key (codes "PB000000012") 3) (codes "HDR")) ≡ (transmission_key (codes "PB000000012") 3, codes "HDR")
transmission_back = refl

-- a reporter stands without the blanks that fill it, and is filled again
reporter_text : return_row (return_key (fill 20 (codes "RADIO1")) 7) [] ≡ Text (codes "RADIO1") ∷ Int (pos 7) ∷ Blob [] ∷ []
reporter_text = refl

reporter_back : return_key_of (return_row (return_key (fill 20 (codes "RADIO1")) 7) []) ≡ return_key (fill 20 (codes "RADIO1")) 7
reporter_back = refl

-- a cut, and a return that is paid
cut : cut_row 7 (transmission_key (codes "PB000000012") 3) ≡ Int (pos 7) ∷ Text (codes "PB000000012") ∷ Int (pos 3) ∷ []
cut = refl

paid : paid_row 7 (return_key (fill 20 (codes "RADIO1")) 1) ≡ Text (codes "RADIO1") ∷ Int (pos 1) ∷ Int (pos 7) ∷ []
paid = refl

-- a rejected transaction has its fault, an accepted one its ordinal and its revision
rejected : verdict_row (codes "PB000000012") 2 0 (Rejected 21) ≡ Text (codes "PB000000012") ∷ Int (pos 2) ∷ Int (pos 0) ∷ Int (pos 21) ∷ Int (pos 0) ∷ Int (pos 0) ∷ []
rejected = refl

accepted : verdict_row (codes "PB000000012") 2 1 (Accepted 4 1) ≡ Text (codes "PB000000012") ∷ Int (pos 2) ∷ Int (pos 1) ∷ Int (pos 0) ∷ Int (pos 4) ∷ Int (pos 1) ∷ []
accepted = refl

unclaimed : Credit
unclaimed = record { isrc = None; account = Unclaimed; units = 5 }

-- what has no ISRC has a dash
no_isrc : credit_row 7 2 unclaimed ≡ Int (pos 7) ∷ Int (pos 2) ∷ Text (codes "-") ∷ Text (codes "UNCLAIMED") ∷ Int (pos 5) ∷ []
unfolding unclaimed
no_isrc = refl

-- an account has a row once a credit names it, and its units are their sum
nobody : balance_rows_by (codes "UNCLAIMED") [] ≡ []
nobody = refl

two_credits : balance_rows_by (codes "UNCLAIMED") (unclaimed ∷ unclaimed ∷ []) ≡ (Text (codes "UNCLAIMED") ∷ Int (pos 10) ∷ []) ∷ []
unfolding unclaimed
two_credits = refl

-- a value of another form shows nothing
other_form : text_at 0 (Null ∷ []) ≡ []
other_form = refl

other_number : whole_number_at 0 (Text (codes "7") ∷ []) ≡ 0
other_number = refl
