-- A row of balances beside the units that are left at its account.
use Rattle.std.proofs.Common.{◌≡◌, ◌∙◌, ◌==◌, ℕ, ℤ, pos, negsuc, List, [], ◌∷◌, Option, Some, None, length, refl, ap, ap₂, true, arith, nat_abs, sym}
use Rattle.std.proofs.lemmas.Bool.{false≢true}
use Rattle.std.proofs.lemmas.Bool.Decides.{Decides-eqb}
use Rattle.std.specs.Int.{FitsUnsignedBits}
use Rattle.std.specs.Option.{option_eq}
use Rattle.sqlite_value.specs.declared.value.Value.{Value}
use Rattle.sqlite_value.specs.declared.value.Value.TheVariants.{Int, Text}
use Rattle.sqlite_value.specs.Order.{Row, column}
use Rattle.society_book.specs.BookRows.{row_of_some}
use Rattle.society_book.specs.Columns.{text_at, text_of}
use Rattle.book_audit.specs.Balances.{balance_row, row_by_units, units_at}
use Rattle.book_audit.proofs.lemmas.balances.BalanceRows.{Units}

-- a number that fits no sign is one from 0
pub is_whole : (z : ℤ) (n : ℕ) → FitsUnsignedBits 64 z → n ≡ nat_abs z → z ≡ pos n
is_whole (pos m) n fits is = ap pos (sym is)
is_whole (negsuc m) n fits is = absurd fits

two_columns : (row : Row) → length row ≡ 2 → row ≡ column row 0 ∷ column row 1 ∷ []
two_columns [] two = absurd (omega (arith, two))
two_columns (v ∷ []) two = absurd (omega (arith, two))
two_columns (v ∷ w ∷ []) two = refl
two_columns (v ∷ w ∷ x ∷ row) two = absurd (omega (arith, two))

one_row : (row other : Row) → ◌≡◌ {A = List Row} (row ∷ []) (other ∷ []) → row ≡ other
one_row row other e = cc

no_row : (row : Row) → ◌≡◌ {A = List Row} [] (row ∷ []) → ⊥
no_row row e = cc

same_units : (n m : ℕ) → ◌≡◌ {A = Value} (Int (pos n)) (Int (pos m)) → n ≡ m
same_units n m e = cc

-- a row of two columns, an account and its units, beside those that are left
module _ (left : Units) (row : Row) (two : length row ≡ 2) (account : List ℕ) (first : Text account ≡ column row 0) (units : ℕ) (second : Int (pos units) ≡ column row 1) where
  named : row_by_units left (text_at 0 row) ≡ row_of_some (balance_row account) (units_at left account)
  named = ap (row_by_units left) (ap text_of (sym first))

  formed : balance_row account units ≡ row
  formed = ap₂ (λ (v w : Value). v ∷ w ∷ []) first second ∙ sym (two_columns row two)

  -- it is wanted where the account has just these units left
  pub is_wanted : units_at left account ≡ Some units → row_by_units left (text_at 0 row) ≡ row ∷ []
  is_wanted kept = named ∙ ap (row_of_some (balance_row account)) kept ∙ ap (λ (r : Row). r ∷ []) formed

  -- and nowhere else
  pub wanted_is : row_by_units left (text_at 0 row) ≡ row ∷ [] → units_at left account ≡ Some units
  wanted_is is = by_units (units_at left account) (sym named ∙ is)
    where
      by_units : (o : Option ℕ) → row_of_some (balance_row account) o ≡ row ∷ [] → o ≡ Some units
      by_units None e = absurd (no_row row e)
      by_units (Some n) e = ap Some (same_units n units (ap (λ (r : Row). column r 1) (one_row (balance_row account n) row e ∙ sym formed)))

-- a row that is wanted has two columns
pub wanted_width : (left : Units) (row : Row) → row_by_units left (text_at 0 row) ≡ row ∷ [] → length row ≡ 2
wanted_width left row is = by_units (units_at left (text_at 0 row)) is
  where
    by_units : (o : Option ℕ) → row_of_some (balance_row (text_at 0 row)) o ≡ row ∷ [] → length row ≡ 2
    by_units None e = absurd (no_row row e)
    by_units (Some n) e = sym (ap (λ (r : Row). length r) (one_row (balance_row (text_at 0 row) n) row e))

-- whether these units were found
pub is_found : (o : Option ℕ) (n : ℕ) → option_eq ◌==◌ o (Some n) ≡ true → o ≡ Some n
is_found None n e = absurd (false≢true e)
is_found (Some m) n e = ap Some ((Decides-eqb m n).0 e)

pub found_is : (o : Option ℕ) (n : ℕ) → o ≡ Some n → option_eq ◌==◌ o (Some n) ≡ true
found_is o n e = ap (λ (x : Option ℕ). option_eq ◌==◌ x (Some n)) e ∙ (Decides-eqb n n).1 refl
