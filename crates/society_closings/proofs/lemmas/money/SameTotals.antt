-- Credits that come to the same balances.
use Rattle.std.proofs.Common.{◌≡◌, ◌∙◌, ◌+◌, ℕ, pos, Bool, true, false, cond, List, [], ◌∷◌, ◌++◌, refl, ap, ap₂, sym, subst, bytes_eq, arith, IsPermutation}
use Rattle.std.specs.List.{sum_by}
use Rattle.std.proofs.lemmas.List.Elements.{filter-append}
use Rattle.std.proofs.lemmas.List.Sums.{sum_by-append, sum_by_push}
use Rattle.pool_split.specs.Credits.{units_of}
use Rattle.pool_split.specs.declared.claim.Credit.{Credit}
use Rattle.sqlite_keyed.proofs.ListLemmas.{IsPermutation-filter}
use Rattle.sqlite_value.specs.declared.value.Value.TheVariants.{Int, Text}
use Rattle.sqlite_value.specs.Order.{Row}
use Rattle.society_closings.specs.Closings.{ComeToTheSame}
use Rattle.society_book.specs.DerivedRows.{balance_rows_by}
use Rattle.society_closings.proofs.lemmas.money.BalanceAdds.{of_account, same_balance}
use Rattle.work_ids.specs.Account.{account_text}
use Rattle.work_ids.specs.declared.account.Account.{Account}

no_row : (row : Row) → ◌≡◌ {A = List Row} [] (row ∷ []) → ⊥
no_row row e = cc

one_sum : (a : List ℕ) (n m : ℕ) → ◌≡◌ {A = List Row} ((Text a ∷ Int (pos n) ∷ []) ∷ []) ((Text a ∷ Int (pos m) ∷ []) ∷ []) → n ≡ m
one_sum a n m e = cc

-- of credits that make one row the units are the same
same_sum : (a : List ℕ) (xs ys : List Credit) → balance_rows_by a xs ≡ balance_rows_by a ys → sum_by units_of xs ≡ sum_by units_of ys
same_sum a [] [] e = refl
same_sum a [] (y ∷ ys) e = absurd (no_row _ e)
same_sum a (x ∷ xs) [] e = absurd (no_row _ (sym e))
same_sum a (x ∷ xs) (y ∷ ys) e = one_sum a (sum_by units_of (x ∷ xs)) (sum_by units_of (y ∷ ys)) e

-- so they make one row with others behind them that do
both_rows : (a : List ℕ) (xs ys us vs : List Credit) → balance_rows_by a xs ≡ balance_rows_by a ys → balance_rows_by a us ≡ balance_rows_by a vs → balance_rows_by a (xs ++ us) ≡ balance_rows_by a (ys ++ vs)
both_rows a [] [] us vs e d = d
both_rows a [] (y ∷ ys) us vs e d = absurd (no_row _ e)
both_rows a (x ∷ xs) [] us vs e d = absurd (no_row _ (sym e))
both_rows a (x ∷ xs) (y ∷ ys) us vs e d =
    ap (λ (n : ℕ). (Text a ∷ Int (pos n) ∷ []) ∷ [])
    (sum_by-append units_of (x ∷ xs) us ∙ ap₂ (λ (n m : ℕ). n + m) (same_sum a (x ∷ xs) (y ∷ ys) e) (same_sum a us vs d) ∙ sym (sum_by-append units_of (y ∷ ys) vs))

told_apart : (a : List ℕ) (xs ys : List Credit) → of_account a (xs ++ ys) ≡ of_account a xs ++ of_account a ys
told_apart a xs ys = filter-append (λ credit. bytes_eq a (account_text credit.account)) xs ys

-- what comes to the same does so with what comes to the same behind it
pub same_behind : (xs ys us vs : List Credit) → ComeToTheSame xs ys → ComeToTheSame us vs → ComeToTheSame (xs ++ us) (ys ++ vs)
same_behind xs ys us vs one two a =
    ap (balance_rows_by a) (told_apart a xs us) ∙ both_rows a (of_account a xs) (of_account a ys) (of_account a us) (of_account a vs) (one a) (two a) ∙ ap (balance_rows_by a) (sym (told_apart a ys vs))

pub same_itself : (xs : List Credit) → ComeToTheSame xs xs
same_itself xs a = refl

-- credits come to the same in another order
pub same_in_order : (xs ys : List Credit) → IsPermutation xs ys → ComeToTheSame ys xs
same_in_order xs ys moved a =
    sym (same_balance a (of_account a xs) (of_account a ys) (IsPermutation-filter (λ credit. bytes_eq a (account_text credit.account)) xs ys moved))

joined : (k n m : ℕ) → k + (n + m) ≡ (k + n) + m
joined k n m = omega arith

sum_of_two : (x y : Credit) → sum_by units_of (x ∷ y ∷ []) ≡ sum_by units_of [] + (x.units + y.units)
sum_of_two x y = sum_by_push units_of (x ∷ []) y ∙ ap (λ (n : ℕ). n + y.units) (sum_by_push units_of [] x) ∙ sym (joined (sum_by units_of []) x.units y.units)

merged_row : (a : List ℕ) (total credit both : Credit) (mine : Bool) → both.units ≡ total.units + credit.units
    → balance_rows_by a (cond mine (both ∷ []) []) ≡ balance_rows_by a (cond mine (total ∷ cond mine (credit ∷ []) []) (cond mine (credit ∷ []) []))
merged_row a total credit both false e = refl
merged_row a total credit both true e =
    ap (λ (n : ℕ). (Text a ∷ Int (pos n) ∷ []) ∷ [])
    (sum_by_push units_of [] both ∙ ap (λ (n : ℕ). sum_by units_of [] + n) e ∙ sym (sum_of_two total credit))

-- two credits of one account come to one of both their units
pub same_merged : (total credit both : Credit) → total.account ≡ credit.account → both.account ≡ total.account → both.units ≡ total.units + credit.units → ComeToTheSame (both ∷ []) (total ∷ credit ∷ [])
same_merged total credit both one its units a =
    subst (λ (x : Account). balance_rows_by a (cond (bytes_eq a (account_text x)) (both ∷ []) []) ≡ balance_rows_by a (cond (bytes_eq a (account_text total.account)) (total ∷ cond (bytes_eq a (account_text credit.account)) (credit ∷ []) []) (cond (bytes_eq a (account_text credit.account)) (credit ∷ []) []))) (sym its)
    (subst (λ (x : Account). balance_rows_by a (cond (bytes_eq a (account_text total.account)) (both ∷ []) []) ≡ balance_rows_by a (cond (bytes_eq a (account_text total.account)) (total ∷ cond (bytes_eq a (account_text x)) (credit ∷ []) []) (cond (bytes_eq a (account_text x)) (credit ∷ []) []))) one
    (merged_row a total credit both (bytes_eq a (account_text total.account)) units))
