-- What accounts have come to, with one credit more.
use Rattle.society_closings.specs.Closings.{row_of_account}
use Rattle.std.proofs.Common.{◌≡◌, ◌∙◌, ◌+◌, ℕ, pos, Bool, true, false, cond, List, [], ◌∷◌, ◌++◌, Option, Some, None, Vec, refl, ap, sym, bytes_eq, unwrap_or}
use Rattle.std.proofs.lemmas.List.{append-nil}
use Rattle.std.proofs.lemmas.List.Elements.{filter-append}
use Rattle.std.proofs.lemmas.List.Sums.{sum_by_push}
use Rattle.std.proofs.lemmas.Slice.Eq.{bytes_eq-Decides}
use Rattle.std.specs.BTreeMap.{BTreeMap}
use Rattle.std.specs.List.{sum_by}
use Rattle.std.specs.declared.alloc.Global.{Global}
use Rattle.pool_split.specs.Credits.{units_of}
use Rattle.pool_split.specs.declared.claim.Credit.{Credit}
use Rattle.sqlite_value.specs.declared.value.Value.TheVariants.{Int, Text}
use Rattle.sqlite_value.specs.Order.{Row}
use Rattle.society_book.specs.BookRows.{row_of_some}
use Rattle.society_book.specs.DerivedRows.{balance_rows_by}
use Rattle.society_book.proofs.lemmas.rows_alike.KeyRows.{either_way}
use Rattle.work_ids.specs.Account.{account_text}
use Rattle.book_audit.specs.Balances.{balance_row, row_by_units, to_account, units_at}

no_row : (row : Row) → ◌≡◌ {A = List Row} [] (row ∷ []) → ⊥
no_row row e = cc

one_sum : (a : List ℕ) (n m : ℕ) → ◌≡◌ {A = List Row} ((Text a ∷ Int (pos n) ∷ []) ∷ []) ((Text a ∷ Int (pos m) ∷ []) ∷ []) → n ≡ m
one_sum a n m e = cc

-- the units in the row of some credits are theirs
sum_kept : (a : List ℕ) (o : Option ℕ) (cs : List Credit) → row_of_some (balance_row a) o ≡ balance_rows_by a cs → unwrap_or o 0 ≡ sum_by units_of cs
sum_kept a None [] e = refl
sum_kept a None (c ∷ cs) e = absurd (no_row _ e)
sum_kept a (Some n) [] e = absurd (no_row _ (sym e))
sum_kept a (Some n) (c ∷ cs) e = one_sum a n (sum_by units_of (c ∷ cs)) e

last_one : (a : List ℕ) (cs : List Credit) (c : Credit) → balance_rows_by a (cs ++ c ∷ []) ≡ (Text a ∷ Int (pos (sum_by units_of cs + c.units)) ∷ []) ∷ []
last_one a [] c = ap (λ (n : ℕ). (Text a ∷ Int (pos n) ∷ []) ∷ []) (sum_by_push units_of [] c)
last_one a (d ∷ ds) c = ap (λ (n : ℕ). (Text a ∷ Int (pos n) ∷ []) ∷ []) (sum_by_push units_of (d ∷ ds) c)

-- the rows of accounts once the units of a credit are added
pub comes_more : (old new : BTreeMap (Vec ℕ Global) ℕ) (done : List Credit) (c : Credit) (text : List ℕ) → text ≡ account_text c.account
    → ((q : List ℕ) → units_at new q ≡ cond (bytes_eq text q) (Some (unwrap_or (units_at old text) 0 + c.units)) (units_at old q))
    → ((q : List ℕ) → row_by_units old q ≡ row_of_account done q) → (q : List ℕ) → row_by_units new q ≡ row_of_account (done ++ c ∷ []) q
comes_more old new done c text is added comes q =
    ap (row_of_some (balance_row q)) (added q) ∙ by_case (bytes_eq text q) refl ∙ ap (balance_rows_by q) (sym told)
  where
    told : to_account q (done ++ c ∷ []) ≡ to_account q done ++ cond (bytes_eq text q) (c ∷ []) []
    told = filter-append (λ credit. bytes_eq q (account_text credit.account)) done (c ∷ []) ∙ ap (λ (x : Bool). to_account q done ++ cond x (c ∷ []) []) (ap (bytes_eq q) (sym is) ∙ either_way q text)

    by_case : (b : Bool) → bytes_eq text q ≡ b → row_of_some (balance_row q) (cond b (Some (unwrap_or (units_at old text) 0 + c.units)) (units_at old q)) ≡ balance_rows_by q (to_account q done ++ cond b (c ∷ []) [])
    by_case true e =
        ap (λ (n : ℕ). (Text q ∷ Int (pos (n + c.units)) ∷ []) ∷ [])
        (ap (λ (l : List ℕ). unwrap_or (units_at old l) 0) ((bytes_eq-Decides text q).0 e) ∙ sum_kept q (units_at old q) (to_account q done) (comes q))
        ∙ sym (last_one q (to_account q done) c)
    by_case false e = comes q ∙ ap (balance_rows_by q) (sym (append-nil (to_account q done)))
