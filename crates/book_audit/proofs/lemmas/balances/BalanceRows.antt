-- Rows of balances, gone over one after another, beside the units that are left.
use Rattle.std.proofs.Common.{◌≡◌, ◌∙◌, ◌<◌, ℕ, zero, suc, Bool, true, false, cond, List, [], ◌∷◌, ◌++◌, Option, Some, None, Vec, filter, get_or, length, take, refl, ap, subst, sym, arith, bytes_eq, IsPermutation}
use Rattle.std.proofs.lemmas.List.{append-nil, append_cancel_left}
use Rattle.std.proofs.lemmas.List.Elements.{filter-append}
use Rattle.std.proofs.lemmas.List.Sorted.{IsPermutation-refl, IsPermutation-trans}
use Rattle.std.proofs.lemmas.Slice.Eq.{bytes_eq-Decides}
use Rattle.std.specs.BTreeMap.{BTreeMap}
use Rattle.std.specs.declared.alloc.Global.{Global}
use Rattle.sqlite_keyed.proofs.ListLemmas.{IsPermutation-filter}
use Rattle.sqlite_value.specs.Order.{Row}
use Rattle.society_book.specs.BookRows.{row_of_some}
use Rattle.society_book.specs.Columns.{HasRows, text_at}
use Rattle.society_book.specs.DerivedRows.{is_named}
use Rattle.society_book.proofs.lemmas.rows_alike.RowLemmas.{only}
use Rattle.book_audit.specs.Balances.{balance_row, row_by_units, units_at}
use Rattle.book_audit.proofs.lemmas.balances.TextKeys.{nothing_left, units_of_nothing}

abbrev pub Units : Type 0
Units = BTreeMap (Vec ℕ Global) ℕ

-- the rows gone over so far, with those of what is left, are those of all units
abbrev pub AreSoFar : Units → Units → List Row → Type 0
AreSoFar units left rows = (q : List ℕ) → filter (is_named q) rows ++ row_by_units left q ≡ row_by_units units q

-- a list about the one at a place
pub parted : {X : Type 0} (xs : List X) (i : ℕ) (x : X) → i < length xs → x ≡ get_or xs i x → (rest : List X) × (xs ≡ take i xs ++ x ∷ rest)
parted [] i x within is = absurd (omega (arith, within))
parted (y ∷ xs) zero x within is = (xs, ap (λ z. z ∷ xs) (sym is))
parted (y ∷ xs) (suc i) x within is = let more = parted xs i x (omega (arith, within)) is in (more.0, ap (λ l. y ∷ l) more.1)

own_name : (row : Row) → is_named (text_at 0 row) row ≡ true
own_name row = (bytes_eq-Decides (text_at 0 row) (text_at 0 row)).1 refl

-- the row of a key stands alone
alone : (q : List ℕ) (o : Option ℕ) (row : Row) (more : List Row) → row_of_some (balance_row q) o ≡ row ∷ more → row_of_some (balance_row q) o ≡ row ∷ []
alone q None row more e = absurd (let x = e in cc)
alone q (Some n) row more e = let same : balance_row q n ≡ row = cc in ap (λ (r : Row). r ∷ []) same

no_units : (q : List ℕ) (o : Option ℕ) → row_of_some (balance_row q) o ≡ [] → o ≡ None
no_units q None e = refl
no_units q (Some n) e = absurd (let x = e in cc)

module _ (units left : Units) (rows : List Row) where
  pub so_far_more : (new : Units) (row : Row) → row_by_units left (text_at 0 row) ≡ row ∷ []
      → ((q : List ℕ) → units_at new q ≡ cond (bytes_eq (text_at 0 row) q) None (units_at left q)) → AreSoFar units left rows → AreSoFar units new (rows ++ row ∷ [])
  so_far_more new row there taken so_far q =
      ap (λ (l : List Row). l ++ row_by_units new q) (filter-append (is_named q) rows (row ∷ []))
      ∙ ap (λ (o : Option ℕ). (filter (is_named q) rows ++ cond (is_named q row) (row ∷ []) []) ++ row_of_some (balance_row q) o) (taken q)
      ∙ by_case (bytes_eq (text_at 0 row) q) refl ∙ so_far q
    where
      front : List Row
      front = filter (is_named q) rows

      by_case : (b : Bool) → bytes_eq (text_at 0 row) q ≡ b → (front ++ cond b (row ∷ []) []) ++ row_of_some (balance_row q) (cond b None (units_at left q)) ≡ front ++ row_by_units left q
      by_case true e = append-nil (front ++ row ∷ []) ∙ ap (λ (l : List Row). front ++ l) (subst (λ (l : List ℕ). row ∷ [] ≡ row_by_units left l) ((bytes_eq-Decides (text_at 0 row) q).0 e) (sym there))
      by_case false e = ap (λ (l : List Row). l ++ row_by_units left q) (append-nil front)

  -- where the rows are those of the units, the next row is that of what is left
  pub next_there : (row : Row) (more : List Row) → AreSoFar units left rows → HasRows is_named (row_by_units units) (rows ++ row ∷ more) → row_by_units left (text_at 0 row) ≡ row ∷ []
  next_there row more so_far has =
      let q = text_at 0 row in
      let all : filter (is_named q) (rows ++ row ∷ more) ≡ row_by_units units q = only (balance_row q) (units_at units q) (filter (is_named q) (rows ++ row ∷ more)) (has q) in
      let parts : filter (is_named q) (rows ++ row ∷ more) ≡ filter (is_named q) rows ++ row ∷ filter (is_named q) more =
      filter-append (is_named q) rows (row ∷ more) ∙ ap (λ (b : Bool). filter (is_named q) rows ++ cond b (row ∷ filter (is_named q) more) (filter (is_named q) more)) (own_name row) in
      alone q (units_at left q) row (filter (is_named q) more) (append_cancel_left (filter (is_named q) rows) (row_by_units left q) (row ∷ filter (is_named q) more) (so_far q ∙ sym all ∙ parts))

  -- where they are all, nothing is left
  pub all_taken : AreSoFar units left rows → HasRows is_named (row_by_units units) rows → length left.entries ≡ 0
  all_taken so_far has =
      nothing_left left (λ q. no_units q (units_at left q) (append_cancel_left (filter (is_named q) rows) (row_by_units left q) []
      (so_far q ∙ sym (only (balance_row q) (units_at units q) (filter (is_named q) rows) (has q)) ∙ sym (append-nil (filter (is_named q) rows)))))

  -- and where nothing is left, they are
  pub are_all : AreSoFar units left rows → length left.entries ≡ 0 → HasRows is_named (row_by_units units) rows
  are_all so_far none q =
      let same : row_by_units units q ≡ filter (is_named q) rows =
      sym (so_far q) ∙ ap (λ (o : Option ℕ). filter (is_named q) rows ++ row_of_some (balance_row q) o) (units_of_nothing left none q) ∙ append-nil (filter (is_named q) rows) in
      subst (IsPermutation (row_by_units units q)) same (IsPermutation-refl (row_by_units units q))

-- rows in another order are those of the same keys
pub in_order : (expected : List ℕ → List Row) (xs ys : List Row) → IsPermutation xs ys → HasRows is_named expected xs → HasRows is_named expected ys
in_order expected xs ys moved has q =
    IsPermutation-trans (expected q) (filter (is_named q) xs) (filter (is_named q) ys) (has q) (IsPermutation-filter (is_named q) xs ys moved)
