-- Rows with fresh rowids, put into a table.
use Rattle.std.proofs.Common.{◌≡◌, true, false, List, [], ◌∷◌, ◌++◌, Ordering, Less, Equal, Greater, IsPermutation, true≢false, inl, inr}
use Rattle.std.specs.List.{AllByRecursion}
use Rattle.std.specs.Ordering.{is_eq, match_ordering}
use Rattle.std.proofs.lemmas.Bool.{and_parts, or_parts, not-true}
use Rattle.std.proofs.lemmas.List.Sorted.{IsPermutation-refl, IsPermutation-cons, IsPermutation-trans, IsPermutation-sym, IsPermutation-middle, IsPermutation-append_right}
use Rattle.sqlite_value.specs.Order.{Row, value_cmp}
use Rattle.sqlite_trees.specs.Tree.{rowid, put_row}
use Rattle.sqlite_trees.specs.View.{is_int}
use Rattle.sqlite_rules.specs.Edit.{put_all, is_taken, are_fresh, have_rowids}
use Rattle.sqlite_rules.proofs.ListLemmas.{all_has, all_from, test_has}
use Rattle.sqlite_rules.proofs.TableLemmas.{put_all_has}

put_permutes : (new : Row) (rows : List Row) → is_taken rows new ≡ false → IsPermutation (new ∷ rows) (put_row new rows)
put_permutes new [] free = IsPermutation-refl (new ∷ [])
put_permutes new (r ∷ rows) free = go (value_cmp (rowid r) (rowid new)) (or_parts _ _ free).0 (put_permutes new rows (or_parts _ _ free).1)
  where
    go : (o : Ordering) → is_eq o ≡ false → IsPermutation (new ∷ rows) (put_row new rows) → IsPermutation (new ∷ r ∷ rows) (match_ordering o (r ∷ put_row new rows) (new ∷ rows) (new ∷ r ∷ rows))
    go Less other more = IsPermutation-trans _ _ _ (IsPermutation-middle (new ∷ []) r rows) (IsPermutation-cons r _ _ more)
    go Equal other more = absurd (true≢false other)
    go Greater other more = IsPermutation-refl _

pub put_all_permutes : (news rows : List Row) → are_fresh rows news ≡ true → IsPermutation (news ++ rows) (put_all rows news)
put_all_permutes [] rows fresh = IsPermutation-refl rows
put_all_permutes (n ∷ news) rows fresh =
    let parts = and_parts _ _ fresh in
    IsPermutation-trans _ _ _ (IsPermutation-sym _ _ (IsPermutation-middle news n rows))
    (IsPermutation-trans _ _ _ (IsPermutation-append_right news _ _ (put_permutes n rows (not-true _ parts.0))) (put_all_permutes news (put_row n rows) parts.1))

pub put_all_numbered : (news rows : List Row) → have_rowids news ≡ true → AllByRecursion (λ r. is_int (rowid r) ≡ true) rows → AllByRecursion (λ r. is_int (rowid r) ≡ true) (put_all rows news)
put_all_numbered news rows new old =
    all_from _ (put_all rows news) (λ x has. elim (put_all_has news rows x has) [ inl here ↦ test_has _ news x new here | inr there ↦ all_has _ rows x old there ])
