-- A row is the list of its columns.
use Rattle.std.proofs.Common.{◌≡◌, ◌∙◌, ℕ, List, [], ◌∷◌, ◌++◌, length, map, refl, ap}
use Rattle.std.proofs.lemmas.List.{map-append}
use Rattle.sqlite_value.specs.declared.value.ValueRef.{ValueRef}
use Rattle.sqlite.specs.Values.{bound}
use Rattle.std.specs.List.{range_with_len}
use Rattle.std.proofs.lemmas.Int.{to_z-of_z}
use Rattle.std.proofs.lemmas.List.FromFn.{fill_by_all}
use Rattle.sqlite_value.specs.declared.value.Value.TheVariants.{Null}
use Rattle.sqlite_value.specs.Order.{Row, column}

columns_are : (r : Row) (n : ℕ) → length r ≡ n → r ≡ map (column r) (range_with_len 0 n)
columns_are r n long = fill_by_all (column r) r n Null long (λ k low. refl)

pub columns_1 : (r : Row) → length r ≡ 1 → r ≡ column r 0 ∷ []
columns_1 r = columns_are r 1

pub columns_2 : (r : Row) → length r ≡ 2 → r ≡ column r 0 ∷ column r 1 ∷ []
columns_2 r = columns_are r 2

pub columns_3 : (r : Row) → length r ≡ 3 → r ≡ column r 0 ∷ column r 1 ∷ column r 2 ∷ []
columns_3 r = columns_are r 3

pub columns_4 : (r : Row) → length r ≡ 4 → r ≡ column r 0 ∷ column r 1 ∷ column r 2 ∷ column r 3 ∷ []
columns_4 r = columns_are r 4

pub columns_5 : (r : Row) → length r ≡ 5 → r ≡ column r 0 ∷ column r 1 ∷ column r 2 ∷ column r 3 ∷ column r 4 ∷ []
columns_5 r = columns_are r 5

pub columns_6 : (r : Row) → length r ≡ 6 → r ≡ column r 0 ∷ column r 1 ∷ column r 2 ∷ column r 3 ∷ column r 4 ∷ column r 5 ∷ []
columns_6 r = columns_are r 6

-- what makes a row of its columns
pub ruleset row_columns = (columns_1, columns_2, columns_3, columns_4, columns_5, columns_6, to_z-of_z)

-- the values of two rows, one after the other
pub bound_pair : (values one two : List ValueRef) (first second : Row) → values ≡ one ++ (two ++ []) → bound one ≡ first → bound two ≡ second → bound values ≡ first ++ (second ++ [])
bound_pair values one two first second are is then =
    ap bound are ∙ map-append _ one (two ++ []) ∙ (λ i. is i ++ (map-append _ two [] ∙ (λ j. then j ++ [])) i)
