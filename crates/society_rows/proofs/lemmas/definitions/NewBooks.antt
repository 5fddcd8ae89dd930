-- A new book.
use Rattle.std.proofs.Common.{inl, map, IsPermutation, ◌≡◌, [], ◌∷◌, refl, subst, ◌∙◌, inl}
use Rattle.sqlite_rules.proofs.ListLemmas.{all_has, all_from}
use Rattle.sqlite_rules.specs.Lists.{Has}
use Rattle.sqlite_value.specs.Order.{Row}
use Rattle.sqlite.specs.Effect.{Database}
use Rattle.sqlite.proofs.Callers.{one_permutation}
use Rattle.society_rows.specs.Layout.{all_tables, office}
use Rattle.society_rows.specs.Layouts.{HasFirst, IsFirst}
use Rattle.society_rows.specs.NewBook.{Begins, IsBare, IsEmptyBook}
use Rattle.society_rows.specs.Stored.{Adds, rows_in, values_of}

-- no table is none of the first
pub bare_first : (d : Database) → IsBare d → HasFirst 0 d
unfolding IsFirst
bare_first d bare = inl (inl bare)

office_listed : Has all_tables office
unfolding all_tables
office_listed = inl refl

-- the first row in empty tables
pub begins : (row : Row) (d e : Database) → IsEmptyBook d → Adds office (row ∷ []) d e → Begins row e
begins row d e none more =
    let empty : d.trees office.tree ≡ [] = all_has _ all_tables office none.empty office_listed in
    record {
      layout = more.layout;
      book = record {
        registered = one_permutation row (rows_in office e.trees) (subst (λ l. IsPermutation (row ∷ map (values_of office) l) (rows_in office e.trees)) empty more.rows);
        empty = all_from _ all_tables (λ t has other. all_has _ all_tables t more.others has other ∙ all_has _ all_tables t none.empty has);
      };
    }
