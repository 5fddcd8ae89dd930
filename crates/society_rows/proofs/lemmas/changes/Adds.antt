-- Rows that are added, and then more.
use Rattle.std.proofs.Common.{List, [], ◌++◌, refl, sym, subst, ◌∙◌, append_assoc, IsPermutation}
use Rattle.std.proofs.lemmas.List.Sorted.{IsPermutation-refl, IsPermutation-trans, IsPermutation-append_right, IsPermutation-append_comm}
use Rattle.sqlite_value.specs.Order.{Row}
use Rattle.sqlite_schema.specs.declared.schema.Table.{Table}
use Rattle.sqlite_rules.proofs.ListLemmas.{all_has, all_from}
use Rattle.sqlite.specs.Effect.{Database}
use Rattle.society_rows.specs.Layout.{all_tables}
use Rattle.society_rows.specs.Stored.{rows_in, HasLayout, KeepsOthers, Adds}

pub others_then : (table : Table) (a b c : Database) → KeepsOthers table a.trees b.trees → KeepsOthers table b.trees c.trees → KeepsOthers table a.trees c.trees
others_then table a b c one two = all_from _ all_tables (λ t has other. all_has _ all_tables t two has other ∙ all_has _ all_tables t one has other)

pub others_same : (table : Table) (a : Database) → KeepsOthers table a.trees a.trees
others_same table a = all_from _ all_tables (λ t has other. refl)

pub adds_none : (table : Table) (a : Database) → HasLayout a → Adds table [] a a
adds_none table a has = record { layout = has; rows = IsPermutation-refl _; numbered = λ h. h; others = others_same table a }

pub adds_then : (table : Table) (before more : List Row) (a b c : Database) → Adds table before a b → Adds table more b c → Adds table (before ++ more) a c
adds_then table before more a b c one two = record {
  layout = two.layout;
  rows = subst (λ l. IsPermutation l (rows_in table c.trees)) (sym (append_assoc before more (rows_in table a.trees)))
      (IsPermutation-trans _ _ _ (IsPermutation-append_comm before (more ++ rows_in table a.trees))
      (subst (λ l. IsPermutation l (rows_in table c.trees)) (sym (append_assoc more (rows_in table a.trees) before))
      (IsPermutation-trans _ _ _ (IsPermutation-append_right more _ _ (IsPermutation-trans _ _ _ (IsPermutation-append_comm (rows_in table a.trees) before) one.rows)) two.rows)));
  numbered = λ h. two.numbered (one.numbered h);
  others = others_then table a b c one.others two.others;
}
