-- Rows added to a table of what pools pay, and what stays as it was.
use Rattle.std.proofs.Common.{◌≡◌, ◌≢◌, ◌∙◌, ◌++◌, IsPermutation, List, [], ◌∷◌, append_assoc, refl, subst, sym}
use Rattle.std.proofs.lemmas.List.Sorted.{IsPermutation-append_comm, IsPermutation-append_left, IsPermutation-append_right, IsPermutation-trans}
use Rattle.std.specs.List.{AllByRecursion}
use Rattle.sqlite_schema.specs.declared.schema.Table.{Table}
use Rattle.sqlite_trees.specs.Tree.{Trees}
use Rattle.sqlite_value.specs.Order.{Row}
use Rattle.society_rows.specs.Layout as layout
use Rattle.society_rows.specs.Layout.{all_tables}
use Rattle.society_rows.specs.Stored.{KeepsOthers}
use Rattle.book_derivation.specs.Money.{KeepsUnpaid}

-- ---- what stays

others_all : (table : Table) (ts : List Table) (a b c : Trees) → AllByRecursion (λ (t : Table). t.tree ≢ table.tree → b t.tree ≡ a t.tree) ts → AllByRecursion (λ (t : Table). t.tree ≢ table.tree → c t.tree ≡ b t.tree) ts
    → AllByRecursion (λ (t : Table). t.tree ≢ table.tree → c t.tree ≡ a t.tree) ts
others_all table [] a b c one two = tt
others_all table (t ∷ ts) a b c one two = (λ other. two.0 other ∙ one.0 other, others_all table ts a b c one.1 two.1)

-- what stays, stays twice
pub others_on : (table : Table) (a b c : Trees) → KeepsOthers table a b → KeepsOthers table b c → KeepsOthers table a c
others_on table a b c one two = others_all table all_tables a b c one two

others_none : (table : Table) (ts : List Table) (a : Trees) → AllByRecursion (λ (t : Table). t.tree ≢ table.tree → a t.tree ≡ a t.tree) ts
others_none table [] a = tt
others_none table (t ∷ ts) a = (λ other. refl, others_none table ts a)

-- where nothing is written, all stays
pub others_same : (table : Table) (a : Trees) → KeepsOthers table a a
others_same table a = others_none table all_tables a

unpaid_all : (ts : List Table) (a b c : Trees) → AllByRecursion (λ (t : Table). t.tree ≢ layout.credits_table.tree → b t.tree ≡ a t.tree) ts → AllByRecursion (λ (t : Table). t.tree ≢ layout.balances.tree → c t.tree ≡ b t.tree) ts
    → AllByRecursion (λ (t : Table). t.tree ≢ layout.credits_table.tree → t.tree ≢ layout.balances.tree → c t.tree ≡ a t.tree) ts
unpaid_all [] a b c one two = tt
unpaid_all (t ∷ ts) a b c one two = (λ credits balances. two.0 balances ∙ one.0 credits, unpaid_all ts a b c one.1 two.1)

-- credits and then balances are written, and nothing else
pub unpaid_on : (a b c : Trees) → KeepsOthers layout.credits_table a b → KeepsOthers layout.balances b c → KeepsUnpaid a c
unpaid_on a b c one two = unpaid_all all_tables a b c one two

-- ---- lines behind others

-- rows that are added behind others
pub added_behind : (old mid new before here : List Row) → IsPermutation (before ++ old) mid → IsPermutation (here ++ mid) new → IsPermutation ((before ++ here) ++ old) new
added_behind old mid new before here one two =
    IsPermutation-trans ((before ++ here) ++ old) ((here ++ before) ++ old) new (IsPermutation-append_left old (before ++ here) (here ++ before) (IsPermutation-append_comm before here))
    (subst (λ (l : List Row). IsPermutation l new) (sym (append_assoc here before old))
    (IsPermutation-trans (here ++ (before ++ old)) (here ++ mid) new (IsPermutation-append_right here (before ++ old) mid one) two))
