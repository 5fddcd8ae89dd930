-- That a database has layout 3 is one fact.
use Rattle.std.proofs.Common.{◌≡◌, ◌⊎◌, ◌∙◌, ℕ, List, [], length, get_or, reverse, inl, inr, sym, ap, arith}
use Rattle.std.specs.Coded.{Coded-set}
use Rattle.sqlite_schema.specs.contracts.schema.Schema.{the_row}
use Rattle.sqlite_schema.specs.declared.schema.Reference.{Reference}
use Rattle.sqlite_schema.specs.declared.schema.Schema.{Schema}
use Rattle.society_rows.specs.Layout.{office, pool_cuts, pool_returns, refers, written_out}
use Rattle.society_rows.specs.Layouts.{IsFirst, IsFirstWith, schema_to}

-- of how many columns the first reference of the table at a place is
abbrev first_width : ℕ → Schema → ℕ
first_width at schema = length (get_or (get_or schema.tables at office).references 0 (refers [] [] [])).columns

cuts_apart : (schema : Schema) (p q : List Reference) → schema ≡ schema_to 14 pool_cuts.references p → schema ≡ schema_to 14 (reverse pool_cuts.references) q → ⊥
unfolding written_out
cuts_apart schema p q one two = let e : 1 ≡ 2 = ap (first_width 4) (sym one ∙ two) in omega (e, arith)

payments_apart : (schema : Schema) (c : List Reference) → schema ≡ schema_to 14 c pool_returns.references → schema ≡ schema_to 14 c (reverse pool_returns.references) → ⊥
unfolding written_out
payments_apart schema c one two = let e : 2 ≡ 1 = ap (first_width 5) (sym one ∙ two) in omega (e, arith)

with_alone : (schema : Schema) (c : List Reference) (x y : IsFirstWith 14 c schema) → x ≡ y
with_alone schema c (inl a) (inl b) = ap inl (Coded-set the_row.coded _ _ a b)
with_alone schema c (inl a) (inr b) = absurd (payments_apart schema c a b)
with_alone schema c (inr a) (inl b) = absurd (payments_apart schema c b a)
with_alone schema c (inr a) (inr b) = ap inr (Coded-set the_row.coded _ _ a b)

with_apart : (schema : Schema) → IsFirstWith 14 pool_cuts.references schema → IsFirstWith 14 (reverse pool_cuts.references) schema → ⊥
with_apart schema (inl a) (inl b) = cuts_apart schema _ _ a b
with_apart schema (inl a) (inr b) = cuts_apart schema _ _ a b
with_apart schema (inr a) (inl b) = cuts_apart schema _ _ a b
with_apart schema (inr a) (inr b) = cuts_apart schema _ _ a b

made_alone : (schema : Schema) (x y : IsFirstWith 14 pool_cuts.references schema ⊎ IsFirstWith 14 (reverse pool_cuts.references) schema) → x ≡ y
made_alone schema (inl a) (inl b) = ap inl (with_alone schema pool_cuts.references a b)
made_alone schema (inl a) (inr b) = absurd (with_apart schema a b)
made_alone schema (inr a) (inl b) = absurd (with_apart schema b a)
made_alone schema (inr a) (inr b) = ap inr (with_alone schema (reverse pool_cuts.references) a b)

pub layout_alone : (schema : Schema) (x y : IsFirst 14 schema) → x ≡ y
unfolding IsFirst
layout_alone schema = made_alone schema
