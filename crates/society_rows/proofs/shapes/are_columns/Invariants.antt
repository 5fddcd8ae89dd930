use Rattle.std.proofs.Common.{◌≡◌, ℕ, List, Bor, map, take}
use Rattle.sqlite_schema.specs.declared.schema.Kind.{Kind}
use Rattle.society_rows.specs.Layout.{column_of}
use Rattle.society_rows.proofs.shapes.are_columns.Given as goal

abbrev pub invariant-loop-at : goal.invariant-loop-at
invariant-loop-at l = take l.at l.columns ≡ take l.at (map (λ (f : Bor (List ℕ) × Kind). column_of f.1 f.0.now) l.forms)
