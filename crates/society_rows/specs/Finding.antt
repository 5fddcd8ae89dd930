-- What a database holds.
use Rattle.std.specs.Prelude.{pos}
use Rattle.sqlite_value.specs.declared.value.Value.TheVariants.{Int}
use Rattle.sqlite_value.specs.declared.keys.Collation.TheVariants.{Binary}
use Rattle.sqlite_sql.specs.declared.ops.BinaryOp.{BinaryOp}
use Rattle.sqlite_sql.specs.declared.ops.BinaryOp.TheVariants.{Compare}
use Rattle.sqlite_sql.specs.declared.ops.CompareOp.TheVariants.{Eq}
use Rattle.sqlite_sql.specs.Term.{Term, lit, col, op2}
use Rattle.sqlite.specs.Effect.{Database}
use Rattle.society_rows.specs.declared.finding.Found.{Found}
use Rattle.society_rows.specs.declared.finding.Found.TheVariants as found
use Rattle.society_rows.specs.declared.older.OlderLayout.TheVariants as older
use Rattle.society_rows.specs.Layouts.{HasOlder}
use Rattle.society_rows.specs.NewBook.{IsBare}
use Rattle.society_rows.specs.Stored.{HasLayout}

-- SQL's =, which compares texts by their bytes
abbrev pub is_same : BinaryOp
is_same = Compare Eq Binary

-- the first column is 1
abbrev pub is_one : Term
is_one = op2 is_same (col 1 0) (lit (Int (pos 1)))

-- it holds no table, index or view, or those of one of the layouts and nothing else, or none of that
abbrev pub IsFound : Database → Found → Type 0
IsFound db found.Nothing = IsBare db
IsFound db found.Layout = HasLayout db
IsFound db (found.Older layout) = HasOlder layout db
IsFound db found.Other = (¬ IsBare db) × (¬ HasLayout db) × (¬ HasOlder older.First db) × (¬ HasOlder older.Second db)
