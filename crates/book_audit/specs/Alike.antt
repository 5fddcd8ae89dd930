-- Rows that their order tells from all others (representation).
use Rattle.std.specs.Prelude.{Bool, true, false, ◌≡◌}
use Rattle.std.specs.List.{AllByRecursion}
use Rattle.sqlite_value.specs.declared.value.Value.{Value}
use Rattle.sqlite_value.specs.declared.value.Value.TheVariants.{Int, Text}
use Rattle.sqlite_value.specs.Order.{Row}

-- whether a value is a whole number or a text, which tie in SQLite's order with no other value
abbrev pub is_exact : Value → Bool
is_exact (Int n) = true
is_exact (Text bytes) = true
is_exact _ = false

-- each value of a row is one
abbrev pub IsExact : Row → Type 0
IsExact = AllByRecursion (λ v. is_exact v ≡ true)
