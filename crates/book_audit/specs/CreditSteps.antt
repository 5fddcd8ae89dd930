-- What the steps of an audit find of the lines of pools' credits (representation).
use Rattle.std.specs.Prelude.{ℕ, pos, ◌≡◌, List, [], ◌∷◌}
use Rattle.pool_split.specs.declared.claim.Credit.{Credit}
use Rattle.sqlite_trees.specs.Tree.{Trees}
use Rattle.sqlite_value.specs.declared.value.Value.TheVariants.{Int}
use Rattle.sqlite_value.specs.Order.{Row}
use Rattle.society_rows.specs.Layout as layout
use Rattle.society_rows.specs.Reads.{Lists, has_key}
use Rattle.book_audit.specs.Credits.{credit_lines}

-- whichever listing of a pool's rows is found shows just the lines of these credits
abbrev pub ListsOnly : ℕ → List Credit → Trees → Type 0
ListsOnly pool credits db = (rows : List Row) → Lists layout.credits_table (has_key (Int (pos pool) ∷ [])) 2 db rows → rows ≡ credit_lines pool credits
