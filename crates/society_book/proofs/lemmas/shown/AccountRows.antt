-- What the row of an account shows.
use Rattle.std.proofs.Common.{inl, inr, ℕ, List, [], ◌∷◌, refl, IsPermutation}
use Rattle.std.specs.List.{AllByRecursion, sum_by}
use Rattle.pool_split.specs.Credits.{units_of}
use Rattle.pool_split.specs.declared.claim.Credit.{Credit}
use Rattle.share_rules.specs.declared.office.Office.{Office}
use Rattle.sqlite_trees.specs.Tree.{Trees}
use Rattle.sqlite_value.specs.declared.value.Value.TheVariants.{Text}
use Rattle.sqlite_value.specs.Order.{Row}
use Rattle.society_core.specs.Book.{Book}
use Rattle.society_rows.specs.Layout as layout
use Rattle.society_rows.specs.Reads.{Lists, has_key}
use Rattle.society_book.specs.DerivedRows.{balance_rows, balance_rows_by, credits_to}
use Rattle.society_book.specs.Kept.{HoldsBook}
use Rattle.society_book.specs.Shown.{ShowUnits}
use Rattle.society_book.proofs.lemmas.rows_alike.NamedRows.{HasName, found_by_name}
use Rattle.society_book.proofs.lemmas.rows_alike.RowLemmas.{none_else, one_else}

pub balances_named : (a : List ℕ) (cs : List Credit) → AllByRecursion HasName (balance_rows_by a cs)
balances_named a [] = tt
balances_named a (c ∷ cs) = (refl, tt)

-- what is found under the text of an account shows its units
pub balance_found : (o : Office) (b : Book) (db : Trees) → HoldsBook o b db → (a : List ℕ) (found : List Row) → Lists layout.balances (has_key (Text a ∷ [])) 1 db found → ShowUnits (sum_by units_of (credits_to o b a)) found
balance_found o b db holds a found lists = shows (credits_to o b a) (found_by_name layout.balances (balance_rows o b) 1 db found a holds.derived.balances (λ q. balances_named q (credits_to o b q)) lists)
  where
    shows : (cs : List Credit) → IsPermutation (balance_rows_by a cs) found → ShowUnits (sum_by units_of cs) found
    shows [] p = inl (none_else found p, refl)
    shows (c ∷ cs) p = inr (a, one_else _ found p)
