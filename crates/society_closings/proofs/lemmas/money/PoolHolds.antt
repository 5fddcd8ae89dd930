-- The tables once a pool is closed: they hold the book with it.
use Rattle.std.proofs.Common.{◌≡◌, List, None, Some, filter, subst, sym, true, ℕ, IsPermutation}
use Rattle.std.specs.List.{AllByRecursion}
use Rattle.share_rules.specs.declared.office.Office.{Office}
use Rattle.sqlite.specs.Effect.{Database}
use Rattle.sqlite_trees.specs.Tree.{rowid}
use Rattle.sqlite_trees.specs.View.{is_int}
use Rattle.sqlite_value.specs.Order.{Row}
use Rattle.society_core.specs.Book.{Book, is_pool_entry, order_at, with_pool}
use Rattle.society_core.specs.Orders.{IsOrder, Order, names_return}
use Rattle.society_core.specs.Pools.{all_credits, credits_of}
use Rattle.society_core.specs.declared.return_key.ReturnKey.{ReturnKey}
use Rattle.society_rows.specs.Layout as layout
use Rattle.society_rows.specs.Stored.{rows_in}
use Rattle.society_closings.specs.Closings.{ClosesWith}
use Rattle.society_book.specs.Columns.{HasRows}
use Rattle.society_book.specs.DerivedRows.{is_named}
use Rattle.society_book.specs.Kept.{HoldsBook}
use Rattle.society_closings.proofs.lemmas.money.BalanceAdds.{each_added, rows_by}
use Rattle.society_closings.proofs.lemmas.money.PoolTables.{pool_added}
use Rattle.society_book.proofs.lemmas.rows_alike.KeptTables.{rows_kept}
use Rattle.society_closings.proofs.lemmas.money.SameTotals.{same_behind, same_itself}

-- with what is written of a pool, and the units of its credits, the tables hold the book with the pool
pub pool_holds : (o : Office) (b : Book) (pool : ℕ) (order : Order) → order_at b pool ≡ None → is_pool_entry b pool order ≡ true → (old new : Database) → HoldsBook o b old.trees → IsOrder order
    → ((other : ℕ) (another : Order) (key : ReturnKey) → order_at b other ≡ Some another → names_return key order ≡ true → names_return key another ≡ true → ⊥)
    → ClosesWith pool order (credits_of o b order) old new → HoldsBook o (with_pool b pool order) new.trees
pool_holds o b pool order free entry old new holds is unpaid closes =
    let mid = closes.1 in
    let added = each_added closes.3 (all_credits o b) mid new
    (subst (AllByRecursion (λ r. is_int (rowid r) ≡ true)) (sym closes.2) holds.numbered.1)
    (subst (HasRows is_named (rows_by (all_credits o b))) (sym (rows_kept layout.balances old.trees mid.trees closes.2)) holds.derived.balances)
    closes.5 in
    let alike = same_behind (all_credits o b) (all_credits o b) closes.3 (credits_of o b order) (same_itself (all_credits o b)) closes.4 in
    pool_added o b pool order free entry old.trees new.trees holds is unpaid closes.0
    (λ a. subst (λ (rows : List Row). IsPermutation rows (filter (is_named a) (rows_in layout.balances new.trees))) (alike a) (added.0 a)) added.1
