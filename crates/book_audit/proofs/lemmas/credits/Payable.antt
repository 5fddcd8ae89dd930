-- The order of a closed pool is paid out of the tables that hold the book.
use Rattle.std.proofs.Common.{◌≡◌, ◌&&◌, ℕ, Some, is_some, true}
use Rattle.std.specs.List.{list_all}
use Rattle.share_rules.specs.declared.office.Office.{Office}
use Rattle.sqlite_trees.specs.Tree.{Trees}
use Rattle.society_book.specs.Kept.{HoldsBook}
use Rattle.society_book.specs.Sources.{HoldsWorks}
use Rattle.society_closings.proofs.lemmas.cuts.WorksHeld.{works_of}
use Rattle.society_closings.proofs.lemmas.money.Payments.{cut_reached}
use Rattle.society_core.proofs.lemmas.Fronts.{second_holds}
use Rattle.society_core.specs.Book.{Book, is_applied, is_pool_entry, order_at, return_at}
use Rattle.society_core.specs.Candidates.{CanBePaid, HasReturns, ReachesCut}
use Rattle.society_core.specs.Orders.{Order}
use Rattle.society_core.specs.declared.return_key.ReturnKey.{ReturnKey}
use Rattle.work_ids.specs.Numbers.{is_pool_number}

-- the returns of a pool that may stand in a book are there
returns_there : (b : Book) (pool : ℕ) (order : Order) → is_pool_entry b pool order ≡ true → HasReturns b order
returns_there b pool order entry =
    second_holds (is_pool_number pool && list_all (is_applied b) order.cut) (list_all (λ (key : ReturnKey). is_some (return_at b key)) order.returns) entry

-- tables that hold a book in which an order closes a pool have what it is paid by: its cut is reached, and it can be paid
pub payable : (o : Office) (b : Book) (db : Trees) → HoldsBook o b db → (pool : ℕ) (order : Order) → order_at b pool ≡ Some order → HoldsWorks o b db × ReachesCut b order × CanBePaid b order
payable o b db holds pool order is =
    let entry = holds.sound.pools pool order is in
    let reached = cut_reached b pool order entry in
    (works_of o b db holds, reached, record { returns = returns_there b pool order entry; reached = reached; kept = holds.sound.orders pool order is })
