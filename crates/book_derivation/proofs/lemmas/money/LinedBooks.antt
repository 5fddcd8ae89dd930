-- The pools of a book whose lines are all there can be paid.
use Rattle.std.proofs.Common.{◌≡◌, ℕ, List, [], ◌∷◌, Some, is_some}
use Rattle.std.specs.List.{AllByRecursion, list_all}
use Rattle.share_rules.specs.declared.office.Office.{Office}
use Rattle.sqlite_trees.specs.Tree.{Trees}
use Rattle.society_core.specs.Book.{Book, IsSound, is_applied, order_at, return_at}
use Rattle.society_core.specs.Candidates.{CanBePaid}
use Rattle.society_core.specs.Orders.{Order}
use Rattle.society_core.specs.declared.return_key.ReturnKey.{ReturnKey}
use Rattle.society_book.specs.Sources.{HoldsWorks}
use Rattle.society_book.proofs.lemmas.rows_alike.BookLemmas.{third_holds}
use Rattle.society_closings.proofs.lemmas.money.Payments.{cut_reached}
use Rattle.work_ids.specs.Numbers.{is_pool_number}
use Rattle.book_audit.specs.Paying.{AreClosedIn}
use Rattle.book_audit.specs.Standing.{FindsOrders}
use Rattle.book_audit.specs.declared.pool_orders.ClosedPool.{ClosedPool}
use Rattle.book_audit.proofs.lemmas.orders.OwnOrders.{all_there}
use Rattle.book_audit.specs.Paying.{CannotPayAll}
use Rattle.book_derivation.specs.Money.{HoldsLined, LacksLined}

-- an order that closes a pool of a sound book can be paid
can_be_paid : (b : Book) → IsSound b → (pool : ℕ) (order : Order) → order_at b pool ≡ Some order → CanBePaid b order
can_be_paid b sound pool order is =
    let entry = sound.pools pool order is in
    record {
      returns = third_holds (is_pool_number pool) (list_all (is_applied b) order.cut) (list_all (λ (key : ReturnKey). is_some (return_at b key)) order.returns) entry;
      reached = cut_reached b pool order entry;
      kept = sound.orders pool order is;
    }

each_payable : (b : Book) → IsSound b → (closed : List ClosedPool) → AreClosedIn b closed → AllByRecursion (λ (c : ClosedPool). CanBePaid b c.order) closed
each_payable b sound [] there = tt
each_payable b sound (c ∷ closed) there = (can_be_paid b sound c.pool c.order there.0, each_payable b sound closed there.1)

works_lined : (o : Office) (b : Book) (db : Trees) → HoldsLined o b db → HoldsWorks o b db
works_lined o b db lined = record {
  sound = lined.reached.own.sound;
  kept = record { transmissions = lined.reached.own.kept.transmissions; returns = lined.reached.own.kept.returns };
  derived = lined.works;
}

-- where they cannot, there is no such book
pub not_lined : (o : Office) (closed : List ClosedPool) (db : Trees) → FindsOrders db closed → CannotPayAll o closed db → LacksLined o db
not_lined o closed db found cannot b lined = cannot b (works_lined o b db lined) (each_payable b lined.reached.own.sound closed (all_there o b db lined.reached found.rows found.listed closed found.are.each))
