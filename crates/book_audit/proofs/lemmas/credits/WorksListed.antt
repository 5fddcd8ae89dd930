-- The works that closed pools look for are listed, and then weighed.
use Rattle.std.proofs.Common.{◌≡◌, List, Ok, subst, sym}
use Rattle.std.specs.List.{AllByRecursion}
use Rattle.share_rules.specs.declared.office.Office.{Office}
use Rattle.sqlite.specs.State.{State}
use Rattle.sqlite_trees.proofs.ListLemmas.{all_weaker}
use Rattle.sqlite_trees.specs.Tree.{Trees}
use Rattle.society_book.specs.Sources.{HoldsWorks}
use Rattle.society_book.specs.Steps.{Looks, Examines}
use Rattle.society_core.specs.Book.{Book}
use Rattle.society_closings.proofs.lemmas.cuts.CutLists.{lists_fewer}
use Rattle.society_closings.specs.Blamed.{HoldNoWorks}
use Rattle.society_closings.specs.Closings.{ListsOrder, is_reported}
use Rattle.society_closings.specs.CutWorks.{ListsWorks, wants, wants_for}
use Rattle.society_closings.specs.Weighing.{AreWorksWeighed}
use Rattle.society_closings.specs.declared.pool_works.PoolWorks.{PoolWorks}
use Rattle.society_closings.specs.declared.wanted.Wanted.{Wanted}
use Rattle.society_closings.specs.declared.works_by_recording.WorksByRecording.{WorksByRecording}
use Rattle.society_book.proofs.lemmas.together.JudgedLemmas.{examines_looks, examines_then}
use Rattle.book_audit.specs.Paying.{CannotPayAny, ListsForAll, WantsAll, WantsOrder}
use Rattle.book_audit.specs.declared.pool_orders.ClosedPool.{ClosedPool}

-- the works are listed that an order looks for, by each book whose works the tables have
abbrev pub ListsIts : Trees → WorksByRecording → ClosedPool → Type 0
ListsIts db works c = (other : Office) (book : Book) → HoldsWorks other book db → ListsWorks (wants_for c.order.cut (is_reported book c.order)) db works

-- what is wanted by pools is listed for each of them
pub works_listed : (closed : List ClosedPool) (old mid new : State) (wanted : Wanted) (works : WorksByRecording) → Examines (CannotPayAny closed) old mid (Ok wanted) (WantsAll closed) → Looks mid new (Ok works) (ListsWorks (wants wanted))
    → Examines (CannotPayAny closed) old new (Ok works) (λ db found. AllByRecursion (ListsIts db found) closed)
works_listed closed old mid new wanted works asked looks =
    examines_then (CannotPayAny closed) HoldNoWorks (CannotPayAny closed) old mid new wanted (Ok works) (WantsAll closed) (ListsWorks (wants wanted)) (λ db found. AllByRecursion (ListsIts db found) closed) asked
    (examines_looks HoldNoWorks mid new works (ListsWorks (wants wanted)) looks)
    (λ found asks lists. all_weaker (λ (x : ClosedPool). WantsOrder x.order old.now.trees wanted) (ListsIts old.now.trees found)
    (λ x each o b holds. lists_fewer (wants wanted) (wants_for x.order.cut (is_reported b x.order)) old.now.trees found (each o b holds) lists) closed asks)
    (λ asks no o b holds can. no o b holds)

-- works that are listed for pools and then weighed are what the pools are paid out of
pub all_weighed : (o : Office) (closed : List ClosedPool) (db : Trees) (found : WorksByRecording) (works : PoolWorks) → works.listed ≡ found → AllByRecursion (ListsIts db found) closed → AreWorksWeighed o db works → ListsForAll o closed db works
all_weighed o closed db found works same lists weighed =
    all_weaker (ListsIts db found) (λ (x : ClosedPool). ListsOrder o x.order db works)
    (λ x each. (λ other b holds. subst (ListsWorks (wants_for x.order.cut (is_reported b x.order)) db) (sym same) (each other b holds), weighed)) closed lists
