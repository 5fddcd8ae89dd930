-- What statements do that write what is derived of a book to tables that have its own rows alone.
use Rattle.std.specs.Prelude.{◌≡◌, Result, [], ◌∷◌, drop, take}
use Rattle.std.specs.List.{AllByRecursion}
use Rattle.share_rules.specs.declared.office.Office.{Office}
use Rattle.sqlite.specs.State.{State}
use Rattle.sqlite_trees.specs.Tree.{Trees}
use Rattle.society_core.specs.Book.{Book, IsSound}
use Rattle.society_rows.specs.Layout as layout
use Rattle.society_rows.specs.Layout.{all_tables}
use Rattle.society_book.specs.BookRows.{AreOfBook}
use Rattle.society_book.specs.Kept.{HoldsOwnBook}
use Rattle.book_audit.specs.Audited.{IsRegistered}
use Rattle.society_book.specs.Steps.{Judged}
use Rattle.society_rows.specs.declared.fault.RowFault.{RowFault}

-- every table but those of what is derived is as it was
pub record KeepsOwn (old new : Trees) : Type 0 where
  pub first : AllByRecursion (λ t. new t.tree ≡ old t.tree) (take 6 all_tables)
  pub later : AllByRecursion (λ t. new t.tree ≡ old t.tree) (drop 12 all_tables)

-- statements that write what is derived of a book: the tables of the book itself are as they were, and this is said of the tables before and after
abbrev pub Derives : {X : Type 0} → (Trees → Type 0) → State → State → Result X RowFault → (Trees → Trees → X → Type 0) → Type 0
Derives Wrong old new result Says =
    Judged Wrong old new result (λ before after x. KeepsOwn before.trees after.trees × Says before.trees after.trees x)

-- nothing is derived of senders' lines
abbrev pub HasNoLines : Trees → Type 0
HasNoLines db = AllByRecursion (λ t. db t.tree ≡ []) (layout.fronts ∷ layout.verdicts ∷ layout.versions ∷ layout.recordings ∷ [])

-- nothing is derived of pools
abbrev pub HasNoMoney : Trees → Type 0
HasNoMoney db = AllByRecursion (λ t. db t.tree ≡ []) (layout.credits_table ∷ layout.balances ∷ [])

-- the tables of this office have the own rows of a sound book, and nothing that is derived of it
pub record HoldsUnderived (office : Office) (book : Book) (db : Trees) : Type 0 where
  pub registered : IsRegistered office db
  pub sound : IsSound book
  pub own : AreOfBook book db
  pub lines : HasNoLines db
  pub money : HasNoMoney db

-- they have those of no such book
abbrev pub LacksBook : Office → Trees → Type 0
LacksBook office db = (book : Book) → HoldsUnderived office book db → ⊥

-- tables of this office that had nothing derived hold the book that they stand for, with exactly what is derived of it
abbrev pub DerivesBook : Office → Trees → Trees → Type 0
DerivesBook office old new = IsRegistered office old → HasNoLines old → HasNoMoney old → HoldsOwnBook office new
