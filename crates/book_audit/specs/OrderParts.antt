-- What the orders of pools say, by the pools' numbers (representation).
use Rattle.std.specs.Prelude.{ℕ, ◌==◌, ◌≡◌, ◌≤◌, true, List, [], ◌∷◌, None, Vec, filter, length, map, if◌then◌else◌}
use Rattle.std.specs.BTreeMap as tree
use Rattle.std.specs.BTreeMap.{BTreeMap}
use Rattle.std.specs.BTreeSet.{BTreeSet, contains}
use Rattle.std.specs.List.{AllByRecursion, list_any}
use Rattle.std.specs.Ordering.{nat_cmp}
use Rattle.std.specs.declared.alloc.Global.{Global}
use Rattle.share_rules.specs.declared.kind.Kind.{Kind}
use Rattle.share_rules.specs.declared.kind.Kind.TheVariants.{Mechanical, Performing}
use Rattle.sqlite_value.specs.Order.{Row}
use Rattle.society_rows.specs.Forms.{IsOfForms, mechanical_pool_forms, pool_cut_forms, pool_return_forms}
use Rattle.society_book.specs.BookRows.{cut_key_of, cut_row, is_of_pool, mechanical_row, paid_row, return_key_of}
use Rattle.society_book.specs.Columns.{text_at, whole_number_at}
use Rattle.work_ids.specs.Blanks.{fill, without_trailing_blanks}
use Rattle.work_ids.specs.Reporter.{reporter_of}
use Rattle.work_ids.specs.SenderKey.{is_sender_key}
use Rattle.std.specs.Prelude.{Ok}
use Rattle.society_closings.specs.CutWorks.{items_or_none}
use Rattle.society_core.specs.Orders.{Order, order_fault, order_of}
use Rattle.book_audit.specs.Pools.{cut_pair, paid_pair}
use Rattle.book_audit.specs.declared.order_parts.OrderParts.{OrderParts}
use Rattle.book_audit.specs.declared.pool_tables.PoolRows.{PoolRows}

-- the items of a pool
abbrev pub items_kept : {T : Type 0} → BTreeMap ℕ (Vec T Global) → ℕ → List T
items_kept lists pool = items_or_none (tree.get nat_cmp lists pool)

-- an item of one pool, as one of another
abbrev pub item_at : {T : Type 0} → ℕ → ℕ → T → List T
item_at other pool item = if other == pool then item ∷ [] else []

-- the senders and the numbers of a pool's cut
abbrev pub cut_kept : OrderParts → ℕ → List (List ℕ × ℕ)
cut_kept parts pool = items_kept parts.cuts pool

-- the reporters and the numbers of the returns that a pool pays
abbrev pub returns_kept : OrderParts → ℕ → List (List ℕ × ℕ)
returns_kept parts pool = items_kept parts.returns pool

-- the right that a pool pays
abbrev pub kind_kept : OrderParts → ℕ → Kind
kind_kept parts pool = if contains nat_cmp parts.mechanical pool then Mechanical else Performing

-- of no pool is there more than one row
abbrev pub StandOnce : List Row → Type 0
StandOnce rows = (pool : ℕ) → length (filter (is_of_pool 0 pool) rows) ≤ 1

-- they are the numbers of these rows of pools, each of which stands once
pub record Numbers (rows : List Row) (numbers : BTreeSet ℕ) : Type 0 where
  pub these : (pool : ℕ) → contains nat_cmp numbers pool ≡ list_any (is_of_pool 0 pool) rows
  pub once : StandOnce rows

-- the row is that of a sender's cut in one of these pools
pub record IsKnownCut (pools : BTreeSet ℕ) (row : Row) : Type 0 where
  pub forms : IsOfForms pool_cut_forms row
  pub sender : is_sender_key (text_at 1 row) ≡ true
  pub known : contains nat_cmp pools (whole_number_at 0 row) ≡ true

-- the row is that of a return that one of these pools pays
pub record IsKnownPaid (pools : BTreeSet ℕ) (row : Row) : Type 0 where
  pub forms : IsOfForms pool_return_forms row
  pub reporter : reporter_of (text_at 0 row) ≡ Ok (fill 20 (text_at 0 row))
  pub text : without_trailing_blanks (fill 20 (text_at 0 row)) ≡ text_at 0 row
  pub known : contains nat_cmp pools (whole_number_at 2 row) ≡ true

-- the row is that of the mark of one of these pools
pub record IsKnownMark (pools : BTreeSet ℕ) (row : Row) : Type 0 where
  pub forms : IsOfForms mechanical_pool_forms row
  pub known : contains nat_cmp pools (whole_number_at 0 row) ≡ true

-- the row says a sender's cut in one of these pools, and nothing else
pub record SaysCut (pools : BTreeSet ℕ) (row : Row) : Type 0 where
  pub form : row ≡ cut_row (whole_number_at 0 row) (cut_key_of row)
  pub known : contains nat_cmp pools (whole_number_at 0 row) ≡ true

-- the row says a return that one of these pools pays, and nothing else
pub record SaysPaid (pools : BTreeSet ℕ) (row : Row) : Type 0 where
  pub form : row ≡ paid_row (whole_number_at 2 row) (return_key_of row)
  pub known : contains nat_cmp pools (whole_number_at 2 row) ≡ true

-- the row marks one of these pools, and says nothing else
pub record SaysMark (pools : BTreeSet ℕ) (row : Row) : Type 0 where
  pub form : row ≡ mechanical_row (whole_number_at 0 row)
  pub known : contains nat_cmp pools (whole_number_at 0 row) ≡ true

-- they are the cuts that these rows say, each of one of these pools
pub record AreCutsOf (pools : BTreeSet ℕ) (rows : List Row) (cuts : BTreeMap ℕ (Vec (List ℕ × ℕ) Global)) : Type 0 where
  pub each : AllByRecursion (SaysCut pools) rows
  pub kept : (pool : ℕ) → items_kept cuts pool ≡ map cut_pair (filter (is_of_pool 0 pool) rows)

-- they are the returns that these rows say, each paid by one of these pools
pub record ArePaidOf (pools : BTreeSet ℕ) (rows : List Row) (returns : BTreeMap ℕ (Vec (List ℕ × ℕ) Global)) : Type 0 where
  pub each : AllByRecursion (SaysPaid pools) rows
  pub kept : (pool : ℕ) → items_kept returns pool ≡ map paid_pair (filter (is_of_pool 2 pool) rows)

-- they are the pools that these rows mark, each once and one of these pools
pub record AreMarksOf (pools : BTreeSet ℕ) (rows : List Row) (marked : BTreeSet ℕ) : Type 0 where
  pub each : AllByRecursion (SaysMark pools) rows
  pub once : StandOnce rows
  pub kept : (pool : ℕ) → contains nat_cmp marked pool ≡ list_any (is_of_pool 0 pool) rows

-- they are what these rows say of these pools, each of which has one row
pub record ArePartsOf (rows : PoolRows) (parts : OrderParts) : Type 0 where
  pub numbers : BTreeSet ℕ
  pub pools : Numbers rows.pools.items numbers
  pub cuts : AreCutsOf numbers rows.cuts.items parts.cuts
  pub paid : ArePaidOf numbers rows.paid.items parts.returns
  pub marks : AreMarksOf numbers rows.marks.items parts.mechanical

-- an order of this kind, this amount, this cut and these returns, which have no fault
pub record OrdersFrom (kind : Kind) (amount : ℕ) (cut returns : List (List ℕ × ℕ)) (order : Order) : Type 0 where
  pub faultless : order_fault amount cut returns ≡ None
  pub made : order ≡ order_of kind amount cut returns
