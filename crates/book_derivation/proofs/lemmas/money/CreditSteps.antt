-- The lines of what pools pay, added one pool after another.
use Rattle.std.proofs.Common.{◌≡◌, ◌≢◌, ◌∙◌, ◌<◌, ◌+◌, ◌++◌, ◌∷◌, [], ℕ, List, IsPermutation, arith, get_or, length, take, ap, subst, sym, true}
use Rattle.std.specs.List.{AllByRecursion}
use Rattle.sqlite_schema.specs.declared.schema.Table.{Table}
use Rattle.sqlite_trees.proofs.ListLemmas.{all_weaker}
use Rattle.sqlite_value.specs.declared.value.Value.TheVariants.{Text}
use Rattle.society_rows.specs.Reads.{has_at}
use Rattle.std.proofs.lemmas.Grind.{flat_map-append}
use Rattle.std.proofs.lemmas.List.{append-nil, take_more}
use Rattle.std.proofs.lemmas.List.Sorted.{IsPermutation-refl}
use Rattle.pool_split.specs.declared.claim.Credit.{Credit}
use Rattle.share_rules.specs.declared.office.Office.{Office}
use Rattle.sqlite_trees.specs.Tree.{Trees}
use Rattle.sqlite_value.specs.Order.{Row}
use Rattle.society_core.specs.Book.{Book}
use Rattle.society_core.specs.Candidates.{CanBePaid, ReachesCut}
use Rattle.society_core.specs.Orders.{Order}
use Rattle.society_core.specs.Pools.{credits_of}
use Rattle.society_rows.specs.Layout as layout
use Rattle.society_rows.specs.Layout.{all_tables, written_out}
use Rattle.society_rows.specs.Stored.{KeepsOthers, rows_in}
use Rattle.society_book.specs.BookRows.{is_return_row, is_transmission_row, return_rows, transmission_rows}
use Rattle.society_book.specs.Columns.{HasRows, text_at}
use Rattle.society_book.specs.DerivedRows.{is_named, tells_recordings, tells_version, told_to_front}
use Rattle.society_book.specs.Sources.{HoldsWorks}
use Rattle.society_book.proofs.lemmas.rows_alike.KeptTables.{rows_kept}
use Rattle.society_closings.specs.Blamed.{CannotPayAmong}
use Rattle.society_closings.specs.Closings.{ListsOrder, PaysAmong, is_reported}
use Rattle.society_closings.specs.CutWorks.{IsListed, wants_for}
use Rattle.society_closings.specs.declared.pool_works.PoolWorks.{PoolWorks}
use Rattle.book_audit.specs.Balances.{AreTotalsOf}
use Rattle.book_audit.specs.Credits.{credit_lines}
use Rattle.book_audit.specs.Paying.{AreReachedIn, CannotPayAll, ListsForAll, credits_by}
use Rattle.book_audit.specs.declared.pool_orders.ClosedPool.{ClosedPool}
use Rattle.book_audit.specs.declared.totals.Totals.{Totals}
use Rattle.book_audit.proofs.lemmas.orders.Steps.{each_here}
use Rattle.book_derivation.specs.Money.{AddsCredits, WritesCredits, WritesPool, lines_by}
use Rattle.book_derivation.proofs.lemmas.Additions.{added_behind, others_on, others_same}

-- of all pools that are closed the lines of what some pay are added, and nothing else, and this is what accounts have come to by them
pub record WritesSome (office : Office) (all some : List ClosedPool) (old new : Trees) (totals : Totals) : Type 0 where
  pub others : KeepsOthers layout.credits_table old new
  pub lines : (book : Book) → HoldsWorks office book old → AreReachedIn book all → IsPermutation (lines_by office book some ++ rows_in layout.credits_table old) (rows_in layout.credits_table new)
  pub comes : (book : Book) → HoldsWorks office book old → AreReachedIn book all → AreTotalsOf totals (credits_by office book some)

-- what a pool is paid by is there where but credits are written
pub works_on : (o : Office) (b : Book) (old new : Trees) → KeepsOthers layout.credits_table old new → HoldsWorks o b old → HoldsWorks o b new
unfolding all_tables written_out
works_on o b old new keeps holds = record {
  sound = holds.sound;
  kept = record {
    transmissions = subst (HasRows is_transmission_row (transmission_rows b)) (sym (rows_kept layout.transmissions old new (keeps.1.0 (λ e. omega (arith, e))))) holds.kept.transmissions;
    returns = subst (HasRows is_return_row (return_rows b)) (sym (rows_kept layout.returns old new (keeps.1.1.0 (λ e. omega (arith, e))))) holds.kept.returns;
  };
  derived = record {
    versions = subst (HasRows is_named (told_to_front tells_version o b)) (sym (rows_kept layout.versions old new (keeps.1.1.1.1.1.1.1.1.0 (λ e. omega (arith, e))))) holds.derived.versions;
    recordings = subst (HasRows is_named (told_to_front tells_recordings o b)) (sym (rows_kept layout.recordings old new (keeps.1.1.1.1.1.1.1.1.1.0 (λ e. omega (arith, e))))) holds.derived.recordings;
  };
}

-- so in the other direction
others_back : (old new : Trees) → KeepsOthers layout.credits_table old new → KeepsOthers layout.credits_table new old
others_back old new keeps =
    all_weaker (λ (t : Table). t.tree ≢ layout.credits_table.tree → new t.tree ≡ old t.tree) (λ (t : Table). t.tree ≢ layout.credits_table.tree → old t.tree ≡ new t.tree) (λ t same apart. sym (same apart)) all_tables keeps

-- and what an order looks for is listed still, and weighed still
lists_on : (o : Office) (order : Order) (works : PoolWorks) (old new : Trees) → KeepsOthers layout.credits_table old new → ListsOrder o order old works → ListsOrder o order new works
unfolding all_tables written_out
lists_on o order works old new keeps lists = (
  λ other b holds isrc right.
      subst (AllByRecursion (λ row. wants_for order.cut (is_reported b order) (text_at 0 row) isrc ≡ true → has_at 3 (Text isrc) row ≡ true → IsListed works.listed isrc row))
      (sym (rows_kept layout.recordings old new (keeps.1.1.1.1.1.1.1.1.1.0 (λ e. omega (arith, e))))) (lists.0 other b (works_on other b new old (others_back old new keeps) holds) isrc right),
  λ kind b holds. lists.1 kind b (works_on o b new old (others_back old new keeps) holds),
)

-- no pool
pub none_written : (o : Office) (all : List ClosedPool) (db : Trees) (totals : Totals) → AreTotalsOf totals [] → WritesSome o all [] db db totals
none_written o all db totals comes = record {
  others = others_same layout.credits_table db;
  lines = λ book works reached. IsPermutation-refl (rows_in layout.credits_table db);
  comes = λ book works reached. comes;
}

module _ (o : Office) (closed : List ClosedPool) (works : PoolWorks) (i : ℕ) (one : ClosedPool) (within : i < length closed) (is : one ≡ get_or closed i one) (old mid : Trees) (before : Totals) (listed : ListsForAll o closed old works) (so_far : WritesSome o closed (take i closed) old mid before) where
  -- what a pool looks for is listed still
  here : ListsOrder o one.order mid works
  here = lists_on o one.order works old mid so_far.others (each_here (λ (c : ClosedPool). ListsOrder o c.order old works) closed i one within is listed)

  -- one pool more
  pub some_more : (after : Totals) (new : Trees) (credits : List Credit) → WritesPool o one.pool one.order works mid new credits → ((done : List Credit) → AreTotalsOf before done → AreTotalsOf after (done ++ credits)) → WritesSome o closed (take (i + 1) closed) old new after
  some_more after new credits writes adds = record {
    others = others_on layout.credits_table old mid new so_far.others writes.adds.others;
    lines = λ book held reached.
        let its = paid book held reached in
        let L : List Row = lines_by o book (take i closed) in
        let behind : List Row = credit_lines one.pool (credits_of o book one.order) in
        let whole : L ++ behind ≡ lines_by o book (take (i + 1) closed) =
        ap (λ (l : List Row). L ++ l) (sym (append-nil behind)) ∙ sym (flat_map-append (λ (c : ClosedPool). credit_lines c.pool (credits_of o book c.order)) (take i closed) (one ∷ [])) ∙ ap (lines_by o book) (sym next) in
        subst (λ (l : List Row). IsPermutation (l ++ rows_in layout.credits_table old) (rows_in layout.credits_table new)) whole
        (added_behind (rows_in layout.credits_table old) (rows_in layout.credits_table mid) (rows_in layout.credits_table new) L behind (so_far.lines book held reached)
        (subst (λ (l : List Credit). IsPermutation (credit_lines one.pool l ++ rows_in layout.credits_table mid) (rows_in layout.credits_table new)) its writes.adds.rows));
    comes = λ book held reached.
        let its = paid book held reached in
        let whole : credits_by o book (take i closed) ++ credits ≡ credits_by o book (take (i + 1) closed) =
        ap (λ (l : List Credit). credits_by o book (take i closed) ++ l) (its ∙ sym (append-nil (credits_of o book one.order)))
        ∙ sym (flat_map-append (λ (c : ClosedPool). credits_of o book c.order) (take i closed) (one ∷ [])) ∙ ap (credits_by o book) (sym next) in
        subst (AreTotalsOf after) whole (adds (credits_by o book (take i closed)) (so_far.comes book held reached));
  }
    where
      next : take (i + 1) closed ≡ take i closed ++ one ∷ []
      next = take_more closed i one within ∙ ap (λ (z : ClosedPool). take i closed ++ z ∷ []) (sym is)

      paid : (book : Book) → HoldsWorks o book old → AreReachedIn book closed → credits ≡ credits_of o book one.order
      paid book held reached = writes.pays here book (works_on o book old mid so_far.others held) (each_here (λ (c : ClosedPool). ReachesCut book c.order) closed i one within is reached)

  -- where it cannot be paid, not all can
  pub not_all : CannotPayAmong o one.order works mid → CannotPayAll o closed old
  not_all cannot book held can = cannot here book (works_on o book old mid so_far.others held) (each_here (λ (c : ClosedPool). CanBePaid book c.order) closed i one within is can)

-- once all are written
pub all_written : (o : Office) (closed : List ClosedPool) (old new : Trees) (totals : Totals) → WritesSome o closed closed old new totals → WritesCredits o closed old new totals
all_written o closed old new totals some = record { others = some.others; lines = some.lines; comes = some.comes }

-- what a pool pays by the tables, and its lines
pub pool_written : (o : Office) (pool number : ℕ) (order : Order) (works : PoolWorks) (old mid new : Trees) (credits paid : List Credit) → number ≡ pool → credits ≡ paid → mid ≡ old → PaysAmong o order works old paid → AddsCredits number credits mid new → WritesPool o pool order works old new paid
pool_written o pool number order works old mid new credits paid number_is same unchanged pays adds = record {
  pays = pays;
  adds = subst (λ (n : ℕ). AddsCredits n paid old new) number_is (subst (λ (l : List Credit). AddsCredits number l old new) same (subst (λ (db : Trees). AddsCredits number credits db new) unchanged adds));
}
