-- Tables to which what the pools pay is written hold the whole book.
use Rattle.std.proofs.Common.{◌≡◌, ◌∙◌, ◌+◌, ◌++◌, ◌&&◌, ◌==◌, ℕ, Bool, true, false, cond, List, [], ◌∷◌, Some, IsPermutation, ap, arith, filter, is_some, length, map, refl, subst, sym}
use Rattle.std.proofs.lemmas.Bool.Decides.{nat_tests}
use Rattle.std.proofs.lemmas.List.{append-nil}
use Rattle.std.proofs.lemmas.List.Elements.{filter-append}
use Rattle.std.specs.FinMap as finite
use Rattle.std.specs.List.{AllByRecursion, enumerate_from, list_all}
use Rattle.sqlite_keyed.proofs.ListLemmas.{IsPermutation-filter}
use Rattle.pool_split.specs.declared.claim.Credit.{Credit}
use Rattle.share_rules.specs.declared.office.Office.{Office}
use Rattle.sqlite_trees.specs.Tree.{Trees, rowid}
use Rattle.sqlite_trees.specs.View.{is_int}
use Rattle.sqlite_value.specs.Order.{Row}
use Rattle.society_core.specs.Book.{Book, IsSound, is_applied, return_at}
use Rattle.society_core.specs.Pools.{credits_of}
use Rattle.society_core.specs.declared.return_key.ReturnKey.{ReturnKey}
use Rattle.society_rows.specs.Layout as layout
use Rattle.society_rows.specs.Layout.{all_tables, written_out}
use Rattle.society_rows.specs.Listings.{ListsAll}
use Rattle.society_rows.specs.Reads.{has_key}
use Rattle.society_rows.specs.Stored.{AreNumbered, rows_in}
use Rattle.society_rows.specs.TableNames.{table_called}
use Rattle.society_rows.specs.declared.tables.TableName.{TableName}
use Rattle.society_rows.specs.declared.tables.TableName.TheVariants as name
use Rattle.society_book.specs.BookRows.{book_of, end_entry, end_rows, is_end_row, is_of_pool, is_return_row, is_transmission_row, pool_entry, return_entry, return_rows, transmission_entry, transmission_rows}
use Rattle.society_book.specs.Columns.{HasRows, whole_number_at}
use Rattle.society_book.specs.DerivedRows.{credit_row, credit_rows, credit_rows_by, front_rows, is_named, tells_recordings, tells_verdict, tells_version, told_to_front}
use Rattle.society_book.specs.Kept.{HoldsOwnBook}
use Rattle.society_book.specs.Sources.{HoldsWorks}
use Rattle.society_book.proofs.lemmas.rows_alike.KeptTables.{rows_kept}
use Rattle.society_book.proofs.lemmas.rows_alike.BookLemmas.{numbers_tie}
use Rattle.book_audit.specs.Balances.{HasBalances}
use Rattle.book_audit.specs.Credits.{credit_lines}
use Rattle.book_audit.specs.Paying.{AreApart, AreReachedIn, HoldsUnpaid, credits_by, order_among, unpaid}
use Rattle.book_audit.specs.Standing.{CanStand, FindsOrders, HoldsLines, columns_of_return}
use Rattle.book_audit.specs.declared.pool_orders.ClosedPool.{ClosedPool}
use Rattle.book_audit.specs.declared.totals.Totals.{Totals}
use Rattle.book_audit.proofs.lemmas.Among.{got, orders_apart}
use Rattle.book_audit.proofs.lemmas.Whole as whole
use Rattle.book_derivation.specs.Deriving.{HasNoMoney}
use Rattle.book_derivation.specs.Money.{KeepsUnpaid, WritesBalances, WritesCredits, WritesMoney, lines_by}
use Rattle.book_derivation.proofs.lemmas.Additions.{unpaid_on}

-- every table but those of what pools pay is as it was
pub record KeptUnpaid (old new : Trees) : Type 0 where
  pub office : new layout.office.tree ≡ old layout.office.tree
  pub transmissions : new layout.transmissions.tree ≡ old layout.transmissions.tree
  pub returns : new layout.returns.tree ≡ old layout.returns.tree
  pub pools : new layout.pools.tree ≡ old layout.pools.tree
  pub pool_cuts : new layout.pool_cuts.tree ≡ old layout.pool_cuts.tree
  pub pool_returns : new layout.pool_returns.tree ≡ old layout.pool_returns.tree
  pub fronts : new layout.fronts.tree ≡ old layout.fronts.tree
  pub verdicts : new layout.verdicts.tree ≡ old layout.verdicts.tree
  pub versions : new layout.versions.tree ≡ old layout.versions.tree
  pub recordings : new layout.recordings.tree ≡ old layout.recordings.tree
  pub ends : new layout.segment_ends.tree ≡ old layout.segment_ends.tree
  pub mechanical : new layout.mechanical_pools.tree ≡ old layout.mechanical_pools.tree

kept_unpaid : (old new : Trees) → KeepsUnpaid old new → KeptUnpaid old new
unfolding all_tables written_out
kept_unpaid old new keeps = record {
  office = keeps.0 (λ e. omega (arith, e)) (λ e. omega (arith, e));
  transmissions = keeps.1.0 (λ e. omega (arith, e)) (λ e. omega (arith, e));
  returns = keeps.1.1.0 (λ e. omega (arith, e)) (λ e. omega (arith, e));
  pools = keeps.1.1.1.0 (λ e. omega (arith, e)) (λ e. omega (arith, e));
  pool_cuts = keeps.1.1.1.1.0 (λ e. omega (arith, e)) (λ e. omega (arith, e));
  pool_returns = keeps.1.1.1.1.1.0 (λ e. omega (arith, e)) (λ e. omega (arith, e));
  fronts = keeps.1.1.1.1.1.1.0 (λ e. omega (arith, e)) (λ e. omega (arith, e));
  verdicts = keeps.1.1.1.1.1.1.1.0 (λ e. omega (arith, e)) (λ e. omega (arith, e));
  versions = keeps.1.1.1.1.1.1.1.1.0 (λ e. omega (arith, e)) (λ e. omega (arith, e));
  recordings = keeps.1.1.1.1.1.1.1.1.1.0 (λ e. omega (arith, e)) (λ e. omega (arith, e));
  ends = keeps.1.1.1.1.1.1.1.1.1.1.1.1.0 (λ e. omega (arith, e)) (λ e. omega (arith, e));
  mechanical = keeps.1.1.1.1.1.1.1.1.1.1.1.1.1.0 (λ e. omega (arith, e)) (λ e. omega (arith, e));
}

-- where but credits are written the balances stay, and the other way
pub balances_stay : (old new : Trees) (totals : Totals) (o : Office) (closed : List ClosedPool) → WritesCredits o closed old new totals → new layout.balances.tree ≡ old layout.balances.tree
unfolding all_tables written_out
balances_stay old new totals o closed writes = writes.others.1.1.1.1.1.1.1.1.1.1.1.0 (λ e. omega (arith, e))

pub credits_stay : (old new : Trees) (totals : Totals) → WritesBalances totals old new → new layout.credits_table.tree ≡ old layout.credits_table.tree
unfolding all_tables written_out
credits_stay old new totals writes = writes.others.1.1.1.1.1.1.1.1.1.1.0 (λ e. omega (arith, e))

-- rows of one book are those of the same, where the tables are the same
moved : {K : Type 0} (is_of : K → Row → Bool) (rows : Book → K → List Row) (b c : Book) (xs ys : List Row) → b ≡ c → xs ≡ ys → HasRows is_of (rows b) xs → HasRows is_of (rows c) ys
moved is_of rows b c xs ys book same has = subst (HasRows is_of (rows c)) same (subst (λ (x : Book). HasRows is_of (rows x) xs) book has)

lists_on : (table : TableName) (old new : Trees) (rows : List Row) → rows_in (table_called table) new ≡ rows_in (table_called table) old → ListsAll table old rows → ListsAll table new rows
lists_on table old new rows same lists = record {
  rows = subst (λ (l : List Row). IsPermutation (filter (λ (_ : Row). true) l) rows) (sym same) lists.rows;
  sorted = lists.sorted;
}

-- ---- the lines of credits of each pool

lines_numbered : (q p n : ℕ) (cs : List Credit) → filter (is_of_pool 0 q) (map (λ line. credit_row p line.0 line.1) (enumerate_from n cs)) ≡ cond (q == p) (map (λ line. credit_row p line.0 line.1) (enumerate_from n cs)) []
lines_numbered q p n [] = neither (q == p)
  where
    neither : (x : Bool) → ◌≡◌ {A = List Row} [] (cond x [] [])
    neither true = refl
    neither false = refl
lines_numbered q p n (c ∷ cs) = by_case (q == p) (lines_numbered q p (n + 1) cs)
  where
    later : List Row
    later = map (λ line. credit_row p line.0 line.1) (enumerate_from (n + 1) cs)

    by_case : (x : Bool) → filter (is_of_pool 0 q) later ≡ cond x later [] → cond x (credit_row p n c ∷ filter (is_of_pool 0 q) later) (filter (is_of_pool 0 q) later) ≡ cond x (credit_row p n c ∷ later) []
    by_case true is = ap (λ (l : List Row). credit_row p n c ∷ l) is
    by_case false is = is

same_number : (q p : ℕ) → (q == p) ≡ true → q ≡ p
same_number q p is = grind (arith, nat_tests)

-- the lines of a pool among those of all
lines_of_pool : (o : Office) (b : Book) (closed : List ClosedPool) → AreApart closed → (q : ℕ) → filter (is_of_pool 0 q) (lines_by o b closed) ≡ credit_rows_by o b q (order_among q closed)
lines_of_pool o b [] apart q = refl
lines_of_pool o b (c ∷ closed) apart q =
    filter-append (is_of_pool 0 q) here (lines_by o b closed)
    ∙ ap (λ (l : List Row). l ++ filter (is_of_pool 0 q) (lines_by o b closed)) (lines_numbered q c.pool 0 (credits_of o b c.order))
    ∙ by_case (q == c.pool) refl (lines_of_pool o b closed apart.1 q)
    ∙ ap (λ (x : Bool). credit_rows_by o b q (cond x (Some c.order) (order_among q closed))) (sym (numbers_tie q c.pool))
  where
    here : List Row
    here = credit_lines c.pool (credits_of o b c.order)

    by_case : (x : Bool) → (q == c.pool) ≡ x → filter (is_of_pool 0 q) (lines_by o b closed) ≡ credit_rows_by o b q (order_among q closed)
        → cond x here [] ++ filter (is_of_pool 0 q) (lines_by o b closed) ≡ credit_rows_by o b q (cond x (Some c.order) (order_among q closed))
    by_case true is later =
        let same = same_number q c.pool is in
        let none : filter (is_of_pool 0 q) (lines_by o b closed) ≡ [] = later ∙ ap (credit_rows_by o b q) (ap (λ (n : ℕ). order_among n closed) same ∙ apart.0) in
        ap (λ (l : List Row). here ++ l) none ∙ append-nil here ∙ ap (λ (n : ℕ). credit_lines n (credits_of o b c.order)) (sym same)
    by_case false is later = later

module _ (o : Office) (old new : Trees) (kept : KeptUnpaid old new) where
  same_book : book_of old ≡ book_of new
  unfolding book_of
  same_book = λ i. record {
    transmissions = finite.from_entries (map transmission_entry (sym (rows_kept layout.transmissions old new kept.transmissions) i));
    ends = finite.from_entries (map end_entry (sym (rows_kept layout.segment_ends old new kept.ends) i));
    returns = finite.from_entries (map return_entry (sym (rows_kept layout.returns old new kept.returns) i));
    pools = finite.from_entries
        (map
        (pool_entry (sym (rows_kept layout.pool_cuts old new kept.pool_cuts) i) (sym (rows_kept layout.pool_returns old new kept.pool_returns) i) (sym (rows_kept layout.mechanical_pools old new kept.mechanical) i))
        (sym (rows_kept layout.pools old new kept.pools) i));
  }

  -- all of the book but what its pools are and pay stays
  pub unpaid_stays : AreNumbered layout.balances new → HoldsUnpaid o old → HoldsUnpaid o new
  unpaid_stays numbered held =
      let b = book_of old in
      let c = book_of new in
      record {
        registered = rows_kept layout.office old new kept.office ∙ held.registered;
        sound = subst (λ (x : Book). IsSound (unpaid x)) same_book held.sound;
        bodies = record {
          transmissions = moved is_transmission_row transmission_rows b c _ _ same_book (sym (rows_kept layout.transmissions old new kept.transmissions)) held.bodies.transmissions;
          returns = moved is_return_row return_rows b c _ _ same_book (sym (rows_kept layout.returns old new kept.returns)) held.bodies.returns;
        };
        ends = moved is_end_row end_rows b c _ _ same_book (sym (rows_kept layout.segment_ends old new kept.ends)) held.ends;
        fronts = moved is_named (front_rows o) b c _ _ same_book (sym (rows_kept layout.fronts old new kept.fronts)) held.fronts;
        verdicts = moved is_named (told_to_front tells_verdict o) b c _ _ same_book (sym (rows_kept layout.verdicts old new kept.verdicts)) held.verdicts;
        versions = moved is_named (told_to_front tells_version o) b c _ _ same_book (sym (rows_kept layout.versions old new kept.versions)) held.versions;
        recordings = moved is_named (told_to_front tells_recordings o) b c _ _ same_book (sym (rows_kept layout.recordings old new kept.recordings)) held.recordings;
        numbered = (subst (AllByRecursion (λ (r : Row). is_int (rowid r) ≡ true)) (sym kept.fronts) held.numbered.0, numbered);
      }

  -- what senders sent, returns and fronts are there as they were
  lines_back : (office : Office) (b : Book) → HoldsLines office b new → HoldsLines office b old
  lines_back office b holds = record {
    sound = holds.sound;
    sent = record {
      transmissions = subst (HasRows is_transmission_row (transmission_rows b)) (rows_kept layout.transmissions old new kept.transmissions) holds.sent.transmissions;
      ends = subst (HasRows is_end_row (end_rows b)) (rows_kept layout.segment_ends old new kept.ends) holds.sent.ends;
    };
    returns = subst (HasRows is_return_row (return_rows b)) (rows_kept layout.returns old new kept.returns) holds.returns;
    fronts = subst (HasRows is_named (front_rows office b)) (rows_kept layout.fronts old new kept.fronts) holds.fronts;
  }

  stand_on : (closed : List ClosedPool) (b : Book) → CanStand closed b old → CanStand closed b new
  stand_on closed b =
      subst
      (λ (rows : List Row). AllByRecursion
      (λ (c : ClosedPool). (list_all (is_applied b) c.order.cut && (list_all (λ (key : ReturnKey). is_some (return_at b key)) c.order.returns && list_all (λ (key : ReturnKey). length (filter (has_key (columns_of_return key)) rows) == 1) c.order.returns)) ≡ true)
      closed) (sym (rows_kept layout.pool_returns old new kept.pool_returns))

  -- the pools are as they were
  pub orders_stay : (closed : List ClosedPool) → FindsOrders old closed → FindsOrders new closed
  orders_stay closed found = record {
    rows = found.rows;
    listed = record {
      pools = lists_on name.Pools old new found.rows.pools.items (rows_kept layout.pools old new kept.pools) found.listed.pools;
      cuts = lists_on name.PoolCuts old new found.rows.cuts.items (rows_kept layout.pool_cuts old new kept.pool_cuts) found.listed.cuts;
      paid = lists_on name.PoolReturns old new found.rows.paid.items (rows_kept layout.pool_returns old new kept.pool_returns) found.listed.paid;
      marks = lists_on name.MechanicalPools old new found.rows.marks.items (rows_kept layout.mechanical_pools old new kept.mechanical) found.listed.marks;
    };
    are = found.are;
    stand = λ office book lines. stand_on closed book (found.stand office book (lines_back office book lines));
    kept = found.kept;
  }

  works_back : (b : Book) → HoldsWorks o b new → HoldsWorks o b old
  works_back b holds = record {
    sound = holds.sound;
    kept = record {
      transmissions = subst (HasRows is_transmission_row (transmission_rows b)) (rows_kept layout.transmissions old new kept.transmissions) holds.kept.transmissions;
      returns = subst (HasRows is_return_row (return_rows b)) (rows_kept layout.returns old new kept.returns) holds.kept.returns;
    };
    derived = record {
      versions = subst (HasRows is_named (told_to_front tells_version o b)) (rows_kept layout.versions old new kept.versions) holds.derived.versions;
      recordings = subst (HasRows is_named (told_to_front tells_recordings o b)) (rows_kept layout.recordings old new kept.recordings) holds.derived.recordings;
    };
  }

module _ (o : Office) (closed : List ClosedPool) (totals : Totals) (old mid new : Trees) (found : FindsOrders old closed) (credits : WritesCredits o closed old mid totals) (balances : WritesBalances totals mid new) where
  others : KeepsUnpaid old new
  others = unpaid_on old mid new credits.others balances.others

  kept : KeptUnpaid old new
  kept = kept_unpaid old new others

  orders : FindsOrders new closed
  orders = orders_stay o old new kept closed found

  module _ (none : HasNoMoney old) (unpaid_held : HoldsUnpaid o old) where
    empty : mid layout.balances.tree ≡ []
    empty = balances_stay old mid totals o closed credits ∙ none.1.0

    held : HoldsUnpaid o new
    held = unpaid_stays o old new kept (balances.numbered empty) unpaid_held

    book : Book
    book = whole.after o new closed orders held

    works : HoldsWorks o book old
    unfolding book
    works = works_back o old new kept (whole.after o new closed orders held) (whole.works o new closed orders held)

    reached : AreReachedIn book closed
    unfolding book
    reached = whole.each_reached o new closed orders held

    lines : IsPermutation (lines_by o book closed) (rows_in layout.credits_table new)
    lines =
        let so : IsPermutation (lines_by o book closed ++ rows_in layout.credits_table old) (rows_in layout.credits_table mid) = credits.lines book works reached in
        let nothing : lines_by o book closed ++ rows_in layout.credits_table old ≡ lines_by o book closed =
        ap (λ (l : List Row). lines_by o book closed ++ l) (rows_kept layout.credits_table (λ (n : ℕ). []) old none.0) ∙ append-nil (lines_by o book closed) in
        subst (IsPermutation (lines_by o book closed)) (sym (rows_kept layout.credits_table mid new (credits_stay mid new totals balances))) (subst (λ (l : List Row). IsPermutation l (rows_in layout.credits_table mid)) nothing so)

    credit_rows_held : HasRows (λ pool row. pool == whole_number_at 0 row) (credit_rows o book) (rows_in layout.credits_table new)
    unfolding book
    credit_rows_held q =
        let is : filter (is_of_pool 0 q) (lines_by o book closed) ≡ credit_rows o book q =
        lines_of_pool o book closed (orders_apart orders.rows closed orders.are) q ∙ ap (credit_rows_by o book q) (sym (got closed q)) in
        subst (λ (l : List Row). IsPermutation l (filter (is_of_pool 0 q) (rows_in layout.credits_table new))) is (IsPermutation-filter (is_of_pool 0 q) (lines_by o book closed) (rows_in layout.credits_table new) lines)

    balances_held : HasBalances (credits_by o book closed) new
    balances_held = balances.has (credits_by o book closed) (credits.comes book works reached) empty

    all_held : HoldsOwnBook o new
    unfolding book
    all_held = whole.whole_by o new closed orders held credit_rows_held (whole.balances_whole o new closed orders held balances_held)

  -- they do
  pub money_written : WritesMoney o old new
  money_written = record { others = others; holds = λ none unpaid_held. all_held none unpaid_held }
