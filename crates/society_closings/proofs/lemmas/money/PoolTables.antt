-- The tables once a pool is closed: they hold the book with it.
use Rattle.std.proofs.Common.{◌≡◌, ◌∙◌, ◌==◌, ◌++◌, ℕ, Bool, true, false, cond, List, [], ◌∷◌, Option, Some, None, refl, ap, sym, subst, arith, filter, map, append_assoc, IsPermutation, Less, Equal, Greater, Ordering}
use Rattle.std.specs.FinMap as finite
use Rattle.std.specs.FinMap.Entries.{by_order}
use Rattle.std.specs.List.{AllByRecursion, enumerate_from, flat_map}
use Rattle.std.specs.Ordering.{eq_by_cmp, is_eq, nat_cmp}
use Rattle.std.specs.Cmp.{nat_cmp_total}
use Rattle.std.proofs.lemmas.Bool.Decides.{Decides-eqb, nat_tests}
use Rattle.std.proofs.lemmas.List.{append-nil}
use Rattle.std.proofs.lemmas.List.Sorted.{IsPermutation-append_comm, IsPermutation-append_right}
use Rattle.pool_split.specs.declared.claim.Credit.{Credit}
use Rattle.share_rules.specs.declared.kind.Kind.{Kind}
use Rattle.share_rules.specs.declared.kind.Kind.TheVariants.{Performing, Mechanical}
use Rattle.share_rules.specs.declared.office.Office.{Office}
use Rattle.sqlite_keyed.proofs.ListLemmas.{IsPermutation-filter, all-map, all_weaker, filter_all, filter_none}
use Rattle.sqlite_trees.specs.Tree.{Trees, rowid}
use Rattle.sqlite_trees.specs.View.{is_int}
use Rattle.sqlite_value.specs.Order.{Row}
use Rattle.society_core.proofs.lemmas.Books.{sound_with_pool}
use Rattle.society_core.proofs.lemmas.ClosedPools.{PaysAlike, credits_same}
use Rattle.society_core.proofs.lemmas.PoolLemmas.{each_pool}
use Rattle.society_core.specs.Book.{Book, IsSound, is_pool_entry, line, order_at, with_pool}
use Rattle.society_core.specs.Orders.{IsOrder, Order, names_return}
use Rattle.society_core.specs.Pools.{all_credits, credits_of}
use Rattle.society_core.specs.declared.return_key.ReturnKey.{ReturnKey}
use Rattle.society_core.specs.declared.transmission_key.TransmissionKey.{TransmissionKey}
use Rattle.society_rows.specs.Layout as layout
use Rattle.society_rows.specs.Layout.{written_out}
use Rattle.society_rows.specs.Stored.{AreNumbered, rows_in}
use Rattle.society_book.specs.BookRows.{cut_row, is_of_pool, marks_by, marks_of, paid_row, pool_row, row_of_some, rows_of_order}
use Rattle.society_book.specs.Columns.{HasRows, whole_number_at}
use Rattle.society_book.specs.DerivedRows.{balance_rows, credit_row, credit_rows_by, is_named}
use Rattle.society_book.specs.Kept.{HoldsBook}
use Rattle.society_closings.specs.Closings.{AddsPool}
use Rattle.society_closings.proofs.lemmas.money.BalanceAdds.{of_account, rows_by, same_balance}
use Rattle.society_book.proofs.lemmas.money.PoolsAlike.{of_order, of_pools}
use Rattle.society_book.proofs.lemmas.rows_alike.RowLemmas.{more_rows}
use Rattle.society_book.proofs.lemmas.rows_alike.KeptTables.{rows_kept, same_permutation, kept_but}

tie : (n m : ℕ) → eq_by_cmp nat_cmp n m ≡ (n == m)
tie n m = grind (arith, nat_tests)

-- ---- one entry more in a map of pools

-- what some entries give, with what one more gives behind them, is what they give once it stands at its place
put_gives : {X : Type 0} (f : Order → List X) (k : ℕ) (v : Order) (es : List (ℕ × Order)) → finite.find nat_cmp k es ≡ None → IsPermutation (flat_map f (map (λ e. e.1) es) ++ f v) (flat_map f (map (λ e. e.1) (finite.put nat_cmp k v es)))
put_gives f k v [] none = same_permutation (sym (append-nil (f v)))
put_gives f k v (e ∷ es) none = by_cmp (nat_cmp k e.0) refl (put_gives f k v es)
  where
    by_cmp : (r : Ordering) → nat_cmp k e.0 ≡ r → (finite.find nat_cmp k es ≡ None → IsPermutation (flat_map f (map (λ e. e.1) es) ++ f v) (flat_map f (map (λ e. e.1) (finite.put nat_cmp k v es)))) → IsPermutation ((f e.1 ++ flat_map f (map (λ e. e.1) es)) ++ f v) (flat_map f (map (λ e. e.1) (by_order r ((k, v) ∷ e ∷ es) ((e.0, v) ∷ es) (e ∷ finite.put nat_cmp k v es))))
    by_cmp Less is later = IsPermutation-append_comm (f e.1 ++ flat_map f (map (λ e. e.1) es)) (f v)
    by_cmp Equal is later = absurd (let found = sym none ∙ ap (λ (o : Ordering). cond (is_eq o) (Some e.1) (finite.find nat_cmp k es)) is in cc)
    by_cmp Greater is later =
        let others : finite.find nat_cmp k es ≡ None = ap (λ (o : Ordering). cond (is_eq o) (Some e.1) (finite.find nat_cmp k es)) (sym is) ∙ none in
        subst (λ l. IsPermutation l (f e.1 ++ flat_map f (map (λ e. e.1) (finite.put nat_cmp k v es)))) (sym (append_assoc (f e.1) (flat_map f (map (λ e. e.1) es)) (f v)))
        (IsPermutation-append_right (f e.1) (flat_map f (map (λ e. e.1) es) ++ f v) (flat_map f (map (λ e. e.1) (finite.put nat_cmp k v es))) (later others))

-- rows with one number in a column
abbrev AreAt : ℕ → ℕ → List Row → Type 0
AreAt at pool rows = AllByRecursion (λ row. whole_number_at at row ≡ pool) rows

of_one : (at pool : ℕ) (rows : List Row) → AreAt at pool rows → (q : ℕ) → filter (is_of_pool at q) rows ≡ cond (q == pool) rows []
of_one at pool rows all q = by_case (q == pool) refl
  where
    by_case : (x : Bool) → (q == pool) ≡ x → filter (is_of_pool at q) rows ≡ cond x rows []
    by_case true is = filter_all (is_of_pool at q) rows (all_weaker (λ row. whole_number_at at row ≡ pool) (λ row. is_of_pool at q row ≡ true) (λ row its. ap (λ (n : ℕ). q == n) its ∙ is) rows all)
    by_case false is = filter_none (is_of_pool at q) rows (all_weaker (λ row. whole_number_at at row ≡ pool) (λ row. is_of_pool at q row ≡ false) (λ row its. ap (λ (n : ℕ). q == n) its ∙ is) rows all)

cuts_at : (pool : ℕ) (keys : List TransmissionKey) → AreAt 0 pool (map (cut_row pool) keys)
cuts_at pool keys = all-map (λ row. whole_number_at 0 row ≡ pool) (cut_row pool) (λ key. refl) keys

paid_at : (pool : ℕ) (keys : List ReturnKey) → AreAt 2 pool (map (paid_row pool) keys)
paid_at pool keys = all-map (λ row. whole_number_at 2 row ≡ pool) (paid_row pool) (λ key. refl) keys

marks_at : (pool : ℕ) (kind : Kind) → AreAt 0 pool (marks_of pool kind)
marks_at pool Performing = tt
marks_at pool Mechanical = (refl, tt)

lines_at : (pool from : ℕ) (cs : List Credit) → AreAt 0 pool (map (λ line. credit_row pool line.0 line.1) (enumerate_from from cs))
lines_at pool from cs = all-map (λ row. whole_number_at 0 row ≡ pool) (λ (line : ℕ × Credit). credit_row pool line.0 line.1) (λ line. refl) (enumerate_from from cs)

module _ (o : Office) (b : Book) (pool : ℕ) (order : Order) (free : order_at b pool ≡ None) where
  abbrev pub closed : Book
  closed = with_pool b pool order

  told_closed : (q : ℕ) → order_at closed q ≡ cond (q == pool) (Some order) (order_at b q)
  told_closed q = finite.get-insert nat_cmp_total b.pools pool order q ∙ ap (λ x. cond x (Some order) (order_at b q)) (tie q pool)

  -- what a pool is to have once this one is closed
  pool_more : (at : ℕ) (had has : ℕ → Option Order → List Row) (more : List Row) → AreAt at pool more → had pool None ≡ [] → has pool (Some order) ≡ more → ((q : ℕ) → has q (order_at b q) ≡ had q (order_at b q)) → (q : ℕ) → has q (order_at closed q) ≡ filter (is_of_pool at q) more ++ had q (order_at b q)
  pool_more at had has more its none here still q = by_case (q == pool) refl
    where
      by_case : (x : Bool) → (q == pool) ≡ x → has q (order_at closed q) ≡ filter (is_of_pool at q) more ++ had q (order_at b q)
      by_case true is =
          let one : q ≡ pool = (Decides-eqb q pool).0 is in
          ap (has q) (told_closed q ∙ ap (λ x. cond x (Some order) (order_at b q)) is)
          ∙ ap (λ (k : ℕ). has k (Some order)) one ∙ here
          ∙ sym (append-nil more)
          ∙ sym (ap (λ l. l ++ had q (order_at b q)) (of_one at pool more its q ∙ ap (λ x. cond x more []) is) ∙ ap (λ l. more ++ l) (ap (λ (k : ℕ). had k (order_at b k)) one ∙ ap (had pool) free ∙ none))
      by_case false is =
          ap (has q) (told_closed q ∙ ap (λ x. cond x (Some order) (order_at b q)) is)
          ∙ still q
          ∙ sym (ap (λ l. l ++ had q (order_at b q)) (of_one at pool more its q ∙ ap (λ x. cond x more []) is))

  pays_closed : PaysAlike b closed
  unfolding line
  pays_closed = record { sent = λ s n within. refl; returned = λ key there. refl }

  module _ (entry : is_pool_entry b pool order ≡ true) where
    own_credits : credits_of o closed order ≡ credits_of o b order
    own_credits = sym (credits_same o b closed pool order pays_closed entry)

    -- all credits are those of before and those of this pool
    credits_closed : IsSound b → IsPermutation (all_credits o b ++ credits_of o b order) (all_credits o closed)
    credits_closed sound =
        let es = finite.entries b.pools in
        let none : finite.find nat_cmp pool es ≡ None = sym (finite.get-entries b.pools pool) ∙ free in
        let before : flat_map (credits_of o b) (map (λ e. e.1) es) ≡ flat_map (credits_of o closed) (map (λ e. e.1) es) = of_pools o b closed sound pays_closed es (each_pool b) in
        subst (λ (es : List (ℕ × Order)). IsPermutation (all_credits o b ++ credits_of o b order) (flat_map (credits_of o closed) (map (λ e. e.1) es))) (sym (finite.entries-insert nat_cmp_total b.pools pool order))
        (subst (λ (l : List Credit). IsPermutation (l ++ credits_of o b order) (flat_map (credits_of o closed) (map (λ e. e.1) (finite.put nat_cmp pool order es)))) (sym before)
        (subst (λ (l : List Credit). IsPermutation (flat_map (credits_of o closed) (map (λ e. e.1) es) ++ l) (flat_map (credits_of o closed) (map (λ e. e.1) (finite.put nat_cmp pool order es)))) own_credits
        (put_gives (credits_of o closed) pool order es none)))

    balances_closed : IsSound b → (a : List ℕ) → rows_by (all_credits o b ++ credits_of o b order) a ≡ balance_rows o closed a
    balances_closed sound a =
        same_balance a (of_account a (all_credits o b ++ credits_of o b order)) (of_account a (all_credits o closed))
        (IsPermutation-filter _ (all_credits o b ++ credits_of o b order) (all_credits o closed) (credits_closed sound))

    -- with the rows of this pool and of what it pays more, the tables hold the book with it
    pub pool_added : (old new : Trees) → HoldsBook o b old → IsOrder order → ((other : ℕ) (another : Order) (key : ReturnKey) → order_at b other ≡ Some another → names_return key order ≡ true → names_return key another ≡ true → ⊥) → AddsPool pool order (credits_of o b order) old new → HasRows is_named (rows_by (all_credits o b ++ credits_of o b order)) (rows_in layout.balances new) → AreNumbered layout.balances new → HoldsBook o closed new
    unfolding line written_out
    pool_added old new holds is unpaid closes balances numbered =
        let keeps = kept_but (layout.pools.tree ∷ layout.pool_cuts.tree ∷ layout.pool_returns.tree ∷ layout.mechanical_pools.tree ∷ layout.credits_table.tree ∷ layout.balances.tree ∷ []) old new closes.others in
        let grown = λ (at : ℕ) (F : ℕ → Option Order → List Row) (more : List Row) (its : AreAt at pool more) (none : F pool None ≡ []) (here : F pool (Some order) ≡ more) (q : ℕ). same_permutation (pool_more at F F more its none here (λ p. refl) q) in
        record {
          registered = rows_kept layout.office old new (keeps.office refl) ∙ holds.registered;
          sound = sound_with_pool b pool order holds.sound entry is unpaid;
          kept = record {
            transmissions = subst (HasRows _ _) (sym (rows_kept layout.transmissions old new (keeps.transmissions refl))) holds.kept.transmissions;
            returns = subst (HasRows _ _) (sym (rows_kept layout.returns old new (keeps.returns refl))) holds.kept.returns;
            pools = more_rows (is_of_pool 0) (λ q. row_of_some (pool_row q) (order_at b q)) (λ q. row_of_some (pool_row q) (order_at closed q)) (pool_row pool order ∷ []) (rows_in layout.pools old) (rows_in layout.pools new) holds.kept.pools (grown 0 (λ q. row_of_some (pool_row q)) (pool_row pool order ∷ []) (refl, tt) refl refl) closes.pools;
            cuts = more_rows (is_of_pool 0) (λ q. rows_of_order (cut_row q) (λ r. r.cut) (order_at b q)) (λ q. rows_of_order (cut_row q) (λ r. r.cut) (order_at closed q)) (map (cut_row pool) order.cut) (rows_in layout.pool_cuts old) (rows_in layout.pool_cuts new) holds.kept.cuts (grown 0 (λ q. rows_of_order (cut_row q) (λ r. r.cut)) (map (cut_row pool) order.cut) (cuts_at pool order.cut) refl refl) closes.cuts;
            paid = more_rows (is_of_pool 2) (λ q. rows_of_order (paid_row q) (λ r. r.returns) (order_at b q)) (λ q. rows_of_order (paid_row q) (λ r. r.returns) (order_at closed q)) (map (paid_row pool) order.returns) (rows_in layout.pool_returns old) (rows_in layout.pool_returns new) holds.kept.paid (grown 2 (λ q. rows_of_order (paid_row q) (λ r. r.returns)) (map (paid_row pool) order.returns) (paid_at pool order.returns) refl refl) closes.paid;
            ends = subst (HasRows _ _) (sym (rows_kept layout.segment_ends old new (keeps.ends refl))) holds.kept.ends;
            mechanical = more_rows (is_of_pool 0) (λ q. marks_by q (order_at b q)) (λ q. marks_by q (order_at closed q)) (marks_of pool order.kind) (rows_in layout.mechanical_pools old) (rows_in layout.mechanical_pools new) holds.kept.mechanical (grown 0 marks_by (marks_of pool order.kind) (marks_at pool order.kind) refl refl) closes.marks;
          };
          derived = record {
            fronts = subst (HasRows _ _) (sym (rows_kept layout.fronts old new (keeps.fronts refl))) holds.derived.fronts;
            verdicts = subst (HasRows _ _) (sym (rows_kept layout.verdicts old new (keeps.verdicts refl))) holds.derived.verdicts;
            versions = subst (HasRows _ _) (sym (rows_kept layout.versions old new (keeps.versions refl))) holds.derived.versions;
            recordings = subst (HasRows _ _) (sym (rows_kept layout.recordings old new (keeps.recordings refl))) holds.derived.recordings;
            credits = more_rows (is_of_pool 0) (λ q. credit_rows_by o b q (order_at b q)) (λ q. credit_rows_by o closed q (order_at closed q)) (map (λ line. credit_row pool line.0 line.1) (enumerate_from 0 (credits_of o b order))) (rows_in layout.credits_table old) (rows_in layout.credits_table new) holds.derived.credits
                (λ q. same_permutation (pool_more 0 (credit_rows_by o b) (credit_rows_by o closed) (map (λ line. credit_row pool line.0 line.1) (enumerate_from 0 (credits_of o b order))) (lines_at pool 0 (credits_of o b order)) refl (ap (λ (cs : List Credit). map (λ line. credit_row pool line.0 line.1) (enumerate_from 0 cs)) own_credits) (λ p. of_order o b closed holds.sound pays_closed p (order_at b p) refl) q)) closes.lines;
            balances = λ a. subst (λ (l : List Row). IsPermutation l (filter (is_named a) (rows_in layout.balances new))) (balances_closed holds.sound a) (balances a);
          };
          numbered = (subst (AllByRecursion (λ r. is_int (rowid r) ≡ true)) (sym (keeps.fronts refl)) holds.numbered.0, numbered);
        }
