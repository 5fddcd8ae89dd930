-- Tables that hold all of a book but its pools, and these, hold the whole book.
use Rattle.std.proofs.Common.{◌≡◌, ◌∙◌, ◌&&◌, ◌||◌, ◌==◌, ℕ, Bool, true, false, List, [], ◌∷◌, Option, Some, filter, is_some, length, map, refl, ap, arith, subst, sym, IsPermutation}
use Rattle.std.proofs.lemmas.Bool.{false≢true}
use Rattle.std.proofs.lemmas.Bool.Decides.{Decides-eqb, nat_tests}
use Rattle.std.proofs.lemmas.List.Sorted.{IsPermutation-sym, length_permutation, list_any-IsPermutation}
use Rattle.std.specs.List.{AllByRecursion, list_all, list_any}
use Rattle.sqlite_keyed.proofs.ListLemmas.{IsPermutation-filter}
use Rattle.share_rules.specs.declared.office.Office.{Office}
use Rattle.sqlite_trees.specs.Tree.{Trees}
use Rattle.sqlite_value.specs.Order.{Row}
use Rattle.society_core.proofs.lemmas.Fronts.{both_hold, first_holds, second_holds}
use Rattle.society_core.proofs.lemmas.SameOrders.{same_return_is}
use Rattle.society_core.specs.Book.{Book, IsSound, is_applied, line, order_at, return_at}
use Rattle.society_core.specs.Orders.{IsOrder, Order, names_return, same_return_key}
use Rattle.society_core.specs.Pools.{all_credits, credits_of}
use Rattle.society_core.specs.declared.return_key.ReturnKey.{ReturnKey}
use Rattle.society_rows.specs.Layout as layout
use Rattle.society_rows.specs.Reads.{has_key}
use Rattle.society_rows.specs.Stored.{rows_in}
use Rattle.society_rows.specs.declared.tables.TableName.TheVariants as name
use Rattle.society_book.specs.BookRows.{AreOfBook, book_of, cut_rows, is_of_pool, mechanical_rows, paid_row, paid_rows, pool_rows, rows_of_order}
use Rattle.society_book.specs.Columns.{HasRows, whole_number_at}
use Rattle.society_book.specs.DerivedRows.{balance_rows, credit_rows, is_named}
use Rattle.society_book.specs.Kept.{HoldsBook, HoldsOwnBook}
use Rattle.society_book.specs.Sources.{HoldsWorks}
use Rattle.society_book.proofs.lemmas.rows_alike.BookLemmas.{the_book}
use Rattle.society_book.proofs.lemmas.rows_alike.KeyRows.{both_same, keyed}
use Rattle.work_ids.specs.Blanks.{without_trailing_blanks}
use Rattle.work_ids.specs.Numbers.{is_pool_number}
use Rattle.book_audit.specs.Balances.{HasBalances}
use Rattle.book_audit.specs.Credits.{HasCredits}
use Rattle.book_audit.specs.Paying.{AreReachedIn, CompletesBook, FindsPools, HoldsUnpaid, PayIn, credits_by, unpaid}
use Rattle.book_audit.specs.Pools.{AreClosedBy, orders_by}
use Rattle.book_audit.specs.Standing.{CanStand, FindsOrders, HoldsLines, can_stand, columns_of_return, is_paid_once}
use Rattle.book_audit.specs.declared.pool_orders.ClosedPool.{ClosedPool}
use Rattle.book_audit.proofs.lemmas.Among.{credits_of_all, found_each, found_where, got, none_where, orders_apart}
use Rattle.book_audit.proofs.lemmas.OwnPools.{same_rows}
use Rattle.book_audit.proofs.lemmas.credits.CreditLines.{has_credit_rows}
use Rattle.book_audit.proofs.lemmas.orders.OwnOrders.{listed_has, listed_in}
use Rattle.book_audit.proofs.lemmas.orders.PaidOnce.{two_apart}

-- what all pass, one that is named passes
passes_named : (f : ReturnKey → Bool) (key : ReturnKey) (ks : List ReturnKey) → list_all f ks ≡ true → list_any (λ k. same_return_key k key) ks ≡ true → f key ≡ true
passes_named f key [] all some = absurd (false≢true some)
passes_named f key (k ∷ ks) all some = by_case (same_return_key k key) refl some (passes_named f key ks (second_holds (f k) (list_all f ks) all))
  where
    by_case : (t : Bool) → same_return_key k key ≡ t → (t || list_any (λ x. same_return_key x key) ks) ≡ true → (list_any (λ x. same_return_key x key) ks ≡ true → f key ≡ true) → f key ≡ true
    by_case true is some later = ap f (sym (same_return_is k key is)) ∙ first_holds (f k) (list_all f ks) all
    by_case false is some later = later some

-- a return that is named has a row under its key
named_row : (pool : ℕ) (key : ReturnKey) (ks : List ReturnKey) → list_any (λ k. same_return_key k key) ks ≡ true → list_any (has_key (columns_of_return key)) (map (paid_row pool) ks) ≡ true
named_row pool key [] some = some
named_row pool key (k ∷ ks) some = by_case (same_return_key k key) refl some (named_row pool key ks)
  where
    here : (x : ReturnKey) → has_key (columns_of_return x) (paid_row pool x) ≡ true
    here x = keyed (without_trailing_blanks x.reporter) x.number (paid_row pool x) (refl, refl) ∙ both_same (without_trailing_blanks x.reporter) x.number

    either : (x y : Bool) → y ≡ true → (x || y) ≡ true
    either true y h = refl
    either false y h = h

    first : (x y : Bool) → x ≡ true → (x || y) ≡ true
    first true y h = refl
    first false y h = absurd (false≢true h)

    by_case : (t : Bool) → same_return_key k key ≡ t → (t || list_any (λ x. same_return_key x key) ks) ≡ true → (list_any (λ x. same_return_key x key) ks ≡ true → list_any (has_key (columns_of_return key)) (map (paid_row pool) ks) ≡ true) → (has_key (columns_of_return key) (paid_row pool k) || list_any (has_key (columns_of_return key)) (map (paid_row pool) ks)) ≡ true
    by_case true is some later = first _ _ (ap (λ (x : ReturnKey). has_key (columns_of_return key) (paid_row pool x)) (same_return_is k key is) ∙ here key)
    by_case false is some later = either _ _ (later some)

module _ (o : Office) (db : Trees) (closed : List ClosedPool) (orders : FindsOrders db closed) (held : HoldsUnpaid o db) where
  abbrev before : Book
  before = unpaid (book_of db)

  -- the book that the tables stand for, with these pools
  abbrev pub after : Book
  after = record { transmissions = (book_of db).transmissions; ends = (book_of db).ends; returns = (book_of db).returns; pools = orders_by closed }

  lines : HoldsLines o before db
  unfolding line
  lines = record {
    sound = held.sound;
    sent = record { transmissions = held.bodies.transmissions; ends = held.ends };
    returns = held.bodies.returns;
    fronts = held.fronts;
  }

  -- an order that can stand, of the number of a pool
  record IsFit (c : ClosedPool) : Type 0 where
    pub number : is_pool_number c.pool ≡ true
    pub order : IsOrder c.order
    pub stands : can_stand before db c.order ≡ true

  each_fit : (rows : List Row) (some : List ClosedPool) → AreClosedBy orders.rows rows some → AllByRecursion (λ (c : ClosedPool). IsOrder c.order) some → CanStand some before db → AllByRecursion IsFit some
  each_fit [] [] are kept stand = tt
  each_fit [] (c ∷ some) are kept stand = absurd are
  each_fit (r ∷ rows) [] are kept stand = absurd are
  each_fit (r ∷ rows) (c ∷ some) are kept stand = (record { number = are.0.number; order = kept.0; stands = stand.0 }, each_fit rows some are.1 kept.1 stand.1)

  all_fit : AllByRecursion IsFit closed
  all_fit = each_fit orders.rows.pools.items closed orders.are.each orders.kept (orders.stand o before lines)

  fit_at : (q : ℕ) (x : Order) → order_at after q ≡ Some x → IsFit (record { pool = q; order = x })
  fit_at q x there = found_each IsFit q x closed all_fit (sym (got closed q) ∙ there)

  reached : (x : Order) → can_stand before db x ≡ true → list_all (is_applied after) x.cut ≡ true
  unfolding line
  reached x stands = first_holds (list_all (is_applied before) x.cut) (list_all (λ key. is_some (return_at before key)) x.returns && list_all (is_paid_once db) x.returns) stands

  rest : (x : Order) → can_stand before db x ≡ true → (list_all (λ key. is_some (return_at after key)) x.returns && list_all (is_paid_once db) x.returns) ≡ true
  rest x stands = second_holds (list_all (is_applied before) x.cut) (list_all (λ key. is_some (return_at before key)) x.returns && list_all (is_paid_once db) x.returns) stands

  there_are : (x : Order) → can_stand before db x ≡ true → list_all (λ key. is_some (return_at after key)) x.returns ≡ true
  there_are x stands = first_holds (list_all (λ key. is_some (return_at after key)) x.returns) (list_all (is_paid_once db) x.returns) (rest x stands)

  once : (x : Order) → can_stand before db x ≡ true → list_all (is_paid_once db) x.returns ≡ true
  once x stands = second_holds (list_all (λ key. is_some (return_at after key)) x.returns) (list_all (is_paid_once db) x.returns) (rest x stands)

  listed : IsPermutation (rows_in layout.pool_returns db) orders.rows.paid.items
  listed = listed_in name.PoolReturns db orders.rows.paid.items orders.listed.paid

  has_row : (q : ℕ) (x : Order) (key : ReturnKey) → order_at after q ≡ Some x → names_return key x ≡ true → list_any (has_key (columns_of_return key)) (filter (is_of_pool 2 q) orders.rows.paid.items) ≡ true
  has_row q x key there named =
      let its = subst (λ (p : Option Order). IsPermutation (rows_of_order (paid_row q) (λ order. order.returns) p) (filter (is_of_pool 2 q) orders.rows.paid.items)) there (orders.are.paid q) in
      sym (list_any-IsPermutation (has_key (columns_of_return key)) (map (paid_row q) x.returns) (filter (is_of_pool 2 q) orders.rows.paid.items) its) ∙ named_row q key x.returns named

  paid_alone : (q p : ℕ) (x y : Order) (key : ReturnKey) → order_at after q ≡ Some x → order_at after p ≡ Some y → names_return key x ≡ true → names_return key y ≡ true → q ≡ p
  paid_alone q p x y key there other named also = by_case (q == p) refl
    where
      h : Row → Bool
      h = has_key (columns_of_return key)

      one : length (filter h orders.rows.paid.items) ≡ 1
      one =
          length_permutation (filter h (rows_in layout.pool_returns db)) (filter h orders.rows.paid.items) (IsPermutation-filter h (rows_in layout.pool_returns db) orders.rows.paid.items listed)
          ∙ (Decides-eqb (length (filter h (rows_in layout.pool_returns db))) 1).0 (passes_named (is_paid_once db) key x.returns (once x (fit_at q x there).stands) named)

      by_case : (t : Bool) → (q == p) ≡ t → q ≡ p
      by_case true is = (Decides-eqb q p).0 is
      by_case false is =
          let two = two_apart h (is_of_pool 2 q) (is_of_pool 2 p) orders.rows.paid.items (λ row a b. let same : q ≡ p = grind (arith, nat_tests) in false≢true (sym is ∙ (Decides-eqb q p).1 same)) (has_row q x key there named) (has_row p y key other also) in
          absurd (omega (arith, two, one))

  sound : IsSound after
  unfolding line
  sound = record {
    transmissions = held.sound.transmissions;
    ends = held.sound.ends;
    within = held.sound.within;
    returns = held.sound.returns;
    pools = λ q x there.
        let fit = fit_at q x there in
        both_hold (is_pool_number q && list_all (is_applied after) x.cut) (list_all (λ key. is_some (return_at after key)) x.returns)
        (both_hold (is_pool_number q) (list_all (is_applied after) x.cut) fit.number (reached x fit.stands)) (there_are x fit.stands);
    orders = λ q x there. (fit_at q x there).order;
    paid_once = λ q p x y key there other named also. paid_alone q p x y key there other named also;
  }

  own : AreOfBook after db
  own = record {
    transmissions = held.bodies.transmissions;
    returns = held.bodies.returns;
    pools = listed_has (is_of_pool 0) (pool_rows after) orders.rows.pools.items (rows_in layout.pools db) orders.are.pools (IsPermutation-sym (rows_in layout.pools db) orders.rows.pools.items (listed_in name.Pools db orders.rows.pools.items orders.listed.pools));
    cuts = listed_has (is_of_pool 0) (cut_rows after) orders.rows.cuts.items (rows_in layout.pool_cuts db) orders.are.cuts (IsPermutation-sym (rows_in layout.pool_cuts db) orders.rows.cuts.items (listed_in name.PoolCuts db orders.rows.cuts.items orders.listed.cuts));
    paid = listed_has (is_of_pool 2) (paid_rows after) orders.rows.paid.items (rows_in layout.pool_returns db) orders.are.paid (IsPermutation-sym (rows_in layout.pool_returns db) orders.rows.paid.items listed);
    ends = held.ends;
    mechanical = listed_has (is_of_pool 0) (mechanical_rows after) orders.rows.marks.items (rows_in layout.mechanical_pools db) orders.are.marks (IsPermutation-sym (rows_in layout.mechanical_pools db) orders.rows.marks.items (listed_in name.MechanicalPools db orders.rows.marks.items orders.listed.marks));
  }

  pub works : HoldsWorks o after db
  unfolding line
  works = record { sound = sound; kept = record { transmissions = held.bodies.transmissions; returns = held.bodies.returns }; derived = record { versions = held.versions; recordings = held.recordings } }

  all_reached : (some : List ClosedPool) → AllByRecursion IsFit some → AreReachedIn after some
  all_reached [] fit = tt
  all_reached (c ∷ some) fit = (reached c.order fit.0.stands, all_reached some fit.1)

  -- all cuts are reached in it
  pub each_reached : AreReachedIn after closed
  each_reached = all_reached closed all_fit

  -- the balances of what its pools pay are those of the book
  pub balances_whole : HasBalances (credits_by o after closed) db → HasRows is_named (balance_rows o after) (rows_in layout.balances db)
  balances_whole has account =
      subst (λ (l : List Row). IsPermutation l (filter (is_named account) (rows_in layout.balances db)))
      (same_rows (credits_by o after closed) (all_credits o after) (credits_of_all o after closed (orders_apart orders.rows closed orders.are) (λ q. refl)) account) (has account)

  module _ (credits : HasRows (λ pool row. pool == whole_number_at 0 row) (credit_rows o after) (rows_in layout.credits_table db)) (balances : HasRows is_named (balance_rows o after) (rows_in layout.balances db)) where
    whole : HoldsBook o after db
    unfolding line
    whole = record {
      registered = held.registered;
      sound = sound;
      kept = own;
      derived = record {
        fronts = held.fronts;
        verdicts = held.verdicts;
        versions = held.versions;
        recordings = held.recordings;
        credits = credits;
        balances = balances;
      };
      numbered = held.numbered;
    }

    -- with the lines of credits and the balances of the book it is whole
    pub whole_by : HoldsOwnBook o db
    whole_by = subst (λ (x : Book). HoldsBook o x db) (sym (the_book after db sound own)) whole

  module _ (found : FindsPools o closed db) where
    paid : PayIn o after db closed × HasBalances (credits_by o after closed) db
    paid = found.paid after works each_reached

    credits : HasRows (λ pool row. pool == whole_number_at 0 row) (credit_rows o after) (rows_in layout.credits_table db)
    credits =
        has_credit_rows o after db found.numbers found.owners
        (λ q there.
        let one = found_where q closed (sym (found.these q) ∙ there) in
        (one.0, got closed q ∙ one.1, found_each (λ (c : ClosedPool). HasCredits c.pool (credits_of o after c.order) db) q one.0 closed paid.0 one.1))
        (λ q none. got closed q ∙ none_where q closed (sym (found.these q) ∙ none))

    completed : HoldsOwnBook o db
    completed = whole_by credits (balances_whole paid.1)

-- so they do
pub completes : (o : Office) (db : Trees) (closed : List ClosedPool) → FindsOrders db closed → FindsPools o closed db → CompletesBook o db
completes o db closed orders found held = completed o db closed orders held found
