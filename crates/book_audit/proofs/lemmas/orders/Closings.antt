-- The rows of pools, of their cuts, of the returns that they pay and of their marks are those of the orders that were made of them.
use Rattle.std.proofs.Common.{◌≡◌, ◌∙◌, ◌≤◌, ◌==◌, ◌⊎◌, inl, inr, ◌||◌, ℕ, ℤ, pos, negsuc, nat_abs, Bool, true, false, cond, List, [], ◌∷◌, ◌++◌, Option, Some, None, filter, length, map, if◌then◌else◌, ap, ap₂, refl, sym, subst, arith, IsPermutation}
use Rattle.std.proofs.lemmas.Bool.{false≢true}
use Rattle.std.proofs.lemmas.Bool.Decides.{nat_tests}
use Rattle.std.proofs.lemmas.Cmp.{nat_cmp_total}
use Rattle.std.proofs.lemmas.List.Sorted.{IsPermutation-map, IsPermutation-refl, IsPermutation-sym}
use Rattle.std.specs.BTreeSet.{BTreeSet, contains}
use Rattle.std.specs.FinMap as finite
use Rattle.std.specs.FinMap.{find, get-from_entries}
use Rattle.std.specs.Int.{FitsUnsignedBits}
use Rattle.std.specs.List.{AllByRecursion, list_any}
use Rattle.std.specs.Ordering.{eq_by_cmp, nat_cmp}
use Rattle.sqlite_keyed.proofs.ListLemmas.{filter_none}
use Rattle.sqlite_value.specs.Order.{Row}
use Rattle.sqlite_value.specs.declared.value.Value.TheVariants.{Int}
use Rattle.share_rules.specs.declared.kind.Kind.{Kind}
use Rattle.share_rules.specs.declared.kind.Kind.TheVariants.{Mechanical, Performing}
use Rattle.society_core.specs.Keys.{return_key, transmission_key}
use Rattle.society_core.specs.Orders.{Order, has_repeat, names_twice, order_fault, order_of, return_pair, same_numbered, same_sender, sent_pair, is_out_of_range, is_too_long}
use Rattle.society_core.specs.declared.order_fault.OrderFault.TheVariants.{NamedTwice, OutOfRange, TooLong}
use Rattle.society_core.proofs.lemmas.OrderFaults.{cut_permutes, paid_permutes, told_none}
use Rattle.society_book.specs.BookRows.{cut_row, is_of_pool, kind_marked, marks_by, marks_of, mechanical_row, paid_row, pool_row, row_of_some, rows_of_order}
use Rattle.society_book.specs.Columns.{HasRows, whole_number_at}
use Rattle.society_book.proofs.lemmas.rows_alike.BookLemmas.{numbers_tie}
use Rattle.work_ids.specs.Numbers.{is_pool_number, number_where}
use Rattle.book_audit.specs.OrderParts.{StandOnce, ArePartsOf, Numbers, OrdersFrom, SaysCut, SaysMark, SaysPaid}
use Rattle.book_audit.specs.Pools.{AreClosedBy, AreOrdersOf, IsClosedBy, cut_pair, orders_by, paid_pair}
use Rattle.book_audit.specs.declared.pool_orders.ClosedPool.{ClosedPool}
use Rattle.book_audit.specs.declared.pool_tables.PoolRows.{PoolRows}

-- the right of a pool is by whether it is marked
pub kind_by_mark : (p : Row → Bool) (marks : List Row) → (if list_any p marks then Mechanical else Performing) ≡ kind_marked (filter p marks)
kind_by_mark p [] = refl
kind_by_mark p (mark ∷ marks) = by_case (p mark) (kind_by_mark p marks)
  where
    by_case : (t : Bool) → (if list_any p marks then Mechanical else Performing) ≡ kind_marked (filter p marks) → (if (t || list_any p marks) then Mechanical else Performing) ≡ kind_marked (cond t (mark ∷ filter p marks) (filter p marks))
    by_case true later = refl
    by_case false later = later

-- a number that passes is the one that was taken
pub number_is : (n pool : ℕ) → number_where is_pool_number n ≡ Some pool → (n ≡ pool) × (is_pool_number pool ≡ true)
number_is n pool taken = by_case (is_pool_number n) refl taken
  where
    by_case : (b : Bool) → is_pool_number n ≡ b → (if b then Some n else None) ≡ Some pool → (n ≡ pool) × (is_pool_number pool ≡ true)
    by_case true passes is =
        let same : n ≡ pool = cc in
        (same, ap is_pool_number (sym same) ∙ passes)
    by_case false fails is = absurd (let no : ◌≡◌ {A = Option ℕ} None (Some pool) → ⊥ = λ e. cc in no is)

-- a whole number from 0 is its size
pub is_whole : (z : ℤ) (n : ℕ) → FitsUnsignedBits 64 z → n ≡ nat_abs z → z ≡ pos n
is_whole (pos m) n fits is = ap pos (sym is)
is_whole (negsuc m) n fits is = absurd fits

-- a row that was read is that of its pool and of the order that was made
pub closed_as : (rows : PoolRows) (row : Row) (n pool : ℕ) (z : ℤ) (amount : ℕ) (kind : Kind) (cut returns : List (List ℕ × ℕ)) (order : Order)
    → ◌≡◌ {A = Row} (Int (pos n) ∷ Int z ∷ []) row → n ≡ pool → is_pool_number pool ≡ true → z ≡ pos amount → OrdersFrom kind amount cut returns order
    → cut ≡ map cut_pair (filter (is_of_pool 0 n) rows.cuts.items) → returns ≡ map paid_pair (filter (is_of_pool 2 n) rows.paid.items) → kind ≡ kind_marked (filter (is_of_pool 0 n) rows.marks.items)
    → IsClosedBy rows row (record { pool = pool; order = order })
closed_as rows row n pool z amount kind cut returns order value same number units made of_cut of_paid of_kind =
    let its : order.amount ≡ amount = ap (λ (o : Order). o.amount) made.made in
    let of_cut_there : cut ≡ map cut_pair (filter (is_of_pool 0 pool) rows.cuts.items) = of_cut ∙ ap (λ (q : ℕ). map cut_pair (filter (is_of_pool 0 q) rows.cuts.items)) same in
    let of_paid_there : returns ≡ map paid_pair (filter (is_of_pool 2 pool) rows.paid.items) = of_paid ∙ ap (λ (q : ℕ). map paid_pair (filter (is_of_pool 2 q) rows.paid.items)) same in
    let of_kind_there : kind ≡ kind_marked (filter (is_of_pool 0 pool) rows.marks.items) = of_kind ∙ ap (λ (q : ℕ). kind_marked (filter (is_of_pool 0 q) rows.marks.items)) same in
    record {
      form = sym value ∙ ap₂ (λ (m : ℕ) (y : ℤ). let r : Row = Int (pos m) ∷ Int y ∷ [] in r) same (units ∙ ap pos (sym its));
      number = number;
      faultless = ap₂ (order_fault order.amount) (sym of_cut_there) (sym of_paid_there) ∙ ap (λ (m : ℕ). order_fault m cut returns) its ∙ made.faultless;
      order =
          made.made
          ∙ ap₂ (λ (k : Kind) (m : ℕ). order_of k m cut returns) of_kind_there (sym its)
          ∙ ap₂ (order_of (kind_marked (filter (is_of_pool 0 pool) rows.marks.items)) order.amount) of_cut_there of_paid_there;
    }

-- one row more
pub closed_more : (rows : PoolRows) (first : List Row) (closed : List ClosedPool) (row : Row) (one : ClosedPool) → AreClosedBy rows first closed → IsClosedBy rows row one → AreClosedBy rows (first ++ row ∷ []) (closed ++ one ∷ [])
closed_more rows [] [] row one all is = (is, tt)
closed_more rows [] (c ∷ closed) row one all is = absurd all
closed_more rows (r ∷ first) [] row one all is = absurd all
closed_more rows (r ∷ first) (c ∷ closed) row one all is = (all.0, closed_more rows first closed row one all.1 is)

-- the order that a pool has among some
abbrev order_among : ℕ → List ClosedPool → Option Order
order_among q closed = find nat_cmp q (map (λ (c : ClosedPool). (c.pool, c.order)) closed)

got : (closed : List ClosedPool) (q : ℕ) → finite.get (orders_by closed) q ≡ order_among q closed
got closed q = get-from_entries nat_cmp_total (map (λ (c : ClosedPool). (c.pool, c.order)) closed) q

nil_of : {X : Type 0} (xs : List X) → length xs ≤ 0 → xs ≡ []
nil_of [] few = refl
nil_of (x ∷ xs) few = absurd (omega (arith, few))

module _ (rows : PoolRows) (q : ℕ) where
  -- no row is of the pool, or the pool is closed by its own
  abbrev IsAmong : List Row → Option Order → Type 0
  IsAmong first o =
      ((o ≡ None) × (list_any (is_of_pool 0 q) first ≡ false)) ⊎ ((one : ClosedPool) × (o ≡ Some one.order) × (one.pool ≡ q) × IsClosedBy rows (pool_row one.pool one.order) one)

  -- the order of a pool is that of its row
  pub among : (first : List Row) (closed : List ClosedPool) → AreClosedBy rows first closed → IsAmong first (order_among q closed)
  among [] [] all = inl (refl, refl)
  among [] (c ∷ closed) all = absurd all
  among (r ∷ first) [] all = absurd all
  among (r ∷ first) (c ∷ closed) all = by_case (eq_by_cmp nat_cmp q c.pool) refl (among first closed all.1)
    where
      tie : eq_by_cmp nat_cmp q c.pool ≡ is_of_pool 0 q r
      tie = numbers_tie q c.pool ∙ ap (λ (row : Row). q == whole_number_at 0 row) (sym all.0.form)

      by_case : (b : Bool) → eq_by_cmp nat_cmp q c.pool ≡ b → IsAmong first (order_among q closed) → IsAmong (r ∷ first) (order_among q (c ∷ closed))
      by_case true is later =
          let same : c.pool ≡ q = let e = sym (numbers_tie q c.pool) ∙ is in grind (arith, nat_tests) in
          inr (c, ap (λ (b : Bool). cond b (Some c.order) (order_among q closed)) is, same, subst (λ (row : Row). IsClosedBy rows row c) all.0.form all.0)
      by_case false is (inl none) = inl (ap (λ (b : Bool). cond b (Some c.order) (order_among q closed)) is ∙ none.0, ap₂ (λ (a b : Bool). a || b) (sym tie ∙ is) none.1)
      by_case false is (inr some) = inr (some.0, ap (λ (b : Bool). cond b (Some c.order) (order_among q closed)) is ∙ some.1, some.2, some.3)

  -- the row of a pool is there where it is among them
  pools_by : (first : List Row) (closed : List ClosedPool) → AreClosedBy rows first closed → length (filter (is_of_pool 0 q) first) ≤ 1 → filter (is_of_pool 0 q) first ≡ row_of_some (pool_row q) (order_among q closed)
  pools_by [] [] all once = refl
  pools_by [] (c ∷ closed) all once = absurd all
  pools_by (r ∷ first) [] all once = absurd all
  pools_by (r ∷ first) (c ∷ closed) all once = by_case (eq_by_cmp nat_cmp q c.pool) refl (is_of_pool 0 q r) refl once (pools_by first closed all.1)
    where
      tie : eq_by_cmp nat_cmp q c.pool ≡ is_of_pool 0 q r
      tie = numbers_tie q c.pool ∙ ap (λ (row : Row). q == whole_number_at 0 row) (sym all.0.form)

      by_case : (a : Bool) → eq_by_cmp nat_cmp q c.pool ≡ a → (b : Bool) → is_of_pool 0 q r ≡ b → length (cond b (r ∷ filter (is_of_pool 0 q) first) (filter (is_of_pool 0 q) first)) ≤ 1
          → (length (filter (is_of_pool 0 q) first) ≤ 1 → filter (is_of_pool 0 q) first ≡ row_of_some (pool_row q) (order_among q closed))
          → cond b (r ∷ filter (is_of_pool 0 q) first) (filter (is_of_pool 0 q) first) ≡ row_of_some (pool_row q) (cond a (Some c.order) (order_among q closed))
      by_case true here true also once later =
          let same : c.pool ≡ q = let e = sym (numbers_tie q c.pool) ∙ here in grind (arith, nat_tests) in
          ap₂ (λ (x : Row) (l : List Row). x ∷ l) (all.0.form ∙ ap (λ (n : ℕ). pool_row n c.order) same) (nil_of (filter (is_of_pool 0 q) first) (omega (arith, once)))
      by_case false here false also once later = later once
      by_case true here false also once later = absurd (false≢true (sym also ∙ sym tie ∙ here))
      by_case false here true also once later = absurd (false≢true (sym here ∙ tie ∙ also))

-- an order without a fault names no sender and no return twice
pub named_once : (amount : ℕ) (cut returns : List (List ℕ × ℕ)) → order_fault amount cut returns ≡ None → (has_repeat same_sender cut ≡ false) × (has_repeat same_numbered returns ≡ false)
named_once amount cut returns none =
    let in_range = told_none (is_out_of_range amount cut returns) OutOfRange _ none in
    let short = told_none (is_too_long cut returns) TooLong _ in_range.1 in
    let once = told_none (names_twice cut returns) NamedTwice _ short.1 in
    neither (has_repeat same_sender cut) (has_repeat same_numbered returns) once.0
  where
    neither : (a b : Bool) → (a || b) ≡ false → (a ≡ false) × (b ≡ false)
    neither true b e = absurd (false≢true (sym e))
    neither false b e = (refl, e)

module _ (q : ℕ) (numbers : BTreeSet ℕ) where
  -- no row is of a pool that is not known
  none_known : (at : ℕ) (list : List Row) → contains nat_cmp numbers q ≡ false → AllByRecursion (λ row. contains nat_cmp numbers (whole_number_at at row) ≡ true) list → filter (is_of_pool at q) list ≡ []
  none_known at list unknown all = filter_none (is_of_pool at q) list (each list all)
    where
      each : (rows : List Row) → AllByRecursion (λ row. contains nat_cmp numbers (whole_number_at at row) ≡ true) rows → AllByRecursion (λ row. is_of_pool at q row ≡ false) rows
      each [] all = tt
      each (row ∷ rows) all = (by_case (is_of_pool at q row) refl all.0, each rows all.1)
        where
          by_case : (b : Bool) → is_of_pool at q row ≡ b → contains nat_cmp numbers (whole_number_at at row) ≡ true → b ≡ false
          by_case false is there = refl
          by_case true is there =
              let same : q ≡ whole_number_at at row = grind (arith, nat_tests) in
              absurd (false≢true (sym unknown ∙ ap (contains nat_cmp numbers) same ∙ there))

  -- the rows of a pool are those of their items
  kept_again : {X : Type 0} (at : ℕ) (item : Row → X) (row_of : ℕ → X → Row) (list : List Row) → AllByRecursion (λ row. row ≡ row_of (whole_number_at at row) (item row)) list → map (row_of q) (map item (filter (is_of_pool at q) list)) ≡ filter (is_of_pool at q) list
  kept_again at item row_of [] all = refl
  kept_again at item row_of (row ∷ list) all = by_case (is_of_pool at q row) refl (kept_again at item row_of list all.1)
    where
      by_case : (b : Bool) → is_of_pool at q row ≡ b → map (row_of q) (map item (filter (is_of_pool at q) list)) ≡ filter (is_of_pool at q) list
          → map (row_of q) (map item (cond b (row ∷ filter (is_of_pool at q) list) (filter (is_of_pool at q) list))) ≡ cond b (row ∷ filter (is_of_pool at q) list) (filter (is_of_pool at q) list)
      by_case false is later = later
      by_case true is later =
          let same : whole_number_at at row ≡ q = grind (arith, nat_tests) in
          ap₂ (λ (x : Row) (l : List Row). x ∷ l) (ap (λ (n : ℕ). row_of n (item row)) (sym same) ∙ sym all.0) later

weaker : {P Q : Row → Type 0} (list : List Row) → ((row : Row) → P row → Q row) → AllByRecursion P list → AllByRecursion Q list
weaker [] f all = tt
weaker (row ∷ list) f all = (f row all.0, weaker list f all.1)

back_to : {X Y : Type 0} (f : Y → X) (g : X → Row) (h : Y → Row) (list : List Y) → ((y : Y) → g (f y) ≡ h y) → map g (map f list) ≡ map h list
back_to f g h [] same = refl
back_to f g h (y ∷ list) same = ap₂ (λ (x : Row) (l : List Row). x ∷ l) (same y) (back_to f g h list same)

module _ (rows : PoolRows) (numbers : BTreeSet ℕ) (closed : List ClosedPool) (pools : Numbers rows.pools.items numbers) (all : AreClosedBy rows rows.pools.items closed) where
  unknown : (q : ℕ) → list_any (is_of_pool 0 q) rows.pools.items ≡ false → contains nat_cmp numbers q ≡ false
  unknown q none = pools.these q ∙ none

  pools_are : HasRows (is_of_pool 0) (λ q. row_of_some (pool_row q) (finite.get (orders_by closed) q)) rows.pools.items
  pools_are q =
      subst (λ (o : Option Order). IsPermutation (row_of_some (pool_row q) o) (filter (is_of_pool 0 q) rows.pools.items)) (sym (got closed q))
      (subst (λ (l : List Row). IsPermutation l (filter (is_of_pool 0 q) rows.pools.items)) (pools_by rows q rows.pools.items closed all (pools.once q)) (IsPermutation-refl (filter (is_of_pool 0 q) rows.pools.items)))

  cuts_are : AllByRecursion (SaysCut numbers) rows.cuts.items → HasRows (is_of_pool 0) (λ q. rows_of_order (cut_row q) (λ order. order.cut) (finite.get (orders_by closed) q)) rows.cuts.items
  cuts_are each q = subst (λ (o : Option Order). IsPermutation (rows_of_order (cut_row q) (λ order. order.cut) o) these) (sym (got closed q)) (by_among (order_among q closed) (among rows q rows.pools.items closed all))
    where
      these : List Row
      these = filter (is_of_pool 0 q) rows.cuts.items

      by_among : (o : Option Order) → IsAmong rows q rows.pools.items o → IsPermutation (rows_of_order (cut_row q) (λ order. order.cut) o) these
      by_among o (inl none) =
          let empty = none_known q numbers 0 rows.cuts.items (unknown q none.1) (weaker rows.cuts.items (λ row says. says.known) each) in
          subst (λ (x : Option Order). IsPermutation (rows_of_order (cut_row q) (λ order. order.cut) x) these) (sym none.0) (subst (IsPermutation []) (sym empty) (IsPermutation-refl []))
      by_among o (inr some) =
          let one = some.0 in
          let is = some.3 in
          let pairs = map cut_pair (filter (is_of_pool 0 one.pool) rows.cuts.items) in
          let once = named_once one.order.amount pairs (map paid_pair (filter (is_of_pool 2 one.pool) rows.paid.items)) is.faultless in
          let whole : IsPermutation pairs (map sent_pair one.order.cut) = subst (λ (o : Order). IsPermutation pairs (map sent_pair o.cut)) (sym is.order) (cut_permutes pairs once.0) in
          let row_by : List ℕ × ℕ → Row = λ p. cut_row q (transmission_key p.0 p.1) in
          let there = IsPermutation-map row_by pairs (map sent_pair one.order.cut) whole in
          let left : map row_by pairs ≡ these =
          ap (λ (n : ℕ). map row_by (map cut_pair (filter (is_of_pool 0 n) rows.cuts.items))) some.2
          ∙ kept_again q numbers 0 cut_pair (λ n p. cut_row n (transmission_key p.0 p.1)) rows.cuts.items (weaker rows.cuts.items (λ row says. says.form) each) in
          let right : map row_by (map sent_pair one.order.cut) ≡ map (cut_row q) one.order.cut = back_to sent_pair row_by (cut_row q) one.order.cut (λ key. refl) in
          subst (λ (x : Option Order). IsPermutation (rows_of_order (cut_row q) (λ order. order.cut) x) these) (sym some.1)
          (IsPermutation-sym these (map (cut_row q) one.order.cut) (subst (λ (l : List Row). IsPermutation l (map (cut_row q) one.order.cut)) left (subst (IsPermutation (map row_by pairs)) right there)))

  paid_are : AllByRecursion (SaysPaid numbers) rows.paid.items → HasRows (is_of_pool 2) (λ q. rows_of_order (paid_row q) (λ order. order.returns) (finite.get (orders_by closed) q)) rows.paid.items
  paid_are each q = subst (λ (o : Option Order). IsPermutation (rows_of_order (paid_row q) (λ order. order.returns) o) these) (sym (got closed q)) (by_among (order_among q closed) (among rows q rows.pools.items closed all))
    where
      these : List Row
      these = filter (is_of_pool 2 q) rows.paid.items

      by_among : (o : Option Order) → IsAmong rows q rows.pools.items o → IsPermutation (rows_of_order (paid_row q) (λ order. order.returns) o) these
      by_among o (inl none) =
          let empty = none_known q numbers 2 rows.paid.items (unknown q none.1) (weaker rows.paid.items (λ row says. says.known) each) in
          subst (λ (x : Option Order). IsPermutation (rows_of_order (paid_row q) (λ order. order.returns) x) these) (sym none.0) (subst (IsPermutation []) (sym empty) (IsPermutation-refl []))
      by_among o (inr some) =
          let one = some.0 in
          let is = some.3 in
          let pairs = map paid_pair (filter (is_of_pool 2 one.pool) rows.paid.items) in
          let once = named_once one.order.amount (map cut_pair (filter (is_of_pool 0 one.pool) rows.cuts.items)) pairs is.faultless in
          let whole : IsPermutation pairs (map return_pair one.order.returns) = subst (λ (o : Order). IsPermutation pairs (map return_pair o.returns)) (sym is.order) (paid_permutes pairs once.1) in
          let row_by : List ℕ × ℕ → Row = λ p. paid_row q (return_key p.0 p.1) in
          let there = IsPermutation-map row_by pairs (map return_pair one.order.returns) whole in
          let left : map row_by pairs ≡ these =
          ap (λ (n : ℕ). map row_by (map paid_pair (filter (is_of_pool 2 n) rows.paid.items))) some.2
          ∙ kept_again q numbers 2 paid_pair (λ n p. paid_row n (return_key p.0 p.1)) rows.paid.items (weaker rows.paid.items (λ row says. says.form) each) in
          let right : map row_by (map return_pair one.order.returns) ≡ map (paid_row q) one.order.returns = back_to return_pair row_by (paid_row q) one.order.returns (λ key. refl) in
          subst (λ (x : Option Order). IsPermutation (rows_of_order (paid_row q) (λ order. order.returns) x) these) (sym some.1)
          (IsPermutation-sym these (map (paid_row q) one.order.returns) (subst (λ (l : List Row). IsPermutation l (map (paid_row q) one.order.returns)) left (subst (IsPermutation (map row_by pairs)) right there)))

  marks_are : AllByRecursion (SaysMark numbers) rows.marks.items → StandOnce rows.marks.items → HasRows (is_of_pool 0) (λ q. marks_by q (finite.get (orders_by closed) q)) rows.marks.items
  marks_are each once q = subst (λ (o : Option Order). IsPermutation (marks_by q o) these) (sym (got closed q)) (by_among (order_among q closed) (among rows q rows.pools.items closed all))
    where
      these : List Row
      these = filter (is_of_pool 0 q) rows.marks.items

      alone : (list : List Row) → length list ≤ 1 → map (λ (_ : Unit {0}). mechanical_row q) (map (λ (_ : Row). tt) list) ≡ list → marks_of q (kind_marked list) ≡ list
      alone [] few same = refl
      alone (row ∷ []) few same = same
      alone (row ∷ other ∷ list) few same = absurd (omega (arith, few))

      by_among : (o : Option Order) → IsAmong rows q rows.pools.items o → IsPermutation (marks_by q o) these
      by_among o (inl none) =
          let empty = none_known q numbers 0 rows.marks.items (unknown q none.1) (weaker rows.marks.items (λ row says. says.known) each) in
          subst (λ (x : Option Order). IsPermutation (marks_by q x) these) (sym none.0) (subst (IsPermutation []) (sym empty) (IsPermutation-refl []))
      by_among o (inr some) =
          let one = some.0 in
          let is = some.3 in
          let kind : one.order.kind ≡ kind_marked these = ap (λ (o : Order). o.kind) is.order ∙ ap (λ (n : ℕ). kind_marked (filter (is_of_pool 0 n) rows.marks.items)) some.2 in
          let same = kept_again q numbers 0 (λ (_ : Row). tt) (λ n (_ : Unit {0}). mechanical_row n) rows.marks.items (weaker rows.marks.items (λ row says. says.form) each) in
          let list : marks_of q one.order.kind ≡ these = ap (marks_of q) kind ∙ alone these (once q) same in
          subst (λ (x : Option Order). IsPermutation (marks_by q x) these) (sym some.1) (subst (λ (l : List Row). IsPermutation l these) (sym list) (IsPermutation-refl these))

-- the rows are those of the orders that were made of them
pub are_orders : (rows : PoolRows) (parts : _) (closed : List ClosedPool) → ArePartsOf rows parts → AreClosedBy rows rows.pools.items closed → AreOrdersOf rows closed
are_orders rows parts closed of all = record {
  pools = pools_are rows of.numbers closed of.pools all;
  cuts = cuts_are rows of.numbers closed of.pools all of.cuts.each;
  paid = paid_are rows of.numbers closed of.pools all of.paid.each;
  marks = marks_are rows of.numbers closed of.pools all of.marks.each of.marks.once;
  each = all;
}
