-- Closed pools by their numbers, and all that they are credited.
use Rattle.std.proofs.Common.{◌≡◌, ◌∙◌, ◌≤◌, ◌++◌, ◌||◌, ◌==◌, ℕ, Bool, true, false, cond, List, [], ◌∷◌, Option, Some, None, filter, length, map, nat_cmp, refl, ap, arith, subst, sym, IsPermutation}
use Rattle.std.proofs.lemmas.Bool.{false≢true}
use Rattle.std.proofs.lemmas.Bool.Decides.{Decides-eqb, nat_tests}
use Rattle.std.proofs.lemmas.Cmp.{nat_cmp_total}
use Rattle.std.proofs.lemmas.List.{append-nil, append_assoc}
use Rattle.std.proofs.lemmas.List.Sorted.{IsPermutation-append_comm, IsPermutation-append_left, IsPermutation-append_right, IsPermutation-refl, IsPermutation-trans, length_permutation}
use Rattle.std.specs.FinMap as finite
use Rattle.std.specs.FinMap.Entries.{by_order}
use Rattle.std.specs.List.{AllByRecursion, flat_map, list_any}
use Rattle.std.specs.Ordering.{eq_by_cmp, is_eq}
use Rattle.std.specs.declared.cmp.Ordering.{Ordering}
use Rattle.std.specs.declared.cmp.Ordering.TheVariants.{Equal, Greater, Less}
use Rattle.share_rules.specs.declared.office.Office.{Office}
use Rattle.sqlite_value.specs.Order.{Row}
use Rattle.society_core.specs.Book.{Book, order_at}
use Rattle.society_core.specs.Orders.{Order}
use Rattle.society_core.specs.Pools.{all_credits, credits_of}
use Rattle.society_core.proofs.lemmas.KeyOrders.{exact_numbers}
use Rattle.society_book.specs.BookRows.{is_of_pool, pool_row, row_of_some}
use Rattle.society_book.specs.Columns.{whole_number_at}
use Rattle.society_book.proofs.lemmas.rows_alike.BookLemmas.{numbers_tie}
use Rattle.book_audit.specs.Pools.{AreClosedBy, AreOrdersOf, ArePools, orders_by}
use Rattle.book_audit.specs.Paying.{AreApart, AreClosedIn, credits_by, order_among}
use Rattle.book_audit.specs.declared.pool_orders.ClosedPool.{ClosedPool}
use Rattle.book_audit.specs.declared.pool_tables.PoolRows.{PoolRows}

-- it is that of their map
pub got : (closed : List ClosedPool) (q : ℕ) → finite.get (orders_by closed) q ≡ order_among q closed
got closed q = finite.get-from_entries nat_cmp_total (map (λ (c : ClosedPool). (c.pool, c.order)) closed) q

some_is : (x y : Order) → Some x ≡ Some y → x ≡ y
some_is x y e = cc

none_is : (x : Order) → None ≡ Some x → ⊥
none_is x e = cc

-- of one that is found, what is so of each
pub found_each : (P : ClosedPool → Type 0) (q : ℕ) (x : Order) (closed : List ClosedPool) → AllByRecursion P closed → order_among q closed ≡ Some x → P (record { pool = q; order = x })
found_each P q x [] all is = absurd (none_is x is)
found_each P q x (c ∷ closed) all is = by_case (eq_by_cmp nat_cmp q c.pool) refl is (found_each P q x closed all.1)
  where
    by_case : (b : Bool) → eq_by_cmp nat_cmp q c.pool ≡ b → cond b (Some c.order) (order_among q closed) ≡ Some x → (order_among q closed ≡ Some x → P (record { pool = q; order = x })) → P (record { pool = q; order = x })
    by_case true same here later =
        let pool : c.pool ≡ q = let e = sym (numbers_tie q c.pool) ∙ same in grind (arith, nat_tests) in
        let order = some_is c.order x here in
        subst P (λ i. record { pool = pool i; order = order i }) all.0
    by_case false apart there later = later there

-- one is found where it is named
pub found_where : (q : ℕ) (closed : List ClosedPool) → list_any (λ (c : ClosedPool). q == c.pool) closed ≡ true → (x : Order) × (order_among q closed ≡ Some x)
found_where q [] some = absurd (false≢true some)
found_where q (c ∷ closed) some = by_case (eq_by_cmp nat_cmp q c.pool) (numbers_tie q c.pool) some (found_where q closed)
  where
    by_case : (b : Bool) → b ≡ (q == c.pool) → ((q == c.pool) || list_any (λ (c : ClosedPool). q == c.pool) closed) ≡ true → (list_any (λ (c : ClosedPool). q == c.pool) closed ≡ true → (x : Order) × (order_among q closed ≡ Some x)) → (x : Order) × (cond b (Some c.order) (order_among q closed) ≡ Some x)
    by_case true is some later = (c.order, refl)
    by_case false is some later = later (ap (λ (t : Bool). t || list_any (λ (c : ClosedPool). q == c.pool) closed) is ∙ some)

-- and named where it is found
pub named_where : (q : ℕ) (x : Order) (closed : List ClosedPool) → order_among q closed ≡ Some x → list_any (λ (c : ClosedPool). q == c.pool) closed ≡ true
named_where q x [] is = absurd (none_is x is)
named_where q x (c ∷ closed) is = by_case (eq_by_cmp nat_cmp q c.pool) (numbers_tie q c.pool) is (named_where q x closed)
  where
    by_case : (b : Bool) → b ≡ (q == c.pool) → cond b (Some c.order) (order_among q closed) ≡ Some x → (order_among q closed ≡ Some x → list_any (λ (c : ClosedPool). q == c.pool) closed ≡ true) → ((q == c.pool) || list_any (λ (c : ClosedPool). q == c.pool) closed) ≡ true
    by_case true is here later = ap (λ (t : Bool). t || list_any (λ (c : ClosedPool). q == c.pool) closed) (sym is)
    by_case false is there later = ap (λ (t : Bool). t || list_any (λ (c : ClosedPool). q == c.pool) closed) (sym is) ∙ later there

-- none is found where none is named
pub none_where : (q : ℕ) (closed : List ClosedPool) → list_any (λ (c : ClosedPool). q == c.pool) closed ≡ false → order_among q closed ≡ None
none_where q closed none = by_case (order_among q closed) refl
  where
    by_case : (o : Option Order) → order_among q closed ≡ o → o ≡ None
    by_case None is = refl
    by_case (Some x) is = absurd (false≢true (sym none ∙ named_where q x closed is))

-- ---- each pool once

some_row : (q : ℕ) (rows : List Row) → list_any (is_of_pool 0 q) rows ≡ true → 1 ≤ length (filter (is_of_pool 0 q) rows)
some_row q [] some = absurd (false≢true some)
some_row q (row ∷ rows) some = by_case (is_of_pool 0 q row) some (some_row q rows)
  where
    by_case : (b : Bool) → (b || list_any (is_of_pool 0 q) rows) ≡ true → (list_any (is_of_pool 0 q) rows ≡ true → 1 ≤ length (filter (is_of_pool 0 q) rows)) → 1 ≤ length (cond b (row ∷ filter (is_of_pool 0 q) rows) (filter (is_of_pool 0 q) rows))
    by_case true some later = omega arith
    by_case false some later = later some

module _ (all : PoolRows) where
  row_of : (q : ℕ) (x : Order) (rows : List Row) (closed : List ClosedPool) → AreClosedBy all rows closed → order_among q closed ≡ Some x → list_any (is_of_pool 0 q) rows ≡ true
  row_of q x [] [] are is = absurd (none_is x is)
  row_of q x [] (c ∷ closed) are is = absurd are
  row_of q x (r ∷ rows) [] are is = absurd are
  row_of q x (r ∷ rows) (c ∷ closed) are is = by_case (eq_by_cmp nat_cmp q c.pool) (numbers_tie q c.pool ∙ ap (λ (row : Row). q == whole_number_at 0 row) (sym are.0.form)) is (row_of q x rows closed are.1)
    where
      by_case : (b : Bool) → b ≡ is_of_pool 0 q r → cond b (Some c.order) (order_among q closed) ≡ Some x → (order_among q closed ≡ Some x → list_any (is_of_pool 0 q) rows ≡ true) → (is_of_pool 0 q r || list_any (is_of_pool 0 q) rows) ≡ true
      by_case true is here later = ap (λ (t : Bool). t || list_any (is_of_pool 0 q) rows) (sym is)
      by_case false is there later = ap (λ (t : Bool). t || list_any (is_of_pool 0 q) rows) (sym is) ∙ later there

  apart : (rows : List Row) (closed : List ClosedPool) → AreClosedBy all rows closed → ((q : ℕ) → length (filter (is_of_pool 0 q) rows) ≤ 1) → AreApart closed
  apart [] [] are once = tt
  apart [] (c ∷ closed) are once = absurd are
  apart (r ∷ rows) [] are once = absurd are
  apart (r ∷ rows) (c ∷ closed) are once = (by_case (order_among c.pool closed) refl, apart rows closed are.1 (λ q. fewer q (is_of_pool 0 q r) (once q)))
    where
      fewer : (q : ℕ) (b : Bool) → length (cond b (r ∷ filter (is_of_pool 0 q) rows) (filter (is_of_pool 0 q) rows)) ≤ 1 → length (filter (is_of_pool 0 q) rows) ≤ 1
      fewer q true few = omega (arith, few)
      fewer q false few = few

      its : is_of_pool 0 c.pool r ≡ true
      its = ap (λ (row : Row). c.pool == whole_number_at 0 row) are.0.form ∙ (Decides-eqb c.pool c.pool).1 refl

      by_case : (o : Option Order) → order_among c.pool closed ≡ o → o ≡ None
      by_case None is = refl
      by_case (Some x) is =
          let more = some_row c.pool rows (row_of c.pool x rows closed are.1 is) in
          let few : length (cond true (r ∷ filter (is_of_pool 0 c.pool) rows) (filter (is_of_pool 0 c.pool) rows)) ≤ 1 = subst (λ (b : Bool). length (cond b (r ∷ filter (is_of_pool 0 c.pool) rows) (filter (is_of_pool 0 c.pool) rows)) ≤ 1) its (once c.pool) in
          absurd (omega (arith, more, few))

  few_of : (q : ℕ) (o : Option Order) → length (row_of_some (pool_row q) o) ≤ 1
  few_of q None = omega arith
  few_of q (Some x) = omega arith

  -- so are those of rows that are of orders
  pub orders_apart : (closed : List ClosedPool) → AreOrdersOf all closed → AreApart closed
  orders_apart closed are = apart all.pools.items closed are.each (λ q.
      let many = length_permutation (row_of_some (pool_row q) (finite.get (orders_by closed) q)) (filter (is_of_pool 0 q) all.pools.items) (are.pools q) in
      let few = few_of q (finite.get (orders_by closed) q) in
      omega (arith, many, few))

  -- the order of each pool of a book is that among them, where theirs are the book's
  pub orders_whole : (b : Book) (closed : List ClosedPool) → ArePools b all → AreOrdersOf all closed → AreClosedIn b closed → (q : ℕ) → order_at b q ≡ finite.get (orders_by closed) q
  orders_whole b closed of_book are there q = by_case (order_among q closed) refl ∙ sym (got closed q)
    where
      nothing : (o : Option Order) → order_at b q ≡ o → filter (is_of_pool 0 q) all.pools.items ≡ [] → o ≡ None
      nothing None is none = refl
      nothing (Some x) is none =
          let many = length_permutation (row_of_some (pool_row q) (order_at b q)) (filter (is_of_pool 0 q) all.pools.items) (of_book.pools q) in
          let one = ap (λ (o : Option Order). length (row_of_some (pool_row q) o)) is in
          let empty = ap length none in
          absurd (omega (arith, many, one, empty))

      empty_of : (rows : List Row) → IsPermutation [] rows → rows ≡ []
      empty_of [] p = refl
      empty_of (row ∷ rows) p = absurd (let l = length_permutation [] (row ∷ rows) p in omega (arith, l))

      by_case : (o : Option Order) → order_among q closed ≡ o → order_at b q ≡ order_among q closed
      by_case None is = nothing (order_at b q) refl (empty_of (filter (is_of_pool 0 q) all.pools.items) (subst (λ (o : Option Order). IsPermutation (row_of_some (pool_row q) o) (filter (is_of_pool 0 q) all.pools.items)) (got closed q ∙ is) (are.pools q))) ∙ sym is
      by_case (Some x) is = found_each (λ (c : ClosedPool). order_at b c.pool ≡ Some c.order) q x closed there is ∙ sym is

-- ---- all credits

-- what some entries give, with what one more gives behind them, is what they give once it stands at its place
put_gives : {X : Type 0} (f : Order → List X) (k : ℕ) (v : Order) (es : List (ℕ × Order)) → finite.find nat_cmp k es ≡ None → IsPermutation (flat_map f (map (λ e. e.1) es) ++ f v) (flat_map f (map (λ e. e.1) (finite.put nat_cmp k v es)))
put_gives {X} f k v [] none = subst (λ (l : List X). IsPermutation (f v) l) (sym (append-nil (f v))) (IsPermutation-refl (f v))
put_gives {X} f k v (e ∷ es) none = by_cmp (nat_cmp k e.0) refl (put_gives f k v es)
  where
    by_cmp : (r : Ordering) → nat_cmp k e.0 ≡ r → (finite.find nat_cmp k es ≡ None → IsPermutation (flat_map f (map (λ e. e.1) es) ++ f v) (flat_map f (map (λ e. e.1) (finite.put nat_cmp k v es)))) → IsPermutation ((f e.1 ++ flat_map f (map (λ e. e.1) es)) ++ f v) (flat_map f (map (λ e. e.1) (by_order r ((k, v) ∷ e ∷ es) ((e.0, v) ∷ es) (e ∷ finite.put nat_cmp k v es))))
    by_cmp Less is later = IsPermutation-append_comm (f e.1 ++ flat_map f (map (λ e. e.1) es)) (f v)
    by_cmp Equal is later = absurd (let found = sym none ∙ ap (λ (o : Ordering). cond (is_eq o) (Some e.1) (finite.find nat_cmp k es)) is in cc)
    by_cmp Greater is later =
        let others : finite.find nat_cmp k es ≡ None = ap (λ (o : Ordering). cond (is_eq o) (Some e.1) (finite.find nat_cmp k es)) (sym is) ∙ none in
        subst (λ l. IsPermutation l (f e.1 ++ flat_map f (map (λ e. e.1) (finite.put nat_cmp k v es)))) (sym (append_assoc (f e.1) (flat_map f (map (λ e. e.1) es)) (f v)))
        (IsPermutation-append_right (f e.1) (flat_map f (map (λ e. e.1) es) ++ f v) (flat_map f (map (λ e. e.1) (finite.put nat_cmp k v es))) (later others))

none_left : (es : List (ℕ × Order)) → length es ≡ 0 → es ≡ []
none_left [] few = refl
none_left (e ∷ es) few = absurd (omega (arith, few))

no_entry : finite.entries (finite.empty {X = Order} {R = nat_cmp}) ≡ []
no_entry = none_left (finite.entries (finite.empty {X = Order} {R = nat_cmp})) (sym (finite.len-entries (finite.empty {X = Order} {R = nat_cmp})) ∙ finite.len-empty nat_cmp Order)

gives_all : {X : Type 0} (f : Order → List X) (closed : List ClosedPool) → AreApart closed → IsPermutation (flat_map (λ (c : ClosedPool). f c.order) closed) (flat_map f (map (λ e. e.1) (finite.entries (orders_by closed))))
gives_all {X} f [] are = subst (λ (es : List (ℕ × Order)). IsPermutation [] (flat_map f (map (λ e. e.1) es))) (sym no_entry) (IsPermutation-refl [])
gives_all {X} f (c ∷ closed) are =
    let map_of = orders_by closed in
    let es = finite.entries map_of in
    let rest = flat_map (λ (c : ClosedPool). f c.order) closed in
    let none : finite.find nat_cmp c.pool es ≡ None = sym (finite.get-entries map_of c.pool) ∙ got closed c.pool ∙ are.0 in
    let before = IsPermutation-append_left (f c.order) rest (flat_map f (map (λ e. e.1) es)) (gives_all f closed are.1) in
    let put : IsPermutation (flat_map f (map (λ e. e.1) es) ++ f c.order) (flat_map f (map (λ e. e.1) (finite.entries (finite.insert map_of c.pool c.order)))) =
    subst (λ (l : List (ℕ × Order)). IsPermutation (flat_map f (map (λ e. e.1) es) ++ f c.order) (flat_map f (map (λ e. e.1) l))) (sym (finite.entries-insert nat_cmp_total map_of c.pool c.order)) (put_gives f c.pool c.order es none) in
    IsPermutation-trans (f c.order ++ rest) (rest ++ f c.order) (flat_map f (map (λ e. e.1) (finite.entries (finite.insert map_of c.pool c.order)))) (IsPermutation-append_comm (f c.order) rest)
    (IsPermutation-trans (rest ++ f c.order) (flat_map f (map (λ e. e.1) es) ++ f c.order) (flat_map f (map (λ e. e.1) (finite.entries (finite.insert map_of c.pool c.order)))) before put)

-- all credits of a book are those of its pools, in any order
pub credits_of_all : (o : Office) (b : Book) (closed : List ClosedPool) → AreApart closed → ((q : ℕ) → order_at b q ≡ finite.get (orders_by closed) q) → IsPermutation (credits_by o b closed) (all_credits o b)
credits_of_all o b closed are whole =
    let same : b.pools ≡ orders_by closed = finite.same_map nat_cmp_total exact_numbers b.pools (orders_by closed) whole in
    subst (λ (m : finite.FinMap nat_cmp Order). IsPermutation (credits_by o b closed) (flat_map (credits_of o b) (map (λ e. e.1) (finite.entries m)))) (sym same) (gives_all (credits_of o b) closed are)
