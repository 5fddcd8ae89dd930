-- A return that one pool pays has one row, and one row pays it once.
use Rattle.std.proofs.Common.{◌≡◌, ◌∙◌, ◌≤◌, ◌&&◌, ◌||◌, ◌==◌, ℕ, pos, Bool, true, false, cond, List, [], ◌∷◌, Option, None, Some, suc, filter, length, map, refl, ap, arith, subst, sym, IsPermutation}
use Rattle.std.proofs.lemmas.Bool.{false≢true}
use Rattle.std.proofs.lemmas.Bool.Decides.{nat_tests}
use Rattle.std.proofs.lemmas.List.Sorted.{length_permutation}
use Rattle.std.specs.List.{AllByRecursion, list_any}
use Rattle.sqlite_keyed.proofs.ListLemmas.{IsPermutation-filter}
use Rattle.sqlite_trees.proofs.ListLemmas.{filter_same}
use Rattle.sqlite_value.specs.Order.{Row, column}
use Rattle.sqlite_value.specs.declared.value.Value.TheVariants.{Int, Text}
use Rattle.society_core.proofs.lemmas.SameOrders.{same_return_is}
use Rattle.society_core.specs.Book.{Book, IsSound, order_at}
use Rattle.society_core.specs.Orders.{Order, has_repeat, names_return, order_fault, return_pair, same_numbered, same_return_key, sent_pair}
use Rattle.society_core.specs.declared.return_key.ReturnKey.{ReturnKey}
use Rattle.society_rows.specs.Reads.{has_key}
use Rattle.society_book.specs.BookRows.{is_of_pool, is_return_row, paid_row, paid_rows, return_key_of, rows_of_order}
use Rattle.society_book.specs.Columns.{HasRows, text_at, whole_number_at}
use Rattle.society_book.proofs.lemmas.rows_alike.BookLemmas.{IsRefilled}
use Rattle.society_book.proofs.lemmas.rows_alike.KeyRows.{filled_same, keyed}
use Rattle.society_book.proofs.lemmas.rows_alike.RowLemmas.{all_rows}
use Rattle.work_ids.specs.Blanks.{fill, without_trailing_blanks}
use Rattle.book_audit.specs.Standing.{columns_of_return}
use Rattle.book_audit.proofs.lemmas.orders.OrdersAgain.{none_of, own_payer, refilled}
use Rattle.book_audit.proofs.lemmas.orders.Closings.{named_once}

-- ---- lists

one_there : (h p : Row → Bool) (rows : List Row) → list_any h (filter p rows) ≡ true → 1 ≤ length (filter h rows)
one_there h p [] some = absurd (false≢true some)
one_there h p (row ∷ rows) some = by_case (h row) refl (p row) some (one_there h p rows)
  where
    by_case : (b : Bool) → h row ≡ b → (c : Bool) → list_any h (cond c (row ∷ filter p rows) (filter p rows)) ≡ true → (list_any h (filter p rows) ≡ true → 1 ≤ length (filter h rows)) → 1 ≤ length (cond b (row ∷ filter h rows) (filter h rows))
    by_case true is c some later = omega arith
    by_case false is true some later = later (sym (ap (λ (t : Bool). t || list_any h (filter p rows)) is) ∙ some)
    by_case false is false some later = later some

-- of two that are apart there are two
pub two_apart : (h p q : Row → Bool) (rows : List Row) → ((row : Row) → p row ≡ true → q row ≡ true → ⊥) → list_any h (filter p rows) ≡ true → list_any h (filter q rows) ≡ true → 2 ≤ length (filter h rows)
two_apart h p q [] apart one other = absurd (false≢true one)
two_apart h p q (row ∷ rows) apart one other = by_case (h row) refl (p row) refl (q row) refl one other (two_apart h p q rows apart)
  where
    by_case : (a : Bool) → h row ≡ a → (b : Bool) → p row ≡ b → (c : Bool) → q row ≡ c
        → list_any h (cond b (row ∷ filter p rows) (filter p rows)) ≡ true → list_any h (cond c (row ∷ filter q rows) (filter q rows)) ≡ true
        → (list_any h (filter p rows) ≡ true → list_any h (filter q rows) ≡ true → 2 ≤ length (filter h rows)) → 2 ≤ length (cond a (row ∷ filter h rows) (filter h rows))
    by_case a is true here true there one other later = absurd (apart row here there)
    by_case true is b here false there one other later = let more = one_there h q rows other in omega (arith, more)
    by_case true is false here true there one other later = let more = one_there h p rows one in omega (arith, more)
    by_case false is true here false there one other later = later (sym (ap (λ (t : Bool). t || list_any h (filter p rows)) is) ∙ one) other
    by_case false is false here true there one other later = later one (sym (ap (λ (t : Bool). t || list_any h (filter q rows)) is) ∙ other)
    by_case false is false here false there one other later = later one other

-- what passes one test passes the other
within_those : (k q : Row → Bool) (rows : List Row) → AllByRecursion (λ row. k row ≡ true → q row ≡ true) rows → filter k rows ≡ filter k (filter q rows)
within_those k q [] all = refl
within_those k q (row ∷ rows) all = by_case (k row) refl (q row) refl (within_those k q rows all.1)
  where
    by_case : (a : Bool) → k row ≡ a → (b : Bool) → q row ≡ b → filter k rows ≡ filter k (filter q rows) → cond a (row ∷ filter k rows) (filter k rows) ≡ filter k (cond b (row ∷ filter q rows) (filter q rows))
    by_case true here true there later = ap (λ (l : List Row). row ∷ l) later ∙ sym (ap (λ (t : Bool). cond t (row ∷ filter k (filter q rows)) (filter k (filter q rows))) here)
    by_case true here false there later = absurd (false≢true (sym there ∙ all.0 here))
    by_case false here true there later = later ∙ sym (ap (λ (t : Bool). cond t (row ∷ filter k (filter q rows)) (filter k (filter q rows))) here)
    by_case false here false there later = later

none_same : (key : ReturnKey) (ks : List ReturnKey) → list_any (same_return_key key) ks ≡ false → length (filter (same_return_key key) ks) ≤ 0
none_same key [] none = omega arith
none_same key (k ∷ ks) none = by_case (same_return_key key k) none (none_same key ks)
  where
    by_case : (t : Bool) → (t || list_any (same_return_key key) ks) ≡ false → (list_any (same_return_key key) ks ≡ false → length (filter (same_return_key key) ks) ≤ 0) → length (cond t (k ∷ filter (same_return_key key) ks) (filter (same_return_key key) ks)) ≤ 0
    by_case true none later = absurd (false≢true (sym none))
    by_case false none later = later none

-- a list without repeats has a key once
once_among : (key : ReturnKey) (ks : List ReturnKey) → has_repeat same_numbered (map return_pair ks) ≡ false → length (filter (same_return_key key) ks) ≤ 1
once_among key [] once = omega arith
once_among key (k ∷ ks) once = by_case (same_return_key key k) refl (once_among key ks)
  where
    halves : (a b : Bool) → (a || b) ≡ false → (a ≡ false) × (b ≡ false)
    halves true b e = absurd (false≢true (sym e))
    halves false b e = (refl, e)

    parts : (list_any (same_numbered (return_pair k)) (map return_pair ks) ≡ false) × (has_repeat same_numbered (map return_pair ks) ≡ false)
    parts = halves (list_any (same_numbered (return_pair k)) (map return_pair ks)) (has_repeat same_numbered (map return_pair ks)) once

    plain : (list : List ReturnKey) → list_any (same_numbered (return_pair k)) (map return_pair list) ≡ list_any (same_return_key k) list
    plain [] = refl
    plain (x ∷ list) = ap (λ (t : Bool). same_return_key k x || t) (plain list)

    by_case : (t : Bool) → same_return_key key k ≡ t → (has_repeat same_numbered (map return_pair ks) ≡ false → length (filter (same_return_key key) ks) ≤ 1) → length (cond t (k ∷ filter (same_return_key key) ks) (filter (same_return_key key) ks)) ≤ 1
    by_case true is later =
        let none = none_same key ks (ap (λ (x : ReturnKey). list_any (same_return_key x) ks) (same_return_is key k is) ∙ sym (plain ks) ∙ parts.0) in
        omega (arith, none)
    by_case false is later = later parts.1

-- ---- rows of returns that are paid

key_again : (pool : ℕ) (k : ReturnKey) → IsRefilled k → return_key_of (paid_row pool k) ≡ k
key_again pool k whole = λ i. record { reporter = whole i; number = k.number }

-- as many rows of a key as the key is named
as_named : (key : ReturnKey) (pool : ℕ) (ks : List ReturnKey) → AllByRecursion IsRefilled ks → length (filter (is_return_row key) (map (paid_row pool) ks)) ≡ length (filter (same_return_key key) ks)
as_named key pool [] whole = refl
as_named key pool (k ∷ ks) whole = by_case (same_return_key key k) (ap (same_return_key key) (key_again pool k whole.0)) (as_named key pool ks whole.1)
  where
    by_case : (t : Bool) → is_return_row key (paid_row pool k) ≡ t → length (filter (is_return_row key) (map (paid_row pool) ks)) ≡ length (filter (same_return_key key) ks)
        → length (cond (is_return_row key (paid_row pool k)) (paid_row pool k ∷ filter (is_return_row key) (map (paid_row pool) ks)) (filter (is_return_row key) (map (paid_row pool) ks))) ≡ length (cond t (k ∷ filter (same_return_key key) ks) (filter (same_return_key key) ks))
    by_case true is later = ap (λ (t : Bool). length (cond t (paid_row pool k ∷ filter (is_return_row key) (map (paid_row pool) ks)) (filter (is_return_row key) (map (paid_row pool) ks)))) is ∙ ap (λ (n : ℕ). suc n) later
    by_case false is later = ap (λ (t : Bool). length (cond t (paid_row pool k ∷ filter (is_return_row key) (map (paid_row pool) ks)) (filter (is_return_row key) (map (paid_row pool) ks)))) is ∙ later

-- a row that tells whose it is: its columns, and its reporter without the blanks that fill it
abbrev IsPlain : Row → Type 0
IsPlain row = (row ≡ Text (text_at 0 row) ∷ Int (pos (whole_number_at 1 row)) ∷ Int (pos (whole_number_at 2 row)) ∷ []) × (without_trailing_blanks (fill 20 (text_at 0 row)) ≡ text_at 0 row)

-- SQL finds it under its key
pub keyed_plain : (key : ReturnKey) → IsRefilled key → (row : Row) → IsPlain row → has_key (columns_of_return key) row ≡ is_return_row key row
keyed_plain key whole row plain =
    keyed (without_trailing_blanks key.reporter) key.number row (ap (λ (r : Row). column r 0) plain.0, ap (λ (r : Row). column r 1) plain.0)
    ∙ ap (λ x. x && key.number == whole_number_at 1 row) (filled_same key.reporter (text_at 0 row) whole plain.1)

all_keyed : (key : ReturnKey) → IsRefilled key → (rows : List Row) → AllByRecursion IsPlain rows → AllByRecursion (λ row. has_key (columns_of_return key) row ≡ is_return_row key row) rows
all_keyed key whole [] all = tt
all_keyed key whole (row ∷ rows) all = (keyed_plain key whole row all.0, all_keyed key whole rows all.1)

module _ (b : Book) (sound : IsSound b) (rows : List Row) (has : HasRows (is_of_pool 2) (paid_rows b) rows) (pool : ℕ) (order : Order) (there : order_at b pool ≡ Some order) (key : ReturnKey) (named : names_return key order ≡ true) (whole : IsRefilled key) where
  -- each row is plain, and where it is of the key, of the pool
  abbrev Tells : Row → Type 0
  Tells row = IsPlain row × (is_return_row key row ≡ true → is_of_pool 2 pool row ≡ true)

  first_true : (x y : Bool) → x ≡ true → (x || y) ≡ true
  first_true true y h = refl
  first_true false y h = absurd (false≢true h)

  second_true : (x y : Bool) → y ≡ true → (x || y) ≡ true
  second_true true y h = refl
  second_true false y h = h

  each_tells : (q : ℕ) (other : Order) → order_at b q ≡ Some other → (ks : List ReturnKey) → AllByRecursion IsRefilled ks → (list_any (λ k. same_return_key k key) ks ≡ true → names_return key other ≡ true) → AllByRecursion Tells (map (paid_row q) ks)
  each_tells q other is [] whole names = tt
  each_tells q other is (k ∷ ks) refill names = (
    (
      (refl, ap without_trailing_blanks refill.0),
      λ same.
          let one : key ≡ k = same_return_is key (return_key_of (paid_row q k)) same ∙ key_again q k refill.0 in
          let itself : same_return_key k key ≡ true = subst (λ (x : ReturnKey). same_return_key x key ≡ true) one (subst (λ (x : ReturnKey). same_return_key key x ≡ true) (key_again q k refill.0 ∙ sym one) same) in
          let number = sound.paid_once pool q order other key there is named (names (first_true (same_return_key k key) (list_any (λ x. same_return_key x key) ks) itself)) in
          grind (arith, nat_tests),
    ),
    each_tells q other is ks refill.1 (λ h. names (second_true (same_return_key k key) (list_any (λ x. same_return_key x key) ks) h)),
  )

  of_pool : (q : ℕ) (x : Option Order) → order_at b q ≡ x → AllByRecursion Tells (rows_of_order (paid_row q) (λ o. o.returns) x)
  of_pool q None is = tt
  of_pool q (Some other) is = each_tells q other is other.returns (refilled b sound q other is) (λ h. h)

  all_tell : AllByRecursion Tells rows
  all_tell = all_rows (is_of_pool 2) (whole_number_at 2) own_payer Tells (paid_rows b) rows has (λ q. of_pool q (order_at b q) refl)

  plain_of : (list : List Row) → AllByRecursion Tells list → AllByRecursion IsPlain list
  plain_of [] all = tt
  plain_of (row ∷ list) all = (all.0.0, plain_of list all.1)

  pool_of : (list : List Row) → AllByRecursion Tells list → AllByRecursion (λ row. is_return_row key row ≡ true → is_of_pool 2 pool row ≡ true) list
  pool_of [] all = tt
  pool_of (row ∷ list) all = (all.0.1, pool_of list all.1)

  some_same : (ks : List ReturnKey) → list_any (λ k. same_return_key k key) ks ≡ true → 1 ≤ length (filter (same_return_key key) ks)
  some_same [] some = absurd (false≢true some)
  some_same (k ∷ ks) some = by_case (same_return_key k key) refl some (same_return_key key k) refl (some_same ks)
    where
      by_case : (t : Bool) → same_return_key k key ≡ t → (t || list_any (λ x. same_return_key x key) ks) ≡ true → (u : Bool) → same_return_key key k ≡ u → (list_any (λ x. same_return_key x key) ks ≡ true → 1 ≤ length (filter (same_return_key key) ks)) → 1 ≤ length (cond u (k ∷ filter (same_return_key key) ks) (filter (same_return_key key) ks))
      by_case t is some true same later = omega arith
      by_case true is some false same later =
          let one : k ≡ key = same_return_is k key is in
          absurd (false≢true (sym same ∙ ap (same_return_key key) one ∙ subst (λ (x : ReturnKey). same_return_key x key ≡ true) one is))
      by_case false is some false same later = later some

  -- a return that a pool of a sound book pays has one row
  pub one_row : length (filter (has_key (columns_of_return key)) rows) ≡ 1
  one_row =
      let keyed_rows : filter (has_key (columns_of_return key)) rows ≡ filter (is_return_row key) rows = filter_same (has_key (columns_of_return key)) (is_return_row key) rows (all_keyed key whole rows (plain_of rows all_tell)) in
      let of_its = within_those (is_return_row key) (is_of_pool 2 pool) rows (pool_of rows all_tell) in
      let its : IsPermutation (map (paid_row pool) order.returns) (filter (is_of_pool 2 pool) rows) = subst (λ (x : Option Order). IsPermutation (rows_of_order (paid_row pool) (λ o. o.returns) x) (filter (is_of_pool 2 pool) rows)) there (has pool) in
      let kept = IsPermutation-filter (is_return_row key) (map (paid_row pool) order.returns) (filter (is_of_pool 2 pool) rows) its in
      let many = length_permutation (filter (is_return_row key) (map (paid_row pool) order.returns)) (filter (is_return_row key) (filter (is_of_pool 2 pool) rows)) kept in
      let named_as = as_named key pool order.returns (refilled b sound pool order there) in
      let few = once_among key order.returns (named_once order.amount (map sent_pair order.cut) (map return_pair order.returns) (none_of (order_fault order.amount (map sent_pair order.cut) (map return_pair order.returns)) (sound.orders pool order there).faultless)).1 in
      let some = some_same order.returns named in
      let there_are = ap length (keyed_rows ∙ of_its) in
      omega (arith, many, named_as, few, some, there_are)
