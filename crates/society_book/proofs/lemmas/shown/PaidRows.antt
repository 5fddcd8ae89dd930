-- What the rows of the returns that pools pay show.
use Rattle.std.proofs.Common.{◌≡◌, ◌∙◌, ◌&&◌, ◌||◌, ◌==◌, inl, inr, ℕ, pos, Bool, true, false, cond, List, [], ◌∷◌, Option, Some, None, is_some, refl, ap, sym, subst, map, filter, IsPermutation}
use Rattle.std.specs.FinMap as finite
use Rattle.std.specs.FinMap.Entries.{find}
use Rattle.std.specs.List as lists
use Rattle.std.specs.List.{AllByRecursion, list_all, list_any}
use Rattle.std.specs.Ordering.{eq_by_cmp, nat_cmp}
use Rattle.std.proofs.lemmas.Bool.{false≢true, eq-eqb, or_left, or_right}
use Rattle.std.proofs.lemmas.List.Sorted.{list_any-IsPermutation}
use Rattle.share_rules.specs.declared.office.Office.{Office}
use Rattle.sqlite_trees.proofs.ListLemmas.{all-permutation, filter_same}
use Rattle.sqlite_trees.specs.Tree.{Trees}
use Rattle.sqlite_value.specs.declared.value.Value.TheVariants.{Int, Text}
use Rattle.sqlite_value.specs.Order.{Row}
use Rattle.society_core.proofs.lemmas.PoolLemmas.{IsPool, each_pool}
use Rattle.society_core.proofs.lemmas.SameOrders.{same_return_is}
use Rattle.society_core.specs.Answers.{paid_by, payer, payment_by, pool_of}
use Rattle.society_core.specs.declared.store.Payment.TheVariants.{Unknown}
use Rattle.society_core.specs.Book.{Book, IsSound, is_applied, order_at, return_at}
use Rattle.society_core.specs.Orders.{Order, names_return, same_return_key}
use Rattle.society_core.specs.declared.return_key.ReturnKey.{ReturnKey}
use Rattle.society_rows.specs.Layout as layout
use Rattle.society_rows.specs.Reads.{Lists, has_key}
use Rattle.society_rows.specs.Stored.{rows_in}
use Rattle.society_book.specs.BookRows.{is_of_pool, is_return_row, paid_row, paid_rows, return_key_of, rows_of_order}
use Rattle.society_book.specs.Columns.{whole_number_at, text_at}
use Rattle.society_book.specs.Kept.{HoldsBook}
use Rattle.society_book.specs.Shown.{ShowPayer}
use Rattle.society_book.proofs.lemmas.rows_alike.BookLemmas.{IsRefilled, all_refilled, third_holds, filter_true}
use Rattle.society_book.proofs.lemmas.rows_alike.KeyRows.{filled_same, keyed}
use Rattle.society_book.proofs.lemmas.rows_alike.RowLemmas.{all_rows}
use Rattle.work_ids.specs.Blanks.{fill, without_trailing_blanks}
use Rattle.work_ids.specs.Numbers.{is_pool_number}
use Rattle.sqlite_keyed.proofs.ListLemmas.{all-filter, all_both, all_weaker}
use Rattle.society_book.proofs.lemmas.shown.NumberRows.{any_kept}
use Rattle.sqlite_rules.proofs.ListLemmas.{has_filtered, some_from, some_has}

-- ---- the payer of a return

module _ (b : Book) (key : ReturnKey) where
  abbrev first_naming : List (ℕ × Order) → Option ℕ
  first_naming es = pool_of (lists.find (λ (entry : ℕ × Order). names_return key entry.1) es)

  names_in : (es : List (ℕ × Order)) → AllByRecursion (IsPool b) es → (pool : ℕ) → first_naming es ≡ Some pool → (order : Order) × (order_at b pool ≡ Some order) × (names_return key order ≡ true)
  names_in [] all pool e = absurd (cc)
  names_in (entry ∷ es) all pool e = by_case (names_return key entry.1) refl e (names_in es all.1 pool)
    where
      by_case : (t : Bool) → names_return key entry.1 ≡ t → pool_of (cond t (Some entry) (lists.find (λ (x : ℕ × Order). names_return key x.1) es)) ≡ Some pool → (first_naming es ≡ Some pool → (order : Order) × (order_at b pool ≡ Some order) × (names_return key order ≡ true)) → (order : Order) × (order_at b pool ≡ Some order) × (names_return key order ≡ true)
      by_case true names is later = let same : entry.0 ≡ pool = cc in (entry.1, subst (λ (n : ℕ). order_at b n ≡ Some entry.1) same all.0, names)
      by_case false names is later = later is

  -- the payer names the return
  pub payer_names : (pool : ℕ) → payer b key ≡ Some pool → (order : Order) × (order_at b pool ≡ Some order) × (names_return key order ≡ true)
  payer_names pool e = names_in (finite.entries b.pools) (each_pool b) pool e

  pays_in : IsSound b → (pool : ℕ) (order : Order) → order_at b pool ≡ Some order → names_return key order ≡ true → (es : List (ℕ × Order)) → AllByRecursion (IsPool b) es → find nat_cmp pool es ≡ Some order → first_naming es ≡ Some pool
  pays_in sound pool order there names [] all e = absurd (cc)
  pays_in sound pool order there names (entry ∷ es) all e = by_case (names_return key entry.1) refl (eq_by_cmp nat_cmp pool entry.0) refl e (pays_in sound pool order there names es all.1)
    where
      by_case : (t : Bool) → names_return key entry.1 ≡ t → (c : Bool) → eq_by_cmp nat_cmp pool entry.0 ≡ c → cond c (Some entry.1) (find nat_cmp pool es) ≡ Some order → (find nat_cmp pool es ≡ Some order → first_naming es ≡ Some pool) → pool_of (cond (names_return key entry.1) (Some entry) (lists.find (λ (x : ℕ × Order). names_return key x.1) es)) ≡ Some pool
      by_case true named c is here later =
          ap (λ (t : Bool). pool_of (cond t (Some entry) (lists.find (λ (x : ℕ × Order). names_return key x.1) es))) named
          ∙ ap Some (sound.paid_once entry.0 pool entry.1 order key all.0 there named names)
      by_case false other true is here later =
          let same : entry.1 ≡ order = cc in
          absurd (false≢true (sym other ∙ ap (names_return key) same ∙ names))
      by_case false other false is here later =
          ap (λ (t : Bool). pool_of (cond t (Some entry) (lists.find (λ (x : ℕ × Order). names_return key x.1) es))) other ∙ later here

  -- a pool that names the return is its payer
  pub pays : IsSound b → (pool : ℕ) (order : Order) → order_at b pool ≡ Some order → names_return key order ≡ true → payer b key ≡ Some pool
  pays sound pool order there names =
      pays_in sound pool order there names (finite.entries b.pools) (each_pool b) (sym (finite.get-entries b.pools pool) ∙ there)

-- ---- its rows

-- a row of a return that a pool pays, and whose it is where it is that of a key
abbrev Tells : Book → ReturnKey → Row → Type 0
Tells b key row =
    (row ≡ Text (text_at 0 row) ∷ Int (pos (whole_number_at 1 row)) ∷ Int (pos (whole_number_at 2 row)) ∷ [])
    × (without_trailing_blanks (fill 20 (text_at 0 row)) ≡ text_at 0 row)
    × (is_return_row key row ≡ true → payer b key ≡ Some (whole_number_at 2 row))

module _ (o : Office) (b : Book) (db : Trees) (holds : HoldsBook o b db) (key : ReturnKey) (whole : IsRefilled key) where
  read_back : (pool : ℕ) (k : ReturnKey) → IsRefilled k → return_key_of (paid_row pool k) ≡ k
  read_back pool k refilled = λ i. record { reporter = refilled i; number = k.number }

  each_tells : (pool : ℕ) (order : Order) → order_at b pool ≡ Some order → (ks : List ReturnKey) → AllByRecursion IsRefilled ks → (list_any (λ named. same_return_key named key) ks ≡ true → names_return key order ≡ true) → AllByRecursion (Tells b key) (map (paid_row pool) ks)
  each_tells pool order there [] refilled named = tt
  each_tells pool order there (k ∷ ks) refilled named = (
    (
      refl,
      ap without_trailing_blanks refilled.0,
      λ same.
          let one : key ≡ k = same_return_is key (return_key_of (paid_row pool k)) same ∙ read_back pool k refilled.0 in
          let names : same_return_key k key ≡ true = subst (λ (x : ReturnKey). same_return_key x key ≡ true) (one) (subst (λ (x : ReturnKey). same_return_key key x ≡ true) (read_back pool k refilled.0 ∙ sym one) same) in
          pays b key holds.sound pool order there (named (or_left (same_return_key k key) (list_any (λ x. same_return_key x key) ks) names)),
    ),
    each_tells pool order there ks refilled.1 (λ h. named (or_right (same_return_key k key) (list_any (λ x. same_return_key x key) ks) h)),
  )

  returns_of : (pool : ℕ) (order : Order) → order_at b pool ≡ Some order → AllByRecursion IsRefilled order.returns
  returns_of pool order there = all_refilled b (rows_in layout.returns db) holds.kept.returns order.returns (third_holds (is_pool_number pool) (list_all (is_applied b) order.cut) (list_all (λ (k : ReturnKey). is_some (return_at b k)) order.returns) (holds.sound.pools pool order there))

  of_pool : (pool : ℕ) (x : Option Order) → order_at b pool ≡ x → AllByRecursion (Tells b key) (rows_of_order (paid_row pool) (λ order. order.returns) x)
  of_pool pool None is = tt
  of_pool pool (Some order) is = each_tells pool order is order.returns (returns_of pool order is) (λ h. h)

  all_tell : AllByRecursion (Tells b key) (rows_in layout.pool_returns db)
  all_tell = all_rows (is_of_pool 2) (whole_number_at 2) (λ row. eq-eqb (whole_number_at 2 row) (whole_number_at 2 row) refl) (Tells b key) (paid_rows b) (rows_in layout.pool_returns db) holds.kept.paid (λ pool. of_pool pool (order_at b pool) refl)

  keyed_here : (row : Row) → Tells b key row → has_key (Text (without_trailing_blanks key.reporter) ∷ Int (pos key.number) ∷ []) row ≡ is_return_row key row
  keyed_here row tells =
      keyed (without_trailing_blanks key.reporter) key.number row (ap (λ (r : Row). Rattle.sqlite_value.specs.Order.column r 0) tells.0, ap (λ (r : Row). Rattle.sqlite_value.specs.Order.column r 1) tells.0)
      ∙ ap (λ x. x && key.number == whole_number_at 1 row) (filled_same key.reporter (text_at 0 row) whole tells.1)

  -- a row of the key
  abbrev IsHere : Row → Type 0
  IsHere row = Tells b key row × (is_return_row key row ≡ true)

  any_passed : (p q : Row → Bool) (rows : List Row) → list_any p (filter q rows) ≡ true → list_any p rows ≡ true
  any_passed p q rows h = let found = some_has p (filter q rows) h in some_from p rows found.0 (has_filtered q rows found.0 found.1).0 found.2

  named_row : (pool : ℕ) (ks : List ReturnKey) → AllByRecursion IsRefilled ks → list_any (λ named. same_return_key named key) ks ≡ true → list_any (is_return_row key) (map (paid_row pool) ks) ≡ true
  named_row pool [] refilled h = h
  named_row pool (k ∷ ks) refilled h = by_case (same_return_key k key) refl (named_row pool ks refilled.1)
    where
      by_case : (t : Bool) → same_return_key k key ≡ t → (list_any (λ named. same_return_key named key) ks ≡ true → list_any (is_return_row key) (map (paid_row pool) ks) ≡ true) → (is_return_row key (paid_row pool k) || list_any (is_return_row key) (map (paid_row pool) ks)) ≡ true
      by_case true is later =
          let one : k ≡ key = same_return_is k key is in
          or_left (is_return_row key (paid_row pool k)) (list_any (is_return_row key) (map (paid_row pool) ks))
          (ap (same_return_key key) (read_back pool k refilled.0) ∙ ap (same_return_key key) one ∙ subst (λ (x : ReturnKey). same_return_key x key ≡ true) one is)
      by_case false is later = or_right (is_return_row key (paid_row pool k)) (list_any (is_return_row key) (map (paid_row pool) ks)) (later (sym (ap (λ x. x || list_any (λ named. same_return_key named key) ks) is) ∙ h))

  -- a return that is paid has a row
  has_row : (pool : ℕ) → payer b key ≡ Some pool → list_any (is_return_row key) (rows_in layout.pool_returns db) ≡ true
  has_row pool e =
      let found = payer_names b key pool e in
      let expected : IsPermutation (map (paid_row pool) found.0.returns) (filter (is_of_pool 2 pool) (rows_in layout.pool_returns db)) = subst (λ (x : Option Order). IsPermutation (rows_of_order (paid_row pool) (λ order. order.returns) x) (filter (is_of_pool 2 pool) (rows_in layout.pool_returns db))) found.1 (holds.kept.paid pool) in
      any_passed (is_return_row key) (is_of_pool 2 pool) (rows_in layout.pool_returns db)
      (sym (list_any-IsPermutation (is_return_row key) (map (paid_row pool) found.0.returns) (filter (is_of_pool 2 pool) (rows_in layout.pool_returns db)) expected)
      ∙ named_row pool found.0.returns (returns_of pool found.0 found.1) found.2)

  -- what is found under the key of a return shows its payer
  pub payer_found : (found : List Row) → Lists layout.pool_returns (has_key (Text (without_trailing_blanks key.reporter) ∷ Int (pos key.number) ∷ [])) 2 db found → ShowPayer (payer b key) found
  payer_found found lists =
      let rows = rows_in layout.pool_returns db in
      let same = filter_same (has_key (Text (without_trailing_blanks key.reporter) ∷ Int (pos key.number) ∷ [])) (is_return_row key) rows (all_weaker (Tells b key) (λ row. has_key (Text (without_trailing_blanks key.reporter) ∷ Int (pos key.number) ∷ []) row ≡ is_return_row key row) keyed_here rows all_tell) in
      let these : IsPermutation (filter (is_return_row key) rows) found = subst (λ l. IsPermutation l found) same lists.rows in
      shows found these (all-permutation IsHere (filter (is_return_row key) rows) found these (all_both (Tells b key) (λ row. is_return_row key row ≡ true) IsHere (λ row tells is. (tells, is)) (filter (is_return_row key) rows) (all-filter (Tells b key) (is_return_row key) rows all_tell) (filter_true (is_return_row key) rows))) (payer b key) refl
    where
      shows : (found : List Row) → IsPermutation (filter (is_return_row key) (rows_in layout.pool_returns db)) found → AllByRecursion IsHere found → (x : Option ℕ) → payer b key ≡ x → ShowPayer (payer b key) found
      shows [] these here None is = inl (refl, is)
      shows [] these here (Some pool) is =
          let rows = rows_in layout.pool_returns db in
          absurd (false≢true (sym (list_any-IsPermutation (is_return_row key) (filter (is_return_row key) rows) [] these) ∙ any_kept (is_return_row key) rows ∙ has_row pool is))
      shows (row ∷ more) these here x is =
          inr (text_at 0 row, whole_number_at 1 row, whole_number_at 2 row, more, ap (λ (r : Row). r ∷ more) here.0.0.0, here.0.0.2 here.0.1)

-- a return that is there is paid or not
pub payment_is : (kept : Option (List ℕ)) (pool : Option ℕ) → cond (is_some kept) (paid_by pool) Unknown ≡ payment_by kept pool
payment_is None pool = refl
payment_is (Some body) pool = refl
