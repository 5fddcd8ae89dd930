-- What the rows of a pool and of its credits show.
use Rattle.std.proofs.Common.{◌≡◌, ◌∙◌, inl, inr, ℕ, pos, Bool, true, false, cond, List, [], ◌∷◌, Option, Some, None, Result, Ok, Err, IfOk, Vec, length, refl, ap, sym, arith, map, bytes_eq, option_map, IsPermutation, Less, is_some, unwrap_or}
use Rattle.std.specs.List.{AllByRecursion, enumerate_from}
use Rattle.std.specs.declared.alloc.Global.{Global}
use Rattle.std.proofs.lemmas.Bool.{eq-eqb, false_from_ne_true, false≢true}
use Rattle.std.proofs.lemmas.Slice.Eq.{bytes_eq-Decides}
use Rattle.pool_split.specs.declared.claim.Credit.{Credit}
use Rattle.share_rules.specs.declared.office.Office.{Office}
use Rattle.sqlite_schema.specs.Rules.{equal}
use Rattle.sqlite_schema.specs.declared.schema.Table.{Table}
use Rattle.sqlite_sql.specs.Query.{key_cmp}
use Rattle.sqlite_trees.specs.Tree.{IsAscending, Trees}
use Rattle.sqlite_value.specs.Keys.{rising}
use Rattle.sqlite_value.specs.Order.{Row, column}
use Rattle.sqlite_value.specs.declared.keys.Collation.TheVariants.{Binary}
use Rattle.sqlite_value.specs.declared.value.Value.TheVariants.{Int}
use Rattle.society_core.specs.Book.{Book, order_at}
use Rattle.society_core.specs.Orders.{Order}
use Rattle.society_core.specs.Pools.{credits_of}
use Rattle.society_rows.specs.Layout as layout
use Rattle.society_rows.specs.Reads.{Lists, has_key}
use Rattle.society_rows.specs.Stored.{rows_in}
use Rattle.society_rows.specs.declared.fault.RowFault.{RowFault}
use Rattle.society_book.specs.BookRows.{is_of_pool, pool_row, pool_rows, row_of_some}
use Rattle.society_book.specs.Columns.{HasRows, whole_number_at}
use Rattle.society_book.specs.DerivedRows.{credit_row, credit_rows, credit_rows_by}
use Rattle.society_book.specs.Kept.{HoldsBook}
use Rattle.society_book.specs.Shown.{HasIsrc, IsFilled, IsSaid, ShowCredits, ShowPool, credit_by, credit_in, credit_isrc}
use Rattle.society_book.proofs.lemmas.shown.AccountTexts.{order_filled}
use Rattle.society_book.proofs.lemmas.shown.CreditParts.{account_back, order_named}
use Rattle.society_book.proofs.lemmas.rows_alike.KeyRows.{last_truth, numbers_either_way, numbers_equal}
use Rattle.society_book.proofs.lemmas.rows_alike.RowLemmas.{found_under, none_else, only}
use Rattle.society_book.proofs.lemmas.rows_alike.SortedRows.{lines_back, lines_rise, one_order, rises_second}
use Rattle.work_ids.specs.Account.{account_of, account_text}
use Rattle.work_ids.specs.declared.account.Account.{Account}
use Rattle.work_ids.specs.declared.fault.IdFault.{IdFault}
use Rattle.sqlite_keyed.proofs.ListLemmas.{all-map, all_both}

-- the first column is a whole number from 0
abbrev pub HasNumber : Row → Type 0
HasNumber row = column row 0 ≡ Int (pos (whole_number_at 0 row))

-- the rows that SQL finds under a number are those that the number is to have
pub found_by_number : (n : ℕ) (table : Table) (expected : ℕ → List Row) (width : ℕ) (db : Trees) (found : List Row) → HasRows (is_of_pool 0) expected (rows_in table db) → ((q : ℕ) → AllByRecursion HasNumber (expected q)) → Lists table (has_key (Int (pos n) ∷ [])) width db found → IsPermutation (expected n) found
found_by_number n table expected width db found has numbered lists =
    found_under HasNumber (is_of_pool 0) (whole_number_at 0) (λ row. eq-eqb (whole_number_at 0 row) (whole_number_at 0 row) refl) n (has_key (Int (pos n) ∷ []))
    (λ row is. last_truth (equal Binary (column row 0) (Int (pos n))) ∙ ap (λ v. equal Binary v (Int (pos n))) is ∙ numbers_equal (whole_number_at 0 row) n ∙ numbers_either_way (whole_number_at 0 row) n)
    table expected width db found has numbered lists

pools_numbered : (q : ℕ) (o : Option Order) → AllByRecursion HasNumber (row_of_some (pool_row q) o)
pools_numbered q None = tt
pools_numbered q (Some order) = (refl, tt)

-- what is found of a pool shows whether it is closed
pub pool_found : (o : Office) (b : Book) (db : Trees) → HoldsBook o b db → (n : ℕ) (found : List Row) → Lists layout.pools (has_key (Int (pos n) ∷ [])) 1 db found → ShowPool (order_at b n) found
pool_found o b db holds n found lists =
    shows (order_at b n) (only (pool_row n) (order_at b n) found (found_by_number n layout.pools (pool_rows b) 1 db found holds.kept.pools (λ q. pools_numbered q (order_at b q)) lists))
  where
    shows : (kept : Option Order) → found ≡ row_of_some (pool_row n) kept → ShowPool kept found
    shows None e = inl (e, refl)
    shows (Some order) e = inr (n, order, e, refl)

credits_numbered : (o : Office) (b : Book) (q : ℕ) (x : Option Order) → AllByRecursion HasNumber (credit_rows_by o b q x)
credits_numbered o b q None = tt
credits_numbered o b q (Some order) = all-map HasNumber (λ (line : ℕ × Credit). credit_row q line.0 line.1) (λ line. refl) (enumerate_from 0 (credits_of o b order))

credits_rise : (q p : ℕ) (cs : List Credit) → IsAscending (λ a b. key_cmp 0 (rising 2 []) a b ≡ Less) (map (λ line. credit_row q line.0 line.1) (enumerate_from p cs))
credits_rise q p cs =
    lines_rise (credit_row q) (λ a b. key_cmp 0 (rising 2 []) a b ≡ Less) (λ k l x y less. rises_second (credit_row q k x) (credit_row q l y) k l refl refl refl less) p cs

-- the credits of an order, none where there is none
abbrev pub credits_or_none : Office → Book → Option Order → List Credit
credits_or_none office book (Some order) = credits_of office book order
credits_or_none office book None = []

-- what is found of a pool's credits shows them
pub credits_found : (o : Office) (b : Book) (db : Trees) → HoldsBook o b db → (n : ℕ) (found : List Row) → Lists layout.credits_table (has_key (Int (pos n) ∷ [])) 2 db found → ShowCredits (credits_or_none o b (order_at b n)) found
credits_found o b db holds n found lists =
    shows (order_at b n) refl (found_by_number n layout.credits_table (credit_rows o b) 2 db found holds.derived.credits (λ q. credits_numbered o b q (order_at b q)) lists)
  where
    shows : (x : Option Order) → order_at b n ≡ x → IsPermutation (credit_rows_by o b n x) found → ShowCredits (credits_or_none o b x) found
    shows None is these = (n, none_else found these, tt)
    shows (Some order) is these = (
      n,
      one_order 2 (map (λ line. credit_row n line.0 line.1) (enumerate_from 0 (credits_of o b order))) found (credits_rise n 0 (credits_of o b order)) these lists.sorted,
      all_both (λ (c : Credit). HasIsrc c.isrc) (λ (c : Credit). IsFilled c.account) IsSaid (λ c named full. (named, full)) (credits_of o b order) (order_named o b order) (order_filled o b holds.sound n order is),
    )

-- ---- a credit that is read of its row

dash_short : (isrc : List ℕ) → length isrc ≡ 12 → bytes_eq isrc (45 ∷ []) ≡ false
dash_short isrc long = false_from_ne_true (bytes_eq isrc (45 ∷ [])) (λ e. absurd (let short = ap length ((bytes_eq-Decides isrc (45 ∷ [])).0 e) in omega (arith, short, long)))

isrc_back : (isrc : Option (List ℕ)) → HasIsrc isrc → credit_isrc (unwrap_or isrc (45 ∷ [])) ≡ isrc
isrc_back None named = refl
isrc_back (Some isrc) named = ap (λ b. cond b None (Some isrc)) (dash_short isrc named)

credit_back : (q p : ℕ) (x y : Credit) → IsSaid x → Some y ≡ credit_in (credit_row q p x) → y ≡ x
credit_back q p x y said e = by_account (account_of (account_text x.account)) refl e
  where
    by_account : (r : Result Account IdFault) → account_of (account_text x.account) ≡ r → Some y ≡ credit_by (credit_isrc (unwrap_or x.isrc (45 ∷ []))) r x.units → y ≡ x
    by_account (Err fault) is h = absurd (let z = h in cc)
    by_account (Ok account) is h =
        let same : y ≡ record { isrc = credit_isrc (unwrap_or x.isrc (45 ∷ [])); account = account; units = x.units } = cc in
        let account_same = account_back x.account account said.1 is in
        let isrc_same = isrc_back x.isrc said.0 in
        same ∙ (λ i. record { isrc = isrc_same i; account = account_same i; units = x.units })

-- and so are all
pub credits_back : (cs list : List Credit) (rows : List Row) → ShowCredits cs rows → map Some list ≡ map credit_in rows → list ≡ cs
credits_back cs list rows shows e = lines_back (credit_row shows.0) credit_in IsSaid (λ p x y said h. credit_back shows.0 p x y said h) 0 cs list shows.2 (e ∙ ap (map credit_in) shows.1)

one_list : (xs ys : List (Option Credit)) → ◌≡◌ {A = Option (List (Option Credit))} (Some xs) (Some ys) → xs ≡ ys
one_list xs ys e = cc

-- where a pool is closed, its credits are shown
pub shown_closed : (o : Office) (b : Book) (n : ℕ) (closed : Bool) (found : List Row) (r : Result (Option (Vec Credit Global)) RowFault) → ShowCredits (credits_or_none o b (order_at b n)) found → IfOk r (λ shown. option_map (λ list. map Some list.items) shown ≡ cond closed (Some (map credit_in found)) None) → IfOk r (λ shown. closed ≡ is_some (order_at b n) → option_map (λ list. list.items) shown ≡ option_map (credits_of o b) (order_at b n))
shown_closed o b n closed found (Err fault) shows h = tt
shown_closed o b n closed found (Ok shown) shows h = λ at. by_order (order_at b n) shows closed at shown h
  where
    by_order : (x : Option Order) → ShowCredits (credits_or_none o b x) found → (t : Bool) → t ≡ is_some x → (s : Option (Vec Credit Global)) → option_map (λ list. map Some list.items) s ≡ cond t (Some (map credit_in found)) None → option_map (λ list. list.items) s ≡ option_map (credits_of o b) x
    by_order None told true at s e = absurd (false≢true (sym at))
    by_order None told false at None e = refl
    by_order None told false at (Some list) e = absurd (let z = e in cc)
    by_order (Some order) told false at s e = absurd (false≢true at)
    by_order (Some order) told true at None e = absurd (let z = e in cc)
    by_order (Some order) told true at (Some list) e = ap Some (credits_back (credits_of o b order) list.items found told (one_list (map Some list.items) (map credit_in found) e))

-- an ISRC whose text is no dash
pub not_dash : (text i : List ℕ) → i ≡ text → bytes_eq text (45 ∷ []) ≡ false → Some i ≡ credit_isrc text
not_dash text i same apart = ap Some same ∙ sym (ap (λ b. cond b None (Some text)) apart)
