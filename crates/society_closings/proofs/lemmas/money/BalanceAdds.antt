-- The balances once credits have been added to them, one after another.
use Rattle.std.proofs.Common.{◌≡◌, ◌∙◌, ◌+◌, ◌⊎◌, ⊎_elim, ℕ, suc, ℤ, pos, ◌+ℤ◌, Bool, true, false, cond, List, [], ◌∷◌, ◌++◌, length, refl, ap, sym, subst, arith, filter, bytes_eq, append_assoc, IsPermutation}
use Rattle.std.specs.List.{AllByRecursion, sum_by}
use Rattle.std.proofs.lemmas.List.{append-nil}
use Rattle.std.proofs.lemmas.List.Elements.{filter-append}
use Rattle.std.proofs.lemmas.List.Sorted.{length_permutation, sum_by-IsPermutation}
use Rattle.std.proofs.lemmas.List.Sums.{sum_by_push}
use Rattle.std.proofs.lemmas.Slice.Eq.{bytes_eq-Decides}
use Rattle.pool_split.specs.Credits.{units_of}
use Rattle.pool_split.specs.declared.claim.Credit.{Credit}
use Rattle.sqlite.specs.Effect.{Database}
use Rattle.sqlite_trees.proofs.ListLemmas.{filter_same}
use Rattle.sqlite_value.specs.declared.value.Value.TheVariants.{Int, Text}
use Rattle.sqlite_value.specs.Order.{Row}
use Rattle.society_rows.specs.Layout as layout
use Rattle.society_rows.specs.Reads.{has_key}
use Rattle.society_rows.specs.Stored.{AreNumbered, put_over, rows_in}
use Rattle.society_book.specs.Columns.{HasRows, text_at}
use Rattle.society_book.specs.DerivedRows.{balance_rows_by, is_named}
use Rattle.society_closings.specs.Closings.{AddsEach}
use Rattle.society_book.proofs.lemmas.rows_alike.KeyRows.{either_way}
use Rattle.society_book.proofs.lemmas.rows_alike.NamedRows.{HasName, keyed_as_named}
use Rattle.society_book.proofs.lemmas.rows_alike.PutRows.{put_holds}
use Rattle.society_book.proofs.lemmas.rows_alike.RowLemmas.{all_rows, none_else, one_else}
use Rattle.work_ids.specs.Account.{account_text}
use Rattle.society_book.proofs.lemmas.shown.AccountRows.{balances_named}

-- those of some credits that name an account
abbrev pub of_account : List ℕ → List Credit → List Credit
of_account account credits = filter (λ credit. bytes_eq account (account_text credit.account)) credits

-- the row of an account by some credits
abbrev pub rows_by : List Credit → List ℕ → List Row
rows_by credits account = balance_rows_by account (of_account account credits)

no_more : (n : ℕ) → 0 ≡ suc n → ⊥
no_more n e = omega (arith, e)

-- credits in another order make the same row
pub same_balance : (a : List ℕ) (xs ys : List Credit) → IsPermutation xs ys → balance_rows_by a xs ≡ balance_rows_by a ys
same_balance a [] ys p = ap (balance_rows_by a) (sym (none_else ys p))
same_balance a (x ∷ xs) [] p = absurd (no_more (length xs) (length_permutation (x ∷ xs) [] p))
same_balance a (x ∷ xs) (y ∷ ys) p = ap (λ (n : ℕ). (Text a ∷ Int (pos n) ∷ []) ∷ []) (sym (sum_by-IsPermutation units_of (x ∷ xs) (y ∷ ys) p))

module _ (done : List Credit) (old : List Row) (has : HasRows is_named (rows_by done) old) where
  all_named : AllByRecursion HasName old
  all_named = all_rows is_named (text_at 0) (λ r. (bytes_eq-Decides (text_at 0 r) (text_at 0 r)).1 refl) HasName (rows_by done) old has (λ q. balances_named q (of_account q done))

  -- the units that an account has by its row are those of its credits
  units_there : (a : List ℕ) (before : ℤ) → ((filter (has_key (Text a ∷ [])) old ≡ []) × (before ≡ pos 0)) ⊎ (filter (has_key (Text a ∷ [])) old ≡ (Text a ∷ Int before ∷ []) ∷ []) → before ≡ pos (sum_by units_of (of_account a done))
  units_there a before had = by_credits (of_account a done) (has a) had
    where
      keyed : filter (has_key (Text a ∷ [])) old ≡ filter (is_named a) old
      keyed = filter_same (has_key (Text a ∷ [])) (is_named a) old (keyed_as_named a old all_named)

      lone : (x : ℤ) (n : ℕ) → ◌≡◌ {A = List Row} ((Text a ∷ Int x ∷ []) ∷ []) ((Text a ∷ Int (pos n) ∷ []) ∷ []) → x ≡ pos n
      lone x n e = cc

      by_credits : (cs : List Credit) → IsPermutation (balance_rows_by a cs) (filter (is_named a) old) → ((filter (has_key (Text a ∷ [])) old ≡ []) × (before ≡ pos 0)) ⊎ (filter (has_key (Text a ∷ [])) old ≡ (Text a ∷ Int before ∷ []) ∷ []) → before ≡ pos (sum_by units_of cs)
      by_credits [] p had =
          ⊎_elim (λ (x : (filter (has_key (Text a ∷ [])) old ≡ []) × (before ≡ pos 0)). x.1)
          (λ (x : filter (has_key (Text a ∷ [])) old ≡ (Text a ∷ Int before ∷ []) ∷ []). absurd (let e = sym (none_else (filter (is_named a) old) p) ∙ sym keyed ∙ x in cc)) had
      by_credits (c ∷ cs) p had =
          let there = one_else (Text a ∷ Int (pos (sum_by units_of (c ∷ cs))) ∷ []) (filter (is_named a) old) p in
          ⊎_elim (λ (x : (filter (has_key (Text a ∷ [])) old ≡ []) × (before ≡ pos 0)). absurd (let e = sym x.0 ∙ keyed ∙ there in cc))
          (λ (x : filter (has_key (Text a ∷ [])) old ≡ (Text a ∷ Int before ∷ []) ∷ []). lone before (sum_by units_of (c ∷ cs)) (sym x ∙ keyed ∙ there)) had

  -- the rows once one credit more is added
  one_added : (c : Credit) (new : List Row) → IsPermutation (put_over (Text (account_text c.account) ∷ Int (pos (sum_by units_of (of_account (account_text c.account) done) + c.units)) ∷ []) old) new → HasRows is_named (rows_by (done ++ c ∷ [])) new
  one_added c new put = put_holds a (Int (pos total) ∷ []) (rows_by done) (rows_by (done ++ c ∷ [])) old new has (λ q. balances_named q (of_account q done)) grows put
    where
      a : List ℕ
      a = account_text c.account

      total : ℕ
      total = sum_by units_of (of_account a done) + c.units

      last_one : (t : List ℕ) (cs : List Credit) → balance_rows_by t (cs ++ c ∷ []) ≡ (Text t ∷ Int (pos (sum_by units_of cs + c.units)) ∷ []) ∷ []
      last_one t [] = ap (λ (n : ℕ). (Text t ∷ Int (pos n) ∷ []) ∷ []) (sum_by_push units_of [] c)
      last_one t (d ∷ ds) = ap (λ (n : ℕ). (Text t ∷ Int (pos n) ∷ []) ∷ []) (sum_by_push units_of (d ∷ ds) c)

      by_case : (t : List ℕ) (x : Bool) → bytes_eq a t ≡ x → balance_rows_by t (of_account t done ++ cond x (c ∷ []) []) ≡ cond x ((Text a ∷ Int (pos total) ∷ []) ∷ []) (rows_by done t)
      by_case t true is =
          last_one t (of_account t done)
          ∙ ap (λ (q : List ℕ). (Text q ∷ Int (pos (sum_by units_of (of_account q done) + c.units)) ∷ []) ∷ []) (sym ((bytes_eq-Decides a t).0 is))
      by_case t false is = ap (balance_rows_by t) (append-nil (of_account t done))

      grows : (t : List ℕ) → rows_by (done ++ c ∷ []) t ≡ cond (bytes_eq a t) ((Text a ∷ Int (pos total) ∷ []) ∷ []) (rows_by done t)
      grows t =
          ap (balance_rows_by t) (filter-append (λ credit. bytes_eq t (account_text credit.account)) done (c ∷ []) ∙ ap (λ (x : Bool). of_account t done ++ cond x (c ∷ []) []) (either_way t a))
          ∙ by_case t (bytes_eq a t) refl

-- the rows once credits have been added, each in its turn
pub each_added : (cs done : List Credit) (old new : Database) → AreNumbered layout.balances old.trees → HasRows is_named (rows_by done) (rows_in layout.balances old.trees) → AddsEach cs old new → HasRows is_named (rows_by (done ++ cs)) (rows_in layout.balances new.trees) × AreNumbered layout.balances new.trees
each_added [] done old new numbered has adds = (
  subst (λ (db : Database). HasRows is_named (rows_by (done ++ [])) (rows_in layout.balances db.trees)) (sym adds) (subst (λ (l : List Credit). HasRows is_named (rows_by l) (rows_in layout.balances old.trees)) (sym (append-nil done)) has),
  subst (λ (db : Database). AreNumbered layout.balances db.trees) (sym adds) numbered,
)
each_added (c ∷ cs) done old new numbered has adds =
    let units = adds.1 in
    let a = account_text c.account in
    let before = units_there done (rows_in layout.balances old.trees) has a units.before units.had.rows in
    let put = subst (λ (x : ℤ). IsPermutation (put_over (Text a ∷ Int (x +ℤ pos c.units) ∷ []) (rows_in layout.balances old.trees)) (rows_in layout.balances adds.0.trees)) before (units.put.rows numbered) in
    let next = one_added done (rows_in layout.balances old.trees) has c (rows_in layout.balances adds.0.trees) put in
    subst (λ (l : List Credit). HasRows is_named (rows_by l) (rows_in layout.balances new.trees) × AreNumbered layout.balances new.trees) (append_assoc done (c ∷ []) cs)
    (each_added cs (done ++ c ∷ []) adds.0 new (units.put.numbered numbered) next adds.2)
