-- The rows of a book's pools, of their cuts, of the returns that they pay and of their marks are known.
use Rattle.std.proofs.Common.{◌≡◌, ◌∙◌, ◌≤◌, ◌<◌, ◌||◌, ℕ, Bool, true, false, cond, List, [], ◌∷◌, Option, Some, None, filter, get_or, length, map, ap, refl, sym, subst, arith, IsPermutation}
use Rattle.std.specs.BTreeSet.{BTreeSet, contains}
use Rattle.std.specs.List.{AllByRecursion, list_any}
use Rattle.std.specs.Ordering.{nat_cmp}
use Rattle.sqlite_keyed.proofs.ListLemmas.{all_both}
use Rattle.sqlite_value.specs.Order.{Row}
use Rattle.share_rules.specs.declared.kind.Kind.{Kind}
use Rattle.share_rules.specs.declared.kind.Kind.TheVariants.{Performing, Mechanical}
use Rattle.society_core.specs.Book.{Book, IsSound, order_at}
use Rattle.society_core.specs.Orders.{Order}
use Rattle.society_core.specs.declared.return_key.ReturnKey.{ReturnKey}
use Rattle.society_core.specs.declared.transmission_key.TransmissionKey.{TransmissionKey}
use Rattle.society_rows.specs.Forms.{IsOfForms, pool_forms}
use Rattle.society_book.specs.BookRows.{cut_row, cut_rows, is_of_pool, marks_by, marks_of, mechanical_rows, paid_row, paid_rows, pool_row, pool_rows, row_of_some, rows_of_order}
use Rattle.society_book.specs.Columns.{HasRows, text_at, whole_number_at}
use Rattle.society_book.proofs.lemmas.rows_alike.BookLemmas.{IsRefilled}
use Rattle.society_book.proofs.lemmas.rows_alike.RowLemmas.{all_rows, none_else, one_else, only}
use Rattle.work_ids.specs.Blanks.{fill, without_trailing_blanks}
use Rattle.book_audit.specs.OrderParts.{StandOnce, IsKnownCut, IsKnownMark, IsKnownPaid, Numbers}
use Rattle.book_audit.specs.Pools.{IsClosed}
use Rattle.sqlite_trees.proofs.ListLemmas.{all-get_or}
use Rattle.book_audit.proofs.lemmas.orders.OrdersAgain.{IsCut, IsMark, IsPaid, all_cuts, all_marks, all_paid, own_payer, own_pool, pool_form, refilled}

any_of_kept : {X : Type 0} (p : X → Bool) (xs : List X) (x : X) → filter p xs ≡ x ∷ [] → list_any p xs ≡ true
any_of_kept p [] x is = absurd (let no : ◌≡◌ {A = List _} [] (x ∷ []) → ⊥ = λ e. cc in no is)
any_of_kept p (y ∷ xs) x is = by_case (p y) (any_of_kept p xs x) is
  where
    by_case : (b : Bool) → (filter p xs ≡ x ∷ [] → list_any p xs ≡ true) → cond b (y ∷ filter p xs) (filter p xs) ≡ x ∷ [] → (b || list_any p xs) ≡ true
    by_case true later is = refl
    by_case false later is = later is

few_of : {X : Type 0} (row : X → Row) (o : Option X) → length (row_of_some row o) ≤ 1
few_of row None = omega arith
few_of row (Some x) = omega arith

few_marks : (q : ℕ) (o : Option Order) → length (marks_by q o) ≤ 1
few_marks q None = omega arith
few_marks q (Some order) = by_kind order.kind
  where
    by_kind : (kind : Kind) → length (marks_of q kind) ≤ 1
    by_kind Performing = omega arith
    by_kind Mechanical = omega arith

only_mark : (q : ℕ) (o : Option Order) (ys : List Row) → IsPermutation (marks_by q o) ys → ys ≡ marks_by q o
only_mark q None ys p = none_else ys p
only_mark q (Some order) ys p = by_kind order.kind p
  where
    by_kind : (kind : Kind) → IsPermutation (marks_of q kind) ys → ys ≡ marks_of q kind
    by_kind Performing p = none_else ys p
    by_kind Mechanical p = one_else _ ys p

module _ (b : Book) (sound : IsSound b) where
  -- a pool of a book stands once
  pub pools_once : (rows : List Row) → HasRows (is_of_pool 0) (pool_rows b) rows → StandOnce rows
  pools_once rows has q = subst (λ (l : List Row). length l ≤ 1) (sym (only (pool_row q) (order_at b q) (filter (is_of_pool 0 q) rows) (has q))) (few_of (pool_row q) (order_at b q))

  -- and so does its mark
  pub marks_once : (rows : List Row) → HasRows (is_of_pool 0) (mechanical_rows b) rows → StandOnce rows
  marks_once rows has q = subst (λ (l : List Row). length l ≤ 1) (sym (only_mark q (order_at b q) (filter (is_of_pool 0 q) rows) (has q))) (few_marks q (order_at b q))

  -- the rows of its pools are of the form
  pub all_pools : (rows : List Row) → HasRows (is_of_pool 0) (pool_rows b) rows → AllByRecursion (IsOfForms pool_forms) rows
  all_pools rows has = all_rows (is_of_pool 0) (whole_number_at 0) own_pool (IsOfForms pool_forms) (pool_rows b) rows has (λ q. of_pool q (order_at b q) refl)
    where
      of_pool : (q : ℕ) (x : Option Order) → order_at b q ≡ x → AllByRecursion (IsOfForms pool_forms) (row_of_some (pool_row q) x)
      of_pool q None is = tt
      of_pool q (Some order) is = (pool_form b sound q order is, tt)

  module _ (pools : List Row) (numbers : BTreeSet ℕ) (has : HasRows (is_of_pool 0) (pool_rows b) pools) (these : Numbers pools numbers) where
    known : (q : ℕ) (order : Order) → order_at b q ≡ Some order → contains nat_cmp numbers q ≡ true
    known q order there =
        these.these q
        ∙ any_of_kept (is_of_pool 0 q) pools (pool_row q order) (only (pool_row q) (order_at b q) (filter (is_of_pool 0 q) pools) (has q) ∙ ap (row_of_some (pool_row q)) there)

    abbrev KnownAt : ℕ → Row → Type 0
    KnownAt at row = contains nat_cmp numbers (whole_number_at at row) ≡ true

    each_cut : (q : ℕ) → contains nat_cmp numbers q ≡ true → (keys : List TransmissionKey) → AllByRecursion (KnownAt 0) (map (cut_row q) keys)
    each_cut q there [] = tt
    each_cut q there (key ∷ keys) = (there, each_cut q there keys)

    -- each row of a cut is of a pool that is known
    pub cuts_known : (rows : List Row) → HasRows (is_of_pool 0) (cut_rows b) rows → AllByRecursion (IsKnownCut numbers) rows
    cuts_known rows has_cuts =
        all_both IsCut (KnownAt 0) (IsKnownCut numbers) (λ row form there. record { forms = form.0; sender = form.1; known = there }) rows (all_cuts b sound rows has_cuts)
        (all_rows (is_of_pool 0) (whole_number_at 0) own_pool (KnownAt 0) (cut_rows b) rows has_cuts (λ q. of_pool q (order_at b q) refl))
      where
        of_pool : (q : ℕ) (x : Option Order) → order_at b q ≡ x → AllByRecursion (KnownAt 0) (rows_of_order (cut_row q) (λ order. order.cut) x)
        of_pool q None is = tt
        of_pool q (Some order) is = each_cut q (known q order is) order.cut

    abbrev IsPlain : Row → Type 0
    IsPlain row = (without_trailing_blanks (fill 20 (text_at 0 row)) ≡ text_at 0 row) × KnownAt 2 row

    each_paid : (q : ℕ) → contains nat_cmp numbers q ≡ true → (keys : List ReturnKey) → AllByRecursion IsRefilled keys → AllByRecursion IsPlain (map (paid_row q) keys)
    each_paid q there [] whole = tt
    each_paid q there (key ∷ keys) whole = ((ap without_trailing_blanks whole.0, there), each_paid q there keys whole.1)

    -- so is each row of a return that is paid
    pub paid_known : (rows : List Row) → HasRows (is_of_pool 2) (paid_rows b) rows → AllByRecursion (IsKnownPaid numbers) rows
    paid_known rows has_paid =
        all_both IsPaid IsPlain (IsKnownPaid numbers) (λ row form plain. record { forms = form.0; reporter = form.1; text = plain.0; known = plain.1 }) rows (all_paid b sound rows has_paid)
        (all_rows (is_of_pool 2) (whole_number_at 2) own_payer IsPlain (paid_rows b) rows has_paid (λ q. of_pool q (order_at b q) refl))
      where
        of_pool : (q : ℕ) (x : Option Order) → order_at b q ≡ x → AllByRecursion IsPlain (rows_of_order (paid_row q) (λ order. order.returns) x)
        of_pool q None is = tt
        of_pool q (Some order) is = each_paid q (known q order is) order.returns (refilled b sound q order is)

    each_mark : (q : ℕ) → contains nat_cmp numbers q ≡ true → (kind : Kind) → AllByRecursion (KnownAt 0) (marks_of q kind)
    each_mark q there Performing = tt
    each_mark q there Mechanical = (there, tt)

    -- and each mark
    pub marks_known : (rows : List Row) → HasRows (is_of_pool 0) (mechanical_rows b) rows → AllByRecursion (IsKnownMark numbers) rows
    marks_known rows has_marks =
        all_both IsMark (KnownAt 0) (IsKnownMark numbers) (λ row form there. record { forms = form; known = there }) rows (all_marks b sound rows has_marks)
        (all_rows (is_of_pool 0) (whole_number_at 0) own_pool (KnownAt 0) (mechanical_rows b) rows has_marks (λ q. of_pool q (order_at b q) refl))
      where
        of_pool : (q : ℕ) (x : Option Order) → order_at b q ≡ x → AllByRecursion (KnownAt 0) (marks_by q x)
        of_pool q None is = tt
        of_pool q (Some order) is = each_mark q (known q order is) order.kind

-- each row of the pools is that of a pool of the book
pub all_closed : (b : Book) (rows : List Row) → HasRows (is_of_pool 0) (pool_rows b) rows → AllByRecursion (IsClosed b) rows
all_closed b rows has = all_rows (is_of_pool 0) (whole_number_at 0) own_pool (IsClosed b) (pool_rows b) rows has (λ q. of_pool q (order_at b q) refl)
  where
    of_pool : (q : ℕ) (x : Option Order) → order_at b q ≡ x → AllByRecursion (IsClosed b) (row_of_some (pool_row q) x)
    of_pool q None is = tt
    of_pool q (Some order) is = (record { order = order; form = refl; there = is }, tt)

-- so is the one at a place
pub closed_here : (b : Book) (rows : List Row) → HasRows (is_of_pool 0) (pool_rows b) rows → (i : ℕ) (row : Row) → i < length rows → row ≡ get_or rows i row → IsClosed b row
closed_here b rows has i row within is = subst (IsClosed b) (sym is) (all-get_or (IsClosed b) rows i row (all_closed b rows has) within)
