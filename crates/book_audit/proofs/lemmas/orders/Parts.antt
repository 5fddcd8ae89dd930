-- What the rows of pools say, row by row.
use Rattle.std.proofs.Common.{◌≡◌, ◌<◌, ◌≤◌, ◌+◌, ◌++◌, ◌||◌, ℕ, zero, suc, Bool, true, false, cond, List, [], ◌∷◌, filter, get_or, length, take, ap, refl, sym, subst, arith, not, length-append}
use Rattle.std.specs.List.{AllByRecursion, list_any}
use Rattle.std.proofs.lemmas.Bool.{false≢true}
use Rattle.std.proofs.lemmas.Bool.Decides.{nat_tests}
use Rattle.std.proofs.lemmas.List.{take_more}
use Rattle.std.proofs.lemmas.List.Elements.{filter-append}
use Rattle.sqlite_value.specs.Order.{Row}
use Rattle.society_book.specs.BookRows.{is_of_pool}
use Rattle.society_book.specs.Columns.{whole_number_at}
use Rattle.std.proofs.Common.{Result, Ok, pos, ◌∙◌}
use Rattle.std.specs.BTreeSet.{BTreeSet, contains}
use Rattle.std.specs.Ordering.{nat_cmp}
use Rattle.sqlite_keyed.proofs.ListLemmas.{all-append}
use Rattle.sqlite_trees.proofs.ListLemmas.{all-get_or}
use Rattle.sqlite_value.specs.declared.value.Value.TheVariants.{Int}
use Rattle.society_book.specs.BookRows.{mechanical_row}
use Rattle.society_book.specs.Columns.{text_at}
use Rattle.work_ids.specs.Blanks.{fill, without_trailing_blanks}
use Rattle.work_ids.specs.Reporter.{reporter_of}
use Rattle.book_audit.specs.OrderParts.{StandOnce, IsKnownPaid, SaysMark}

-- of a list in which one passes one is kept at least
some_kept : {X : Type 0} (p : X → Bool) (xs : List X) → list_any p xs ≡ true → 1 ≤ length (filter p xs)
some_kept p [] any = absurd (false≢true any)
some_kept p (x ∷ xs) any = by_case (p x) (some_kept p xs) any
  where
    by_case : (b : Bool) → (list_any p xs ≡ true → 1 ≤ length (filter p xs)) → (b || list_any p xs) ≡ true → 1 ≤ length (cond b (x ∷ filter p xs) (filter p xs))
    by_case true later any = omega arith
    by_case false later any = later any

-- and none of one in which none passes
none_kept : {X : Type 0} (p : X → Bool) (xs : List X) → list_any p xs ≡ false → length (filter p xs) ≤ 0
none_kept p [] none = omega arith
none_kept p (x ∷ xs) none = by_case (p x) (none_kept p xs) none
  where
    by_case : (b : Bool) → (list_any p xs ≡ false → length (filter p xs) ≤ 0) → (b || list_any p xs) ≡ false → length (cond b (x ∷ filter p xs) (filter p xs)) ≤ 0
    by_case true later none = absurd (false≢true (sym none))
    by_case false later none = later none

-- one that passes is kept beside those before it
kept_more : {X : Type 0} (p : X → Bool) (xs : List X) (i : ℕ) (x : X) → i < length xs → x ≡ get_or xs i x → p x ≡ true → length (filter p (take i xs)) + 1 ≤ length (filter p xs)
kept_more p [] i x within is passes = absurd (omega (arith, within))
kept_more p (y ∷ xs) zero x within is passes =
    let here : p y ≡ true = subst (λ z. p z ≡ true) is passes in
    subst (λ (b : Bool). 1 ≤ length (cond b (y ∷ filter p xs) (filter p xs))) (sym here) (omega arith)
kept_more p (y ∷ xs) (suc i) x within is passes = by_case (p y) (kept_more p xs i x (omega (arith, within)) is passes)
  where
    by_case : (b : Bool) → length (filter p (take i xs)) + 1 ≤ length (filter p xs) → length (cond b (y ∷ filter p (take i xs)) (filter p (take i xs))) + 1 ≤ length (cond b (y ∷ filter p xs) (filter p xs))
    by_case true more = omega (arith, more)
    by_case false more = more

own_pool : (row : Row) → is_of_pool 0 (whole_number_at 0 row) row ≡ true
own_pool row = grind (arith, nat_tests)

-- a pool of which a row stands among the first, and that has one more, stands twice
pub stands_twice : (rows : List Row) (i : ℕ) (row : Row) → i < length rows → row ≡ get_or rows i row → list_any (is_of_pool 0 (whole_number_at 0 row)) (take i rows) ≡ true → StandOnce rows → ⊥
stands_twice rows i row within is any once =
    let q = whole_number_at 0 row in
    let few = once q in
    let first = some_kept (is_of_pool 0 q) (take i rows) any in
    let more = kept_more (is_of_pool 0 q) rows i row within is (own_pool row) in
    omega (arith, few, first, more)

-- the first rows stand once with one more of a pool that has none among them
pub once_more : (rows : List Row) (i : ℕ) (row : Row) → i < length rows → row ≡ get_or rows i row → StandOnce (take i rows) → list_any (is_of_pool 0 (whole_number_at 0 row)) (take i rows) ≡ false → StandOnce (take (i + 1) rows)
once_more rows i row within is once none q = subst (λ (l : List Row). length (filter (is_of_pool 0 q) l) ≤ 1) (sym (take_more rows i row within ∙ ap (λ (r : Row). take i rows ++ r ∷ []) (sym is))) (subst (λ (l : List Row). length l ≤ 1) (sym (filter-append (is_of_pool 0 q) (take i rows) (row ∷ []))) (by_case (is_of_pool 0 q row) refl))
  where
    by_case : (b : Bool) → is_of_pool 0 q row ≡ b → length (filter (is_of_pool 0 q) (take i rows) ++ cond b (row ∷ []) []) ≤ 1
    by_case true here =
        let same : q ≡ whole_number_at 0 row = grind (arith, nat_tests) in
        let few = none_kept (is_of_pool 0 q) (take i rows) (subst (λ (n : ℕ). list_any (is_of_pool 0 n) (take i rows) ≡ false) (sym same) none) in
        let all : length (filter (is_of_pool 0 q) (take i rows) ++ row ∷ []) ≡ length (filter (is_of_pool 0 q) (take i rows)) + 1 = length-append (filter (is_of_pool 0 q) (take i rows)) (row ∷ []) in
        omega (arith, few, all)
    by_case false here =
        let few = once q in
        let all : length (filter (is_of_pool 0 q) (take i rows) ++ []) ≡ length (filter (is_of_pool 0 q) (take i rows)) + 0 = length-append (filter (is_of_pool 0 q) (take i rows)) [] in
        omega (arith, few, all)

-- what is not false is true
pub not_false : (b : Bool) → false ≡ not b → b ≡ true
not_false true e = refl
not_false false e = absurd (false≢true e)

pub not_true : (b : Bool) → true ≡ not b → b ≡ false
not_true false e = refl
not_true true e = absurd (false≢true (sym e))

-- the marks so far, with one more
pub marks_more : (numbers : BTreeSet ℕ) (rows : List Row) (i : ℕ) (row : Row) (pool : ℕ) → i < length rows → row ≡ get_or rows i row → ◌≡◌ {A = Row} (Int (pos pool) ∷ []) row → contains nat_cmp numbers pool ≡ true → AllByRecursion (SaysMark numbers) (take i rows) → AllByRecursion (SaysMark numbers) (take (i + 1) rows)
marks_more numbers rows i row pool within is value known all =
    let number : pool ≡ whole_number_at 0 row = ap (whole_number_at 0) value in
    let says : SaysMark numbers row = record {
      form = sym value ∙ ap mechanical_row number;
      known = ap (contains nat_cmp numbers) (sym number) ∙ known;
    } in
    subst (AllByRecursion (SaysMark numbers)) (sym (take_more rows i row within ∙ ap (λ (r : Row). take i rows ++ r ∷ []) (sym is)))
    (all-append (SaysMark numbers) (take i rows) (row ∷ []) all (says, tt))

the_ok : {X Y : Type 0} (x y : X) → ◌≡◌ {A = Result X Y} (Ok x) (Ok y) → x ≡ y
the_ok x y e = cc

-- the reporter of a row that is known is written as it was read
pub paid_written : (numbers : BTreeSet ℕ) (rows : List Row) (i : ℕ) (row : Row) (text reporter : List ℕ) → i < length rows → row ≡ get_or rows i row → AllByRecursion (IsKnownPaid numbers) rows → text_at 0 row ≡ text → reporter_of text ≡ Ok reporter → without_trailing_blanks reporter ≡ text
paid_written numbers rows i row text reporter within is all same read =
    let known : IsKnownPaid numbers row = subst (IsKnownPaid numbers) (sym is) (all-get_or (IsKnownPaid numbers) rows i row all within) in
    let filled : reporter ≡ fill 20 (text_at 0 row) = the_ok reporter (fill 20 (text_at 0 row)) (sym read ∙ ap reporter_of (sym same) ∙ known.reporter) in
    ap without_trailing_blanks filled ∙ known.text ∙ same
