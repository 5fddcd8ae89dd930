-- What the rows of a pool's cut and of its returns show of its order.
use Rattle.std.proofs.Common.{◌≡◌, ◌∙◌, ℕ, pos, List, [], ◌∷◌, Option, Some, None, Result, Ok, Err, IfOk, refl, ap, subst, map, option_map, IsPermutation}
use Rattle.std.specs.List.{AllByRecursion}
use Rattle.std.proofs.lemmas.List.Sorted.{IsPermutation-map}
use Rattle.share_rules.specs.declared.kind.Kind.{Kind}
use Rattle.share_rules.specs.declared.kind.Kind.TheVariants.{Performing, Mechanical}
use Rattle.share_rules.specs.declared.office.Office.{Office}
use Rattle.sqlite_schema.specs.Rules.{equal}
use Rattle.sqlite_trees.specs.Tree.{Trees}
use Rattle.sqlite_value.specs.Order.{Row, column}
use Rattle.sqlite_value.specs.declared.keys.Collation.TheVariants.{Binary}
use Rattle.sqlite_value.specs.declared.value.Value.TheVariants.{Int}
use Rattle.society_core.proofs.lemmas.KeyOrders.{exact_returns, exact_transmissions, returns_total, transmissions_total}
use Rattle.society_core.specs.Answers.{pool_known_by}
use Rattle.society_core.specs.Book.{Book, order_at}
use Rattle.society_core.specs.Keys.{ascending, return_cmp, return_key, transmission_cmp, transmission_key}
use Rattle.society_core.specs.Orders.{Order, order_of}
use Rattle.society_core.specs.declared.return_key.ReturnKey.{ReturnKey}
use Rattle.society_core.specs.declared.store.Known.TheVariants.{Absent}
use Rattle.society_core.specs.declared.transmission_key.TransmissionKey.{TransmissionKey}
use Rattle.society_rows.specs.Layout as layout
use Rattle.society_rows.specs.Reads.{Lists, has_at, has_key}
use Rattle.society_rows.specs.Stored.{rows_in}
use Rattle.society_rows.specs.declared.fault.RowFault.{RowFault}
use Rattle.society_book.specs.BookRows.{cut_key_of, cut_row, cut_rows, is_of_pool, kind_marked, marks_by, marks_of, mechanical_rows, paid_row, paid_rows, return_key_of, rows_of_order}
use Rattle.society_book.specs.Columns.{whole_number_at}
use Rattle.society_book.specs.Kept.{HoldsBook}
use Rattle.society_book.proofs.lemmas.rows_alike.BookLemmas.{cuts_back, kind_back, named_refilled, one_ascent, paid_back}
use Rattle.society_book.proofs.lemmas.shown.CreditRows.{HasNumber, found_by_number}
use Rattle.society_book.proofs.lemmas.rows_alike.KeyRows.{numbers_either_way, numbers_equal}
use Rattle.society_book.proofs.lemmas.rows_alike.RowLemmas.{found_under}
use Rattle.sqlite_keyed.proofs.ListLemmas.{all-map}
use Rattle.std.proofs.lemmas.Bool.{eq-eqb}

cuts_numbered : (q : ℕ) (o : Option Order) → AllByRecursion HasNumber (rows_of_order (cut_row q) (λ order. order.cut) o)
cuts_numbered q None = tt
cuts_numbered q (Some order) = all-map HasNumber (cut_row q) (λ key. refl) order.cut

mark_numbered : (q : ℕ) (kind : Kind) → AllByRecursion HasNumber (marks_of q kind)
mark_numbered q Performing = tt
mark_numbered q Mechanical = (refl, tt)

marks_numbered : (q : ℕ) (o : Option Order) → AllByRecursion HasNumber (marks_by q o)
marks_numbered q None = tt
marks_numbered q (Some order) = mark_numbered q order.kind

-- the last column is a whole number from 0
abbrev HasPool : Row → Type 0
HasPool row = column row 2 ≡ Int (pos (whole_number_at 2 row))

all_paid : (q : ℕ) (o : Option Order) → AllByRecursion HasPool (rows_of_order (paid_row q) (λ order. order.returns) o)
all_paid q None = tt
all_paid q (Some order) = all-map HasPool (paid_row q) (λ key. refl) order.returns

module _ (o : Office) (b : Book) (db : Trees) (holds : HoldsBook o b db) (n : ℕ) (found : List Row) where
  -- the right that a pool pays, by its marks
  pub kind_found : Lists layout.mechanical_pools (has_key (Int (pos n) ∷ [])) 1 db found → (order : Order) → order_at b n ≡ Some order → kind_marked found ≡ order.kind
  kind_found lists order there =
      let rows = found_by_number n layout.mechanical_pools (mechanical_rows b) 1 db found holds.kept.mechanical (λ q. marks_numbered q (order_at b q)) lists in
      kind_back n order.kind found (subst (λ (x : Option Order). IsPermutation (marks_by n x) found) there rows)

  -- the cut of a pool, as its rows have it
  pub cut_found : Lists layout.pool_cuts (has_key (Int (pos n) ∷ [])) 2 db found → (keys : List TransmissionKey) → keys ≡ map cut_key_of found → (order : Order) → order_at b n ≡ Some order → ascending transmission_cmp keys ≡ order.cut
  cut_found lists keys are order there =
      let rows = found_by_number n layout.pool_cuts (cut_rows b) 2 db found holds.kept.cuts (λ q. cuts_numbered q (order_at b q)) lists in
      let these : IsPermutation (map (cut_row n) order.cut) found = subst (λ (x : Option Order). IsPermutation (rows_of_order (cut_row n) (λ x. x.cut) x) found) there rows in
      ap (ascending transmission_cmp) are
      ∙ one_ascent transmissions_total exact_transmissions (map cut_key_of (map (cut_row n) order.cut)) (map cut_key_of found) (IsPermutation-map cut_key_of (map (cut_row n) order.cut) found these)
      ∙ ap (ascending transmission_cmp) (cuts_back n order.cut) ∙ (holds.sound.orders n order there).cut

  -- the returns that it pays
  pub returns_found : Lists layout.pool_returns (has_at 2 (Int (pos n))) 2 db found → (keys : List ReturnKey) → keys ≡ map return_key_of found → (order : Order) → order_at b n ≡ Some order → ascending return_cmp keys ≡ order.returns
  returns_found lists keys are order there =
      let all : IsPermutation (paid_rows b n) found =
      found_under HasPool (is_of_pool 2) (whole_number_at 2) (λ row. eq-eqb (whole_number_at 2 row) (whole_number_at 2 row) refl) n (has_at 2 (Int (pos n)))
      (λ row is. ap (λ v. equal Binary v (Int (pos n))) is ∙ numbers_equal (whole_number_at 2 row) n ∙ numbers_either_way (whole_number_at 2 row) n)
      layout.pool_returns (paid_rows b) 2 db found holds.kept.paid (λ q. all_paid q (order_at b q)) lists in
      let these : IsPermutation (map (paid_row n) order.returns) found = subst (λ (x : Option Order). IsPermutation (rows_of_order (paid_row n) (λ x. x.returns) x) found) there all in
      ap (ascending return_cmp) are
      ∙ one_ascent returns_total exact_returns (map return_key_of (map (paid_row n) order.returns)) (map return_key_of found) (IsPermutation-map return_key_of (map (paid_row n) order.returns) found these)
      ∙ ap (ascending return_cmp) (paid_back n order.returns (named_refilled b (rows_in layout.returns db) holds.kept.returns holds.sound n order there)) ∙ (holds.sound.orders n order there).returns

-- what holds of an answer
pub if_ok_as : {X : Type 0} (r : Result X RowFault) (P Q : X → Type 0) → ((x : X) → P x → Q x) → IfOk r P → IfOk r Q
if_ok_as (Ok x) P Q follows h = follows x h
if_ok_as (Err fault) P Q follows h = tt

-- a pool with the amount, the kind, the cut and the returns of its order is known by it
pub known_so : (kept : Option Order) (amount : Option ℕ) (kind : Kind) (cut returns : List (List ℕ × ℕ)) (mine : Order) → amount ≡ option_map (λ order. order.amount) kept
    → ((order : Order) → kept ≡ Some order → kind ≡ order.kind)
    → ((order : Order) → kept ≡ Some order → ascending transmission_cmp (map (λ key. transmission_key key.0 key.1) cut) ≡ order.cut)
    → ((order : Order) → kept ≡ Some order → ascending return_cmp (map (λ key. return_key key.0 key.1) returns) ≡ order.returns)
    → pool_known_by mine (option_map (λ units. order_of kind units cut returns) amount) ≡ pool_known_by mine kept
known_so None amount kind cut returns mine e of_kind of_cut of_returns = ap (λ (x : Option ℕ). pool_known_by mine (option_map (λ units. order_of kind units cut returns) x)) e
known_so (Some order) amount kind cut returns mine e of_kind of_cut of_returns =
    let kind_same = of_kind order refl in
    let cut_same = of_cut order refl in
    let returns_same = of_returns order refl in
    let one : order_of kind order.amount cut returns ≡ order = λ i. record { kind = kind_same i; amount = order.amount; cut = cut_same i; returns = returns_same i } in
    ap (λ (x : Option ℕ). pool_known_by mine (option_map (λ units. order_of kind units cut returns) x)) e ∙ ap (λ (x : Order). pool_known_by mine (Some x)) one

-- and one that has no amount is not known
pub unknown_so : (kept : Option Order) (mine : Order) → None ≡ option_map (λ order. order.amount) kept → Absent ≡ pool_known_by mine kept
unknown_so None mine e = refl
unknown_so (Some order) mine e = absurd (cc)
