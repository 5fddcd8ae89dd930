-- Rowids that are whole numbers, and SQL's equality of them.
use Rattle.std.proofs.Common.{◌≡◌, ℤ, Bool, true, false, not, List, [], ◌∷◌, Ordering, Less, Equal, Greater, refl, sym, ap, ◌∙◌, true≢false}
use Rattle.std.specs.List.{AllByRecursion}
use Rattle.std.specs.Ordering.{is_eq, is_ne, int_cmp}
use Rattle.std.proofs.lemmas.Cmp.{int_ranked, tied_itself}
use Rattle.std.proofs.lemmas.Bool.{and_parts, not-true}
use Rattle.sqlite_value.specs.declared.value.Value.{Value}
use Rattle.sqlite_value.specs.declared.value.Value.TheVariants.{Int}
use Rattle.sqlite_value.specs.declared.keys.Collation.TheVariants.{Binary}
use Rattle.sqlite_value.specs.Order.{Row, value_cmp}
use Rattle.sqlite_value.proofs.OrderLemmas.{value_cmp-Int, value_cmp_total}
use Rattle.sqlite_trees.specs.Tree.{rowid, put_row}
use Rattle.sqlite_trees.specs.View.{is_int}
use Rattle.sqlite_sql.specs.Ops.{is_true, from_truth, binary}
use Rattle.std.proofs.Common.{Some}
use Rattle.sqlite_schema.specs.Rules.{equal, differ}
use Rattle.sqlite_rules.specs.Edit.{id_in, is_taken, are_fresh}
use Rattle.sqlite_rules.proofs.ListLemmas.{some_from}
use Rattle.sqlite_rules.proofs.TableLemmas.{int_is, has_put}

pub truth_of : (b : Bool) → is_true (from_truth (Some b)) ≡ b
truth_of true = refl
truth_of false = refl

ne_is : (o : Ordering) → is_ne o ≡ not (is_eq o)
ne_is Less = refl
ne_is Equal = refl
ne_is Greater = refl

pub equal_rowid : (v : Value) (id : ℤ) → is_int v ≡ true → equal Binary v (Int id) ≡ is_eq (value_cmp v (Int id))
unfolding binary
equal_rowid v id h = rw (int_is v h) (truth_of (is_eq (value_cmp (Int (id_in v)) (Int id))))

pub differ_rowid : (v : Value) (id : ℤ) → is_int v ≡ true → differ v (Int id) ≡ not (is_eq (value_cmp v (Int id)))
unfolding binary
differ_rowid v id h = rw (int_is v h) (truth_of (is_ne (value_cmp (Int (id_in v)) (Int id))) ∙ ne_is (value_cmp (Int (id_in v)) (Int id)))

pub eq_only : (o : Ordering) → is_eq o ≡ true → o ≡ Equal
eq_only Less h = cc
eq_only Equal h = refl
eq_only Greater h = cc

pub same_rowid : (v : Value) (id : ℤ) → is_int v ≡ true → is_eq (value_cmp v (Int id)) ≡ true → v ≡ Int id
same_rowid v id h same =
    let n = id_in v in
    let is = int_is v h in
    let tied : int_cmp n id ≡ Equal = sym (value_cmp-Int n id) ∙ eq_only _ (ap (λ (w : Value). is_eq (value_cmp w (Int id))) (sym is) ∙ same) in
    is ∙ ap Int (int_ranked n id Equal (sym tied))

-- of rows with one rowid only one can be put
pub fresh_alone : (id : ℤ) (rows news : List Row) (n : Row) → are_fresh rows (n ∷ news) ≡ true → AllByRecursion (λ r. rowid r ≡ Int id) (n ∷ news) → news ≡ []
fresh_alone id rows [] n fresh all = refl
fresh_alone id rows (m ∷ news) n fresh all =
    let free : is_taken (put_row n rows) m ≡ false = not-true _ (and_parts _ _ (and_parts _ _ fresh).1).0 in
    let test = λ (r : Row). is_eq (value_cmp (rowid r) (rowid m)) in
    let meets : test n ≡ true = rw (all.0, all.1.0) (ap is_eq (tied_itself value_cmp_total (Int id))) in
    absurd (true≢false (sym (some_from test (put_row n rows) n (has_put n rows) meets) ∙ free))
