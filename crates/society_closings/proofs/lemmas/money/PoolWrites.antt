-- The rows of a pool that are written in one transaction, table after table.
use Rattle.std.proofs.Common.{◌≡◌, ◌≢◌, ◌∙◌, ◌+◌, ◌++◌, ◌<◌, ℕ, suc, [], ◌∷◌, List, Option, Some, add-one, ap, get_or, length, map, option_map, pos, refl, sym, take, subst, arith}
use Rattle.std.proofs.Math.Seq.{take-suc}
use Rattle.std.proofs.lemmas.List.{length-take}
use Rattle.std.proofs.lemmas.Option.{slice_get-map}
use Rattle.std.specs.List.{AllByRecursion, slice_get}
use Rattle.std.proofs.lemmas.List.Sorted.{IsPermutation-append_right, IsPermutation-trans}
use Rattle.sqlite.specs.Effect.{Database}
use Rattle.sqlite_schema.specs.declared.schema.Table.{Table}
use Rattle.sqlite_trees.specs.Tree.{Trees}
use Rattle.sqlite_value.specs.Order.{Row}
use Rattle.pool_split.specs.declared.claim.Credit.{Credit}
use Rattle.society_rows.specs.Balances.{AddsUnits}
use Rattle.society_rows.specs.Layout as layout
use Rattle.society_rows.specs.Layout.{all_tables, written_out}
use Rattle.society_rows.specs.Stored.{Adds, rows_in}
use Rattle.share_rules.specs.declared.kind.Kind.{Kind}
use Rattle.share_rules.specs.declared.kind.Kind.TheVariants.{Performing, Mechanical}
use Rattle.society_core.specs.Orders.{Order}
use Rattle.society_book.specs.BookRows.{cut_row, marks_of, mechanical_row, paid_row, pool_row}
use Rattle.society_closings.specs.Closings.{AddsOrder, ClosesWith, ComeToTheSame, Marks, AddsEach, lines_from}
use Rattle.society_book.specs.DerivedRows.{credit_row}
use Rattle.society_book.proofs.lemmas.rows_alike.KeptTables.{rows_kept, same_permutation, KeptBut, both_of, permuted_from, permuted_to, each_of}
use Rattle.work_ids.specs.Account.{account_text}
use Rattle.sqlite_keyed.proofs.ListLemmas.{all_of}

abbrev KeptOfOrder : Trees → Trees → Table → Type 0
KeptOfOrder old new t = t.tree ≢ layout.pools.tree → t.tree ≢ layout.pool_cuts.tree → t.tree ≢ layout.pool_returns.tree → t.tree ≢ layout.mechanical_pools.tree → new t.tree ≡ old t.tree

-- a pool that was added, and then its cut
pub adds_cut : (row : Row) (cut : List Row) (old mid new : Database) → Adds layout.pools (row ∷ []) old mid → Adds layout.pool_cuts cut mid new → AddsOrder row cut [] [] old.trees new.trees
unfolding all_tables written_out
adds_cut row cut old mid new first second =
    let early = each_of (KeptBut layout.pools old.trees mid.trees) first.others in
    let later = each_of (KeptBut layout.pool_cuts mid.trees new.trees) second.others in
    record {
      pools = permuted_to ((row ∷ []) ++ rows_in layout.pools old.trees) _ _ (rows_kept layout.pools mid.trees new.trees (later.pools (λ e. omega (arith, e)))) first.rows;
      cuts = permuted_from cut _ _ _ (rows_kept layout.pool_cuts old.trees mid.trees (early.pool_cuts (λ e. omega (arith, e)))) second.rows;
      returns = same_permutation (sym (rows_kept layout.pool_returns old.trees new.trees (later.pool_returns (λ e. omega (arith, e)) ∙ early.pool_returns (λ e. omega (arith, e)))));
      marks = same_permutation (sym (rows_kept layout.mechanical_pools old.trees new.trees (later.mechanical (λ e. omega (arith, e)) ∙ early.mechanical (λ e. omega (arith, e)))));
      others = both_of (KeptBut layout.pools old.trees mid.trees) (KeptBut layout.pool_cuts mid.trees new.trees) (KeptOfOrder old.trees new.trees) all_tables (λ t p q x y z w. q y ∙ p x) first.others second.others;
    }

-- and then the returns that it pays
pub adds_order : (row : Row) (cut paid : List Row) (old mid new : Database) → AddsOrder row cut [] [] old.trees mid.trees → Adds layout.pool_returns paid mid new → AddsOrder row cut paid [] old.trees new.trees
unfolding all_tables written_out
adds_order row cut paid old mid new first second =
    let early = each_of (KeptBut layout.pool_returns mid.trees new.trees) second.others in
    record {
      pools = permuted_to ((row ∷ []) ++ rows_in layout.pools old.trees) _ _ (rows_kept layout.pools mid.trees new.trees (early.pools (λ e. omega (arith, e)))) first.pools;
      cuts = permuted_to (cut ++ rows_in layout.pool_cuts old.trees) _ _ (rows_kept layout.pool_cuts mid.trees new.trees (early.pool_cuts (λ e. omega (arith, e)))) first.cuts;
      returns = IsPermutation-trans (paid ++ rows_in layout.pool_returns old.trees) (paid ++ rows_in layout.pool_returns mid.trees) (rows_in layout.pool_returns new.trees) (IsPermutation-append_right paid (rows_in layout.pool_returns old.trees) (rows_in layout.pool_returns mid.trees) first.returns) second.rows;
      marks = permuted_to (rows_in layout.mechanical_pools old.trees) _ _ (rows_kept layout.mechanical_pools mid.trees new.trees (early.mechanical (λ e. omega (arith, e)))) first.marks;
      others = both_of (KeptOfOrder old.trees mid.trees) (KeptBut layout.pool_returns mid.trees new.trees) (KeptOfOrder old.trees new.trees) all_tables (λ t p q x y z w. q z ∙ p x y z w) first.others second.others;
    }

adds_mark : (row : Row) (cut paid : List Row) (pool : ℕ) (old mid new : Database) → AddsOrder row cut paid [] old.trees mid.trees → Adds layout.mechanical_pools (mechanical_row pool ∷ []) mid new → AddsOrder row cut paid (mechanical_row pool ∷ []) old.trees new.trees
unfolding all_tables written_out
adds_mark row cut paid pool old mid new first second =
    let early = each_of (KeptBut layout.mechanical_pools mid.trees new.trees) second.others in
    let mark : List Row = mechanical_row pool ∷ [] in
    record {
      pools = permuted_to ((row ∷ []) ++ rows_in layout.pools old.trees) _ _ (rows_kept layout.pools mid.trees new.trees (early.pools (λ e. omega (arith, e)))) first.pools;
      cuts = permuted_to (cut ++ rows_in layout.pool_cuts old.trees) _ _ (rows_kept layout.pool_cuts mid.trees new.trees (early.pool_cuts (λ e. omega (arith, e)))) first.cuts;
      returns = permuted_to (paid ++ rows_in layout.pool_returns old.trees) _ _ (rows_kept layout.pool_returns mid.trees new.trees (early.pool_returns (λ e. omega (arith, e)))) first.returns;
      marks = IsPermutation-trans (mark ++ rows_in layout.mechanical_pools old.trees) (mark ++ rows_in layout.mechanical_pools mid.trees) (rows_in layout.mechanical_pools new.trees) (IsPermutation-append_right mark (rows_in layout.mechanical_pools old.trees) (rows_in layout.mechanical_pools mid.trees) first.marks) second.rows;
      others = both_of (KeptOfOrder old.trees mid.trees) (KeptBut layout.mechanical_pools mid.trees new.trees) (KeptOfOrder old.trees new.trees) all_tables (λ t p q x y z w. q w ∙ p x y z w) first.others second.others;
    }

-- and then its mark, where it pays the mechanical right
pub adds_marked : (row : Row) (cut paid : List Row) (pool : ℕ) (kind : Kind) (old mid new : Database) → AddsOrder row cut paid [] old.trees mid.trees → Marks pool kind mid new → AddsOrder row cut paid (marks_of pool kind) old.trees new.trees
adds_marked row cut paid pool Performing old mid new first same = subst (λ (db : Database). AddsOrder row cut paid [] old.trees db.trees) (sym same) first
adds_marked row cut paid pool Mechanical old mid new first second = adds_mark row cut paid pool old mid new first second

-- the next credit comes to those so far
pub each_next : (done : List Credit) (credit : Credit) (old mid new : Database) → AddsEach done old mid → AddsUnits (account_text credit.account) (pos credit.units) mid new → AddsEach (done ++ credit ∷ []) old new
each_next [] credit old mid new each one = (new, subst (λ (db : Database). AddsUnits (account_text credit.account) (pos credit.units) db new) each one, refl)
each_next (x ∷ done) credit old mid new each one = (each.0, each.1, each_next done credit each.0 mid new each.2 one)

-- one element more from the front of a list
pub take_next : {X : Type 0} (xs : List X) (i : ℕ) (x : X) → i < length xs → x ≡ get_or xs i x → take (i + 1) xs ≡ take i xs ++ x ∷ []
take_next {X} xs i x h is = rw (add-one, take-suc xs i x h) (ap (λ (y : X). take i xs ++ y ∷ []) (sym is))

-- lines behind others
pub lines_behind : (pool from : ℕ) (xs ys : List Credit) → lines_from pool from (xs ++ ys) ≡ lines_from pool from xs ++ lines_from pool (from + length xs) ys
lines_behind pool from [] ys = ap (λ (k : ℕ). lines_from pool k ys) (let e : from ≡ from + 0 = omega arith in e)
lines_behind pool from (x ∷ xs) ys =
    ap (λ (l : List Row). credit_row pool from x ∷ l)
    (lines_behind pool (from + 1) xs ys
    ∙ ap (λ (k : ℕ). lines_from pool (from + 1) xs ++ lines_from pool k ys) (let e : (from + 1) + length xs ≡ from + suc (length xs) = omega arith in e))

-- so behind all lines from 0 on
pub lines_after : (pool : ℕ) (xs ys : List Credit) → lines_from pool 0 (xs ++ ys) ≡ lines_from pool 0 xs ++ lines_from pool (length xs) ys
lines_after pool xs ys =
    lines_behind pool 0 xs ys ∙ ap (λ (k : ℕ). lines_from pool 0 xs ++ lines_from pool k ys) (let e : 0 + length xs ≡ length xs = omega arith in e)

-- the element at a place of a list that is mapped as another
pub mapped_at : {X Y Z : Type 0} (f : X → Z) (h : Y → Z) (xs : List X) (ys : List Y) (i : ℕ) (x : X) (y : Y) → map f xs ≡ map h ys → slice_get xs i ≡ Some x → slice_get ys i ≡ Some y → f x ≡ h y
mapped_at f h xs ys i x y same there here =
    some_one (f x) (h y) (sym (get_map f xs i x there) ∙ ap (λ l. slice_get l i) same ∙ get_map h ys i y here)
  where
    some_one : {A : Type 0} (a b : A) → ◌≡◌ {A = Option A} (Some a) (Some b) → a ≡ b
    some_one a b e = cc

    get_map : {A B : Type 0} (k : A → B) (l : List A) (j : ℕ) (a : A) → slice_get l j ≡ Some a → slice_get (map k l) j ≡ Some (k a)
    get_map k l j a e = slice_get-map k l j ∙ ap (option_map k) e

-- the balances that credits came to, and no other table
each_keeps : (cs : List Credit) (old new : Database) → AddsEach cs old new → AllByRecursion (KeptBut layout.balances old.trees new.trees) all_tables
each_keeps [] old new same = all_of (KeptBut layout.balances old.trees new.trees) (λ t _. ap (λ (db : Database). db.trees t.tree) same) all_tables
each_keeps (c ∷ cs) old new each =
    both_of (KeptBut layout.balances old.trees each.0.trees) (KeptBut layout.balances each.0.trees new.trees) (KeptBut layout.balances old.trees new.trees) all_tables (λ t p q x. q x ∙ p x) each.1.put.others (each_keeps cs each.0 new each.2)

abbrev KeptOfPool : Trees → Trees → Table → Type 0
KeptOfPool old new t = t.tree ≢ layout.pools.tree → t.tree ≢ layout.pool_cuts.tree → t.tree ≢ layout.pool_returns.tree → t.tree ≢ layout.mechanical_pools.tree → t.tree ≢ layout.credits_table.tree → t.tree ≢ layout.balances.tree → new t.tree ≡ old t.tree

-- an order, and then the lines of its credits, and then their units
pub closes_by : (pool : ℕ) (order : Order) (cs totals : List Credit) (old mid late new : Database) → AddsOrder (pool_row pool order) (map (cut_row pool) order.cut) (map (paid_row pool) order.returns) (marks_of pool order.kind) old.trees mid.trees
    → Adds layout.credits_table (lines_from pool 0 cs) mid late → ComeToTheSame totals cs → AddsEach totals late new → ClosesWith pool order cs old new
unfolding all_tables written_out
closes_by pool order cs totals old mid late new ordered lines same each =
    let first = each_of (KeptOfOrder old.trees mid.trees) ordered.others in
    let second = each_of (KeptBut layout.credits_table mid.trees late.trees) lines.others in
    let kept = each_keeps totals late new each in
    let third = each_of (KeptBut layout.balances late.trees new.trees) kept in (
      record {
        pools = permuted_to ((pool_row pool order ∷ []) ++ rows_in layout.pools old.trees) _ _ (rows_kept layout.pools mid.trees new.trees (third.pools (λ e. omega (arith, e)) ∙ second.pools (λ e. omega (arith, e)))) ordered.pools;
        cuts = permuted_to (map (cut_row pool) order.cut ++ rows_in layout.pool_cuts old.trees) _ _ (rows_kept layout.pool_cuts mid.trees new.trees (third.pool_cuts (λ e. omega (arith, e)) ∙ second.pool_cuts (λ e. omega (arith, e)))) ordered.cuts;
        paid = permuted_to (map (paid_row pool) order.returns ++ rows_in layout.pool_returns old.trees) _ _ (rows_kept layout.pool_returns mid.trees new.trees (third.pool_returns (λ e. omega (arith, e)) ∙ second.pool_returns (λ e. omega (arith, e)))) ordered.returns;
        marks = permuted_to (marks_of pool order.kind ++ rows_in layout.mechanical_pools old.trees) _ _ (rows_kept layout.mechanical_pools mid.trees new.trees (third.mechanical (λ e. omega (arith, e)) ∙ second.mechanical (λ e. omega (arith, e)))) ordered.marks;
        lines = permuted_to (lines_from pool 0 cs ++ rows_in layout.credits_table old.trees) _ _ (rows_kept layout.credits_table late.trees new.trees (third.credits (λ e. omega (arith, e))))
            (permuted_from (lines_from pool 0 cs) _ _ _ (rows_kept layout.credits_table old.trees mid.trees (first.credits (λ e. omega (arith, e)) (λ e. omega (arith, e)) (λ e. omega (arith, e)) (λ e. omega (arith, e)))) lines.rows);
        others = both_of (KeptOfOrder old.trees mid.trees) (λ t. t.tree ≢ layout.credits_table.tree → t.tree ≢ layout.balances.tree → new.trees t.tree ≡ mid.trees t.tree) (KeptOfPool old.trees new.trees) all_tables (λ t p q x y z m v w. q v w ∙ p x y z m) ordered.others
            (both_of (KeptBut layout.credits_table mid.trees late.trees) (KeptBut layout.balances late.trees new.trees) (λ t. t.tree ≢ layout.credits_table.tree → t.tree ≢ layout.balances.tree → new.trees t.tree ≡ mid.trees t.tree) all_tables (λ t p q v w. q w ∙ p v) lines.others kept);
      },
      late,
      second.balances (λ e. omega (arith, e)) ∙ first.balances (λ e. omega (arith, e)) (λ e. omega (arith, e)) (λ e. omega (arith, e)) (λ e. omega (arith, e)),
      totals,
      same,
      each,
    )

-- the lines up to a place, and that at the place
pub lines_to : (pool from : ℕ) (xs : List Credit) (i : ℕ) (x : Credit) → i < length xs → x ≡ get_or xs i x → lines_from pool from (take i xs) ++ credit_row pool (from + i) x ∷ [] ≡ lines_from pool from (take (i + 1) xs)
lines_to pool from xs i x here is =
    let many : i ≡ length (take i xs) = omega (arith, length-take i xs) in
    ap (λ (k : ℕ). lines_from pool from (take i xs) ++ credit_row pool (from + k) x ∷ []) many
    ∙ sym (lines_behind pool from (take i xs) (x ∷ []))
    ∙ ap (lines_from pool from) (sym (take_next xs i x here is))
