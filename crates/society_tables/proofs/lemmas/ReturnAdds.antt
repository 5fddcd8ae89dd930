-- The tables once a return has come.
use Rattle.std.proofs.Common.{◌≡◌, ◌∙◌, ◌++◌, ℕ, Bool, true, false, cond, List, [], ◌∷◌, Option, Some, None, is_some, refl, ap, subst, sym, map, filter, arith, IsPermutation}
use Rattle.std.specs.FinMap as finite
use Rattle.std.specs.List.{AllByRecursion}
use Rattle.std.proofs.lemmas.List.Sorted.{IsPermutation-refl}
use Rattle.share_rules.specs.declared.office.Office.{Office}
use Rattle.sqlite_trees.specs.Tree.{Trees}
use Rattle.sqlite_schema.specs.declared.schema.Table.{Table}
use Rattle.society_core.specs.Book.{Book, is_return_entry, line, return_at, with_return}
use Rattle.society_core.specs.Orders.{same_return_key}
use Rattle.society_core.specs.declared.return_key.ReturnKey.{ReturnKey}
use Rattle.society_core.proofs.lemmas.Books.{sound_with_return}
use Rattle.society_core.proofs.lemmas.ClosedPools.{PaysAlike}
use Rattle.society_core.proofs.lemmas.Inserts.{inserted_keeps}
use Rattle.society_core.proofs.lemmas.KeyOrders.{exact_returns, returns_total}
use Rattle.society_core.proofs.lemmas.SameOrders.{same_return_is}
use Rattle.society_rows.specs.Layout as layout
use Rattle.society_rows.specs.Layout.{all_tables, written_out}
use Rattle.society_rows.specs.Stored.{KeepsOthers, rows_in, values_of}
use Rattle.society_book.specs.BookRows.{is_return_row, return_key_of, return_row, return_rows, row_of_some}
use Rattle.society_book.specs.Columns.{HasRows}
use Rattle.society_book.specs.DerivedRows.{balance_rows, credit_rows}
use Rattle.sqlite_trees.specs.Tree.{rowid}
use Rattle.sqlite_trees.specs.View.{is_int}
use Rattle.std.proofs.lemmas.Bool.{false≢true}
use Rattle.society_book.specs.Kept.{HoldsBook}
use Rattle.society_book.proofs.lemmas.rows_alike.BookLemmas.{IsRefilled, returns_tie}
use Rattle.society_book.proofs.lemmas.money.PoolsAlike.{balances_still, credits_still}
use Rattle.society_book.proofs.lemmas.rows_alike.RowLemmas.{more_rows, same_rows}

same_permutation : {X : Type 0} {xs ys : List X} → xs ≡ ys → IsPermutation xs ys
same_permutation {xs = xs} e = subst (IsPermutation xs) e (IsPermutation-refl xs)

-- every table but that of the returns is as it was
pub record KeepAll (old new : Trees) : Type 0 where
  pub office : new layout.office.tree ≡ old layout.office.tree
  pub transmissions : new layout.transmissions.tree ≡ old layout.transmissions.tree
  pub pools : new layout.pools.tree ≡ old layout.pools.tree
  pub pool_cuts : new layout.pool_cuts.tree ≡ old layout.pool_cuts.tree
  pub pool_returns : new layout.pool_returns.tree ≡ old layout.pool_returns.tree
  pub fronts : new layout.fronts.tree ≡ old layout.fronts.tree
  pub verdicts : new layout.verdicts.tree ≡ old layout.verdicts.tree
  pub versions : new layout.versions.tree ≡ old layout.versions.tree
  pub recordings : new layout.recordings.tree ≡ old layout.recordings.tree
  pub credits : new layout.credits_table.tree ≡ old layout.credits_table.tree
  pub balances : new layout.balances.tree ≡ old layout.balances.tree
  pub ends : new layout.segment_ends.tree ≡ old layout.segment_ends.tree
  pub mechanical : new layout.mechanical_pools.tree ≡ old layout.mechanical_pools.tree

kept_all : (old new : Trees) → KeepsOthers layout.returns old new → KeepAll old new
unfolding all_tables written_out
kept_all old new keeps = record {
  office = keeps.0 (λ e. omega (arith, e));
  transmissions = keeps.1.0 (λ e. omega (arith, e));
  pools = keeps.1.1.1.0 (λ e. omega (arith, e));
  pool_cuts = keeps.1.1.1.1.0 (λ e. omega (arith, e));
  pool_returns = keeps.1.1.1.1.1.0 (λ e. omega (arith, e));
  fronts = keeps.1.1.1.1.1.1.0 (λ e. omega (arith, e));
  verdicts = keeps.1.1.1.1.1.1.1.0 (λ e. omega (arith, e));
  versions = keeps.1.1.1.1.1.1.1.1.0 (λ e. omega (arith, e));
  recordings = keeps.1.1.1.1.1.1.1.1.1.0 (λ e. omega (arith, e));
  credits = keeps.1.1.1.1.1.1.1.1.1.1.0 (λ e. omega (arith, e));
  balances = keeps.1.1.1.1.1.1.1.1.1.1.1.0 (λ e. omega (arith, e));
  ends = keeps.1.1.1.1.1.1.1.1.1.1.1.1.0 (λ e. omega (arith, e));
  mechanical = keeps.1.1.1.1.1.1.1.1.1.1.1.1.1.0 (λ e. omega (arith, e));
}

rows_kept : (t : Table) (old new : Trees) → new t.tree ≡ old t.tree → rows_in t new ≡ rows_in t old
rows_kept t old new same = ap (map (values_of t)) same

-- what a key is to have once a return has come
return_more : (b : Book) (key : ReturnKey) (body : List ℕ) → return_at b key ≡ None → IsRefilled key → (q : ReturnKey) → return_rows (with_return b key body) q ≡ filter (is_return_row q) (return_row key body ∷ []) ++ return_rows b q
return_more b key body free whole q = by_case (same_return_key q key) refl
  where
    its_key : return_key_of (return_row key body) ≡ key
    its_key = λ i. record { reporter = whole i; number = key.number }

    told : return_at (with_return b key body) q ≡ cond (same_return_key q key) (Some body) (return_at b q)
    told = finite.get-insert returns_total b.returns key body q ∙ ap (λ x. cond x (Some body) (return_at b q)) (returns_tie q key)

    passes : is_return_row q (return_row key body) ≡ same_return_key q key
    passes = ap (same_return_key q) its_key

    by_case : (x : Bool) → same_return_key q key ≡ x → return_rows (with_return b key body) q ≡ filter (is_return_row q) (return_row key body ∷ []) ++ return_rows b q
    by_case true is =
        let one : q ≡ key = same_return_is q key is in
        ap (row_of_some (return_row q)) (told ∙ ap (λ x. cond x (Some body) (return_at b q)) is)
        ∙ ap (λ k. return_row k body ∷ []) one
        ∙ sym (ap (λ l. (return_row key body ∷ []) ++ row_of_some (return_row q) l) (ap (return_at b) one ∙ free))
        ∙ sym (ap (λ x. cond x (return_row key body ∷ []) [] ++ return_rows b q) (passes ∙ is))
    by_case false is =
        ap (row_of_some (return_row q)) (told ∙ ap (λ x. cond x (Some body) (return_at b q)) is)
        ∙ sym (ap (λ x. cond x (return_row key body ∷ []) [] ++ return_rows b q) (passes ∙ is))

pays_on : (b : Book) (key : ReturnKey) (body : List ℕ) → return_at b key ≡ None → PaysAlike b (with_return b key body)
unfolding line
pays_on b key body free = record {
  sent = λ s n within. refl;
  returned = λ q there. still q (return_at b q) refl there;
}
  where
    still : (q : ReturnKey) (x : Option (List ℕ)) → return_at b q ≡ x → is_some (return_at b q) ≡ true → return_at b q ≡ return_at (with_return b key body) q
    still q None is there = absurd (false≢true (sym (ap is_some is) ∙ there))
    still q (Some y) is there = is ∙ sym (inserted_keeps returns_total exact_returns b.returns key body q y free is)

-- one row more in the table of returns, and the tables hold the book with that return
pub return_added : (o : Office) (b : Book) (key : ReturnKey) (body : List ℕ) (old new : Trees) → HoldsBook o b old → return_at b key ≡ None → is_return_entry key body ≡ true → IsRefilled key → IsPermutation ((return_row key body ∷ []) ++ rows_in layout.returns old) (rows_in layout.returns new) → KeepsOthers layout.returns old new → HoldsBook o (with_return b key body) new
unfolding line
return_added o b key body old new holds free entry whole came others =
    let keeps = kept_all old new others in
    let pays = pays_on b key body free in
    record {
      registered = rows_kept layout.office old new keeps.office ∙ holds.registered;
      sound = sound_with_return b key body holds.sound free entry;
      kept = record {
        transmissions = subst (HasRows _ _) (sym (rows_kept layout.transmissions old new keeps.transmissions)) holds.kept.transmissions;
        returns = more_rows is_return_row (return_rows b) (return_rows (with_return b key body)) (return_row key body ∷ []) (rows_in layout.returns old) (rows_in layout.returns new) holds.kept.returns (λ q. same_permutation (return_more b key body free whole q)) came;
        pools = subst (HasRows _ _) (sym (rows_kept layout.pools old new keeps.pools)) holds.kept.pools;
        cuts = subst (HasRows _ _) (sym (rows_kept layout.pool_cuts old new keeps.pool_cuts)) holds.kept.cuts;
        paid = subst (HasRows _ _) (sym (rows_kept layout.pool_returns old new keeps.pool_returns)) holds.kept.paid;
        ends = subst (HasRows _ _) (sym (rows_kept layout.segment_ends old new keeps.ends)) holds.kept.ends;
        mechanical = subst (HasRows _ _) (sym (rows_kept layout.mechanical_pools old new keeps.mechanical)) holds.kept.mechanical;
      };
      derived = record {
        fronts = subst (HasRows _ _) (sym (rows_kept layout.fronts old new keeps.fronts)) holds.derived.fronts;
        verdicts = subst (HasRows _ _) (sym (rows_kept layout.verdicts old new keeps.verdicts)) holds.derived.verdicts;
        versions = subst (HasRows _ _) (sym (rows_kept layout.versions old new keeps.versions)) holds.derived.versions;
        recordings = subst (HasRows _ _) (sym (rows_kept layout.recordings old new keeps.recordings)) holds.derived.recordings;
        credits = same_rows _ (credit_rows o b) (credit_rows o (with_return b key body)) (rows_in layout.credits_table old) (rows_in layout.credits_table new) holds.derived.credits (credits_still o b (with_return b key body) holds.sound pays refl) (rows_kept layout.credits_table old new keeps.credits);
        balances = same_rows _ (balance_rows o b) (balance_rows o (with_return b key body)) (rows_in layout.balances old) (rows_in layout.balances new) holds.derived.balances (balances_still o b (with_return b key body) holds.sound pays refl) (rows_kept layout.balances old new keeps.balances);
      };
      numbered = (subst (AllByRecursion (λ r. is_int (rowid r) ≡ true)) (sym keeps.fronts) holds.numbered.0, subst (AllByRecursion (λ r. is_int (rowid r) ≡ true)) (sym keeps.balances) holds.numbered.1);
    }
