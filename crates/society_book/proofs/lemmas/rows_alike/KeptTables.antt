-- Tables that stay as they are, one by one.
use Rattle.std.proofs.Common.{◌≡◌, ◌≢◌, ◌∙◌, ◌==◌, ℕ, false, ◌++◌, [], ◌∷◌, List, ap, map, sym, subst, IsPermutation}
use Rattle.std.specs.List.{AllByRecursion, list_any}
use Rattle.sqlite_schema.specs.declared.schema.Table.{Table}
use Rattle.sqlite_trees.specs.Tree.{Trees}
use Rattle.sqlite_value.specs.Order.{Row}
use Rattle.society_rows.specs.Layout as layout
use Rattle.society_rows.specs.Layout.{all_tables, written_out}
use Rattle.society_rows.specs.Stored.{rows_in, values_of}
use Rattle.std.proofs.lemmas.List.Sorted.{IsPermutation-refl}
use Rattle.sqlite_keyed.proofs.ListLemmas.{all_weaker}
use Rattle.std.proofs.lemmas.Bool.{eq-eqb, false≢true, or_parts}

pub rows_kept : (t : Table) (old new : Trees) → new t.tree ≡ old t.tree → rows_in t new ≡ rows_in t old
rows_kept t old new same = ap (map (values_of t)) same

pub same_permutation : {X : Type 0} {xs ys : List X} → xs ≡ ys → IsPermutation xs ys
same_permutation {xs = xs} e = subst (IsPermutation xs) e (IsPermutation-refl xs)

-- what holds of each table
pub record EachOf (P : Table → Type 0) : Type 0 where
  pub office : P layout.office
  pub transmissions : P layout.transmissions
  pub returns : P layout.returns
  pub pools : P layout.pools
  pub pool_cuts : P layout.pool_cuts
  pub pool_returns : P layout.pool_returns
  pub fronts : P layout.fronts
  pub verdicts : P layout.verdicts
  pub versions : P layout.versions
  pub recordings : P layout.recordings
  pub credits : P layout.credits_table
  pub balances : P layout.balances
  pub ends : P layout.segment_ends
  pub mechanical : P layout.mechanical_pools

pub each_of : (P : Table → Type 0) → AllByRecursion P all_tables → EachOf P
unfolding all_tables written_out
each_of P all = record {
  office = all.0;
  transmissions = all.1.0;
  returns = all.1.1.0;
  pools = all.1.1.1.0;
  pool_cuts = all.1.1.1.1.0;
  pool_returns = all.1.1.1.1.1.0;
  fronts = all.1.1.1.1.1.1.0;
  verdicts = all.1.1.1.1.1.1.1.0;
  versions = all.1.1.1.1.1.1.1.1.0;
  recordings = all.1.1.1.1.1.1.1.1.1.0;
  credits = all.1.1.1.1.1.1.1.1.1.1.0;
  balances = all.1.1.1.1.1.1.1.1.1.1.1.0;
  ends = all.1.1.1.1.1.1.1.1.1.1.1.1.0;
  mechanical = all.1.1.1.1.1.1.1.1.1.1.1.1.1.0;
}

-- what is said of a number that is none of some
abbrev pub Apart : ℕ → List ℕ → Type 0 → Type 0
Apart n [] P = P
Apart n (k ∷ ks) P = n ≢ k → Apart n ks P

said : (n : ℕ) (ks : List ℕ) (P : Type 0) → Apart n ks P → list_any (λ k. n == k) ks ≡ false → P
said n [] P h none = h
said n (k ∷ ks) P h none =
    let both = or_parts (n == k) (list_any (λ j. n == j) ks) none in
    said n ks P (h (λ same. false≢true (sym both.0 ∙ eq-eqb n k same))) both.1

-- each table is as it was whose tree is none of some
pub kept_but : (ks : List ℕ) (old new : Trees) → AllByRecursion (λ t. Apart t.tree ks (new t.tree ≡ old t.tree)) all_tables → EachOf (λ t. list_any (λ k. t.tree == k) ks ≡ false → new t.tree ≡ old t.tree)
kept_but ks old new all =
    each_of (λ t. list_any (λ k. t.tree == k) ks ≡ false → new t.tree ≡ old t.tree)
    (all_weaker (λ (t : Table). Apart t.tree ks (new t.tree ≡ old t.tree)) (λ (t : Table). list_any (λ k. t.tree == k) ks ≡ false → new t.tree ≡ old t.tree) (λ t kept. said t.tree ks (new t.tree ≡ old t.tree) kept) all_tables all)

pub both_of : (P Q R : Table → Type 0) (ts : List Table) → ((t : Table) → P t → Q t → R t) → AllByRecursion P ts → AllByRecursion Q ts → AllByRecursion R ts
both_of P Q R [] f p q = tt
both_of P Q R (t ∷ ts) f p q = (f t p.0 q.0, both_of P Q R ts f p.1 q.1)

pub permuted_to : (xs : List Row) (ys zs : List Row) → zs ≡ ys → IsPermutation xs ys → IsPermutation xs zs
permuted_to xs ys zs e p = subst (IsPermutation xs) (sym e) p

pub permuted_from : (more : List Row) (xs ys zs : List Row) → ys ≡ xs → IsPermutation (more ++ ys) zs → IsPermutation (more ++ xs) zs
permuted_from more xs ys zs e p = subst (λ (l : List Row). IsPermutation (more ++ l) zs) e p

-- that a table is as it was where it is none of these
abbrev pub KeptBut : Table → Trees → Trees → Table → Type 0
KeptBut a old new t = t.tree ≢ a.tree → new t.tree ≡ old t.tree
