-- The rows of trees by their numbers: a tree at the end, and a tree that is exchanged.
use Rattle.std.proofs.Common.{◌≡◌, ℕ, zero, suc, ◌<◌, ◌≤◌, List, [], ◌∷◌, ◌++◌, map, length, get_or, set, cond, eqb, refl, sym, ap, ◌∙◌, arith, eq-eqb, ne_eqb, inl, inr, get_or-set_same, get_or-set_other}
use Rattle.std.proofs.lemmas.Bool.{cases_eq}
use Rattle.std.proofs.lemmas.List.{map-set, map-append, length-map}
use mathlib.Core.Path.{fun_ext}
use Rattle.sqlite_trees.specs.Tree.{with_tree}
use Rattle.memory_store.specs.declared.rows.SortedRows.{SortedRows}
use Rattle.memory_store.specs.Pieces.{tree_rows}
use Rattle.memory_store.specs.Log.{rows_at}

get_or-default_pushed : {X : Type 0} (xs : List X) (d : X) (k : ℕ) → get_or (xs ++ d ∷ []) k d ≡ get_or xs k d
get_or-default_pushed [] d zero = refl
get_or-default_pushed [] d (suc k) = refl
get_or-default_pushed (x ∷ xs) d zero = refl
get_or-default_pushed (x ∷ xs) d (suc k) = get_or-default_pushed xs d k

-- a tree without rows at the end shows nothing
pub rows_at-pushed : (trees : List SortedRows) (x : SortedRows) → tree_rows x ≡ [] → rows_at (trees ++ x ∷ []) ≡ rows_at trees
rows_at-pushed trees x none = fun_ext (λ t. rw (map-append, none) (get_or-default_pushed (map tree_rows trees) [] t))

get_or-set_cases : {X : Type 0} (xs : List X) (i : ℕ) (x d : X) → i < length xs → (k : ℕ) → get_or (set xs i x) k d ≡ cond (eqb k i) x (get_or xs k d)
get_or-set_cases xs i x d within k =
    elim (cases_eq k i) [ inl same ↦ rw (eq-eqb k i same, same, get_or-set_same) | inr other ↦ rw (ne_eqb k i other, get_or-set_other) ]

pub rows_at-set : (trees : List SortedRows) (t : ℕ) (x : SortedRows) → t < length trees → rows_at (set trees t x) ≡ with_tree (rows_at trees) t (tree_rows x)
rows_at-set trees t x within = fun_ext (λ k. ap (λ l. get_or l k []) (map-set tree_rows trees t x) ∙ get_or-set_cases (map tree_rows trees) t (tree_rows x) [] (rw length-map within) k)

-- the rows of the tree that is read
pub rows_at-read : (trees : List SortedRows) (t : ℕ) (x : SortedRows) → t < length trees → x ≡ get_or trees t x → rows_at trees t ≡ tree_rows x
rows_at-read [] t x within is = absurd (omega arith)
rows_at-read (y ∷ trees) zero x within is = ap tree_rows (sym is)
rows_at-read (y ∷ trees) (suc t) x within is = rows_at-read trees t x (omega arith) is

pub rows_at-past : (trees : List SortedRows) (t : ℕ) → length trees ≤ t → rows_at trees t ≡ []
rows_at-past [] t past = refl
rows_at-past (y ∷ trees) zero past = absurd (omega arith)
rows_at-past (y ∷ trees) (suc t) past = rows_at-past trees t (omega arith)

-- a tree that is exchanged for one with the same rows
pub rows_at-same : (trees : List SortedRows) (t : ℕ) (x : SortedRows) → t < length trees → tree_rows x ≡ rows_at trees t → rows_at (set trees t x) ≡ rows_at trees
rows_at-same trees t x within same = rows_at-set trees t x within ∙ fun_ext (λ k. elim (cases_eq k t) [ inl is ↦ rw (is, eq-eqb t t refl) same | inr other ↦ rw (ne_eqb k t other) ])

-- a tree without rows is as if it were emptied
pub rows_at-empty : (trees : List SortedRows) (t : ℕ) → length trees ≤ t → rows_at trees ≡ with_tree (rows_at trees) t []
rows_at-empty trees t past = fun_ext (λ k. elim (cases_eq k t) [ inl is ↦ rw (is, eq-eqb t t refl) (rows_at-past trees t past) | inr other ↦ rw (ne_eqb k t other) ])
