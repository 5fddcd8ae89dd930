-- Rowids, and readings of what was read.
use Rattle.std.proofs.Common.{◌≡◌, ◌↔◌, true, IsTrue, List, [], ◌∷◌, map, Result, Ok, Err, IsErrAnd, refl, IsPermutation}
use Rattle.std.proofs.lemmas.Bool.{and_parts}
use Rattle.std.specs.List.{list_all, AllByRecursion}
use Rattle.std.proofs.lemmas.List.Sorted.{IsPermutation-sym}
use Rattle.sqlite_value.specs.Order.{Row, column}
use Rattle.sqlite_trees.specs.Tree.{Trees, rowid}
use Rattle.sqlite_trees.specs.View.{is_int}
use Rattle.sqlite_trees.proofs.ListLemmas.{all-permutation}
use Rattle.sqlite.specs.Effect.{Database}
use Rattle.sqlite.specs.State.{State}
use Rattle.society_rows.specs.declared.fault.RowFault.{RowFault}
use Rattle.society_rows.specs.Reads.{ReadsOver}

-- the first value is a whole number
abbrev IsWhole : Row → Type 0
IsWhole r = is_int (column r 0) ≡ true

wholes_from : (rows : List Row) → AllByRecursion IsWhole (map (λ r. column r 0 ∷ []) rows) → AllByRecursion IsWhole rows
wholes_from [] h = tt
wholes_from (r ∷ rows) h = (h.0, wholes_from rows h.1)

wholes_to : (rows : List Row) → AllByRecursion IsWhole rows → AllByRecursion IsWhole (map (λ r. column r 0 ∷ []) rows)
wholes_to [] h = tt
wholes_to (r ∷ rows) h = (h.0, wholes_to rows h.1)

pub all_test : (rows : List Row) → AllByRecursion IsWhole rows → list_all (λ r. is_int (column r 0)) rows ≡ true
all_test [] h = refl
all_test (r ∷ rows) h = rw (h.0, all_test rows h.1)

pub test_all : (rows : List Row) → list_all (λ r. is_int (column r 0)) rows ≡ true → AllByRecursion IsWhole rows
test_all [] h = tt
test_all (r ∷ rows) h = let parts = and_parts (is_int (column r 0)) (list_all (λ q. is_int (column q 0)) rows) h in (parts.0, test_all rows parts.1)

-- each that is shown is whole where each that is stored is
pub numbered_by : (stored rows : List Row) → IsPermutation (map (λ r. column r 0 ∷ []) stored) rows → IsTrue (list_all (λ r. is_int (column r 0)) rows) ↔ AllByRecursion (λ r. is_int (rowid r) ≡ true) stored
numbered_by stored rows same = (
  λ yes. wholes_from stored (all-permutation IsWhole rows (map (λ r. column r 0 ∷ []) stored) (IsPermutation-sym _ _ same) (test_all rows yes)),
  λ all. all_test rows (all-permutation IsWhole (map (λ r. column r 0 ∷ []) stored) rows same (wholes_to stored all)),
)

-- a reading of what was read is one too
pub reads_of : {X Y : Type 0} (Was : Database → Type 0) (old new : State) (x : X) (y : Y) (P : Trees → X → Type 0) (Q : Trees → Y → Type 0) → ReadsOver Was old new (Ok x) P → (P old.now.trees x → Q old.now.trees y) → ReadsOver Was old new (Ok y) Q
reads_of Was old new x y P Q read turns = record {
  found = λ clean has. turns (read.found clean has);
  same = read.same;
  whole = λ clean. tt;
  was_open = read.was_open;
  inside = read.inside;
  kept = read.kept;
  survives = read.survives;
}

-- where the reading failed
pub reads_not : {X Y : Type 0} (Was : Database → Type 0) (old new : State) (fault : RowFault) (result : Result Y RowFault) (P : Trees → X → Type 0) (Q : Trees → Y → Type 0) → ReadsOver Was old new (Err fault) P → IsErrAnd result (λ e. e ≡ fault) → ReadsOver Was old new result Q
reads_not Was old new fault (Ok y) P Q read is = absurd is
reads_not Was old new fault (Err e) P Q read is = record {
  found = λ clean has. tt;
  same = λ clean has. tt;
  whole = read.whole;
  was_open = λ clean. tt;
  inside = λ clean inside. tt;
  kept = read.kept;
  survives = read.survives;
}
