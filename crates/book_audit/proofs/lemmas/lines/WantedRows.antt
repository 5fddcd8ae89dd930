-- Rows that are worked out, and whether a table has them.
use Rattle.std.proofs.Common.{◌≡◌, ℕ, List, [], ◌∷◌, Result, Ok, IfOk, IsPermutation, map, filter, subst}
use Rattle.std.specs.List.{AllByRecursion}
use Rattle.std.proofs.lemmas.List.Sorted.{IsPermutation-sym, IsPermutation-trans}
use Rattle.sqlite.specs.State.{State}
use Rattle.sqlite_trees.specs.Tree.{Trees}
use Rattle.sqlite_schema.specs.declared.schema.Table.{Table}
use Rattle.sqlite_value.specs.Order.{Row}
use Rattle.society_rows.specs.Stored.{rows_in}
use Rattle.book_audit.specs.Examining.{IsNot}
use Rattle.society_book.proofs.lemmas.together.JudgedLemmas.{examines_also}
use Rattle.society_book.specs.Steps.{Examines}
use Rattle.society_rows.specs.declared.fault.RowFault.{RowFault}
use Rattle.book_audit.specs.Alike.{IsExact}
use Rattle.book_audit.specs.Auditing.{HasRowsOf, of_sender}

-- what is found has what holds of it
pub the_ok : {X E : Type 0} (r : Result X E) (x : X) (P : X → Type 0) → r ≡ Ok x → IfOk r P → P x
the_ok r x P is h = subst (λ z. IfOk z P) is h

-- each row of a kind has whole numbers and texts alone
pub exact_rows : {X : Type 0} (values : X → Row) → ((x : X) → IsExact (values x)) → (xs : List X) → AllByRecursion IsExact (map values xs)
exact_rows values each [] = tt
exact_rows values each (x ∷ xs) = (each x, exact_rows values each xs)

-- what is found is something else, which is found where it is
pub alike_also : (A B : Trees → Type 0) (old new : State) (r : Result (Unit {0}) RowFault) → Examines (IsNot A) old new r (λ db _. A db) → ((db : Trees) → A db → B db) → ((db : Trees) → B db → A db) → Examines (IsNot B) old new r (λ db _. B db)
alike_also A B old new r first follows back = examines_also (IsNot A) (IsNot B) old new r (λ db _. A db) (λ db _. B db) first (λ x. follows old.now.trees) (λ no b. no (back old.now.trees b))

-- a table has these rows of a sender where it has those, which are these in some order
pub in_some_order : (table : Table) (s : List ℕ) (those these : List Row) (old new : State) (r : Result (Unit {0}) RowFault) → IsPermutation those these → Examines (IsNot (HasRowsOf table s those)) old new r (λ db _. HasRowsOf table s those db) → Examines (IsNot (HasRowsOf table s these)) old new r (λ db _. HasRowsOf table s these db)
in_some_order table s those these old new r same first =
    alike_also (HasRowsOf table s those) (HasRowsOf table s these) old new r first
    (λ db has. IsPermutation-trans (filter (of_sender s) (rows_in table db)) those these has same)
    (λ db has. IsPermutation-trans (filter (of_sender s) (rows_in table db)) these those has (IsPermutation-sym those these same))
