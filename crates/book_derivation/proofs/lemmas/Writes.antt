-- Writes of what is derived, each to one table.
use Rattle.std.proofs.Common.{◌≡◌, ◌≢◌, ◌≤◌, ◌++◌, Bool, true, false, List, IsPermutation, Result, Ok, Err, IfErr, IfOk, arith, cond, refl, subst, sym, drop, take}
use Rattle.std.specs.List.{AllByRecursion}
use Rattle.std.specs.Result.{IsErrAnd}
use Rattle.sqlite.specs.Effect.{Database}
use Rattle.sqlite.specs.declared.error.Error.{Error}
use Rattle.sqlite.specs.State.{State}
use Rattle.sqlite_schema.specs.declared.schema.Table.{Table}
use Rattle.sqlite_trees.specs.Tree.{Trees}
use Rattle.sqlite_value.specs.Order.{Row}
use Rattle.society_rows.specs.Layout as layout
use Rattle.society_rows.specs.Layout.{all_tables, written_out}
use Rattle.society_rows.specs.Effects.{BlamesMedium, FaultSays, MayFail, TellsOfMedium, Writes}
use Rattle.society_rows.specs.Faults.{is_of_medium}
use Rattle.society_rows.specs.Stored.{Adds, AreNumbered, HasLayout, KeepsOthers, Puts, put_over, rows_in}
use Rattle.society_rows.specs.declared.fault.RowFault.{RowFault}
use Rattle.society_book.proofs.lemmas.rows_alike.KeptTables.{KeptBut, both_of}
use Rattle.society_rows.specs.declared.fault.RowFault.TheVariants as row
use Rattle.society_book.proofs.lemmas.together.StepLemmas.{does_also, does_of}
use Rattle.society_book.specs.Steps.{Does, Never}
use Rattle.book_derivation.specs.Deriving.{Derives, KeepsOwn}
use Rattle.book_derivation.specs.Writing.{writing_fault_by}

-- ---- what a write makes of the rows

-- the table has these rows more, and the others are as they were
pub record AddsRows (table : Table) (more : List Row) (old new : Trees) : Type 0 where
  pub rows : IsPermutation (more ++ rows_in table old) (rows_in table new)
  pub numbered : AreNumbered table old → AreNumbered table new
  pub others : KeepsOthers table old new

-- the table has this row in place of any under its key, and the others are as they were
pub record PutsRow (table : Table) (row : Row) (old new : Trees) : Type 0 where
  pub rows : AreNumbered table old → IsPermutation (put_over row (rows_in table old)) (rows_in table new)
  pub numbered : AreNumbered table old → AreNumbered table new
  pub others : KeepsOthers table old new

-- the table is none of the book itself
pub record IsDerived (table : Table) : Type 0 where
  pub first : AllByRecursion (λ t. t.tree ≢ table.tree) (take 6 all_tables)
  pub later : AllByRecursion (λ t. t.tree ≢ table.tree) (drop 12 all_tables)

first_of_all : (P : Table → Type 0) → AllByRecursion P all_tables → AllByRecursion P (take 6 all_tables)
unfolding all_tables
first_of_all P all = (all.0, (all.1.0, (all.1.1.0, (all.1.1.1.0, (all.1.1.1.1.0, (all.1.1.1.1.1.0, tt))))))

later_of_all : (P : Table → Type 0) → AllByRecursion P all_tables → AllByRecursion P (drop 12 all_tables)
unfolding all_tables
later_of_all P all = all.1.1.1.1.1.1.1.1.1.1.1.1

pub keeps_own : (table : Table) (old new : Trees) → IsDerived table → KeepsOthers table old new → KeepsOwn old new
keeps_own table old new derived others = record {
  first = both_of (λ t. t.tree ≢ table.tree) (KeptBut table old new) (λ t. new t.tree ≡ old t.tree) (take 6 all_tables) (λ t apart kept. kept apart) derived.first (first_of_all (KeptBut table old new) others);
  later = both_of (λ t. t.tree ≢ table.tree) (KeptBut table old new) (λ t. new t.tree ≡ old t.tree) (drop 12 all_tables) (λ t apart kept. kept apart) derived.later (later_of_all (KeptBut table old new) others);
}

-- ---- a write, and what its failure is told as

-- it says that the medium may have failed, or nothing
pub says_writing : (Wrong : Trees → Type 0) (old new : State) (fault e : RowFault) → (is_of_medium fault ≡ true → MayFail old new) → e ≡ writing_fault_by fault → FaultSays Wrong old new e
says_writing Wrong old new fault e blamed is = subst (FaultSays Wrong old new) (sym is) (by_fault fault blamed)
  where
    by_case : (error : Error) (t : Bool) → (t ≡ true → MayFail old new) → FaultSays Wrong old new (cond t (row.Refused error) row.Memory)
    by_case error true may = may refl
    by_case error false may = tt

    by_fault : (f : RowFault) → (is_of_medium f ≡ true → MayFail old new) → FaultSays Wrong old new (writing_fault_by f)
    by_fault row.Memory may = tt
    by_fault row.Schema may = tt
    by_fault row.Damaged may = tt
    by_fault row.Overflow may = tt
    by_fault (row.Refused error) may = by_case error (is_of_medium (row.Refused error)) may

pub derives_write : (old new : State) (r done : Result (Unit {0}) RowFault) (Change : Database → Database → Type 0) (Says : Trees → Trees → Type 0)
    → Writes old new r Change → BlamesMedium old new r
    → IfOk done (λ _. r ≡ Ok tt) → IfErr done (λ e. IsErrAnd r (λ fault. e ≡ writing_fault_by fault))
    → ((d e : Database) → Change d e → HasLayout e × KeepsOwn d.trees e.trees × Says d.trees e.trees)
    → Derives Never old new done (λ before after _. Says before after)
derives_write old new r done Change Says writes blamed went failed follows = record {
  does = does_also old new done (λ before after _. Change before after) (λ before after _. KeepsOwn before.trees after.trees × Says before.trees after.trees) (retold done went (does_of old new r Change writes (λ d e made. (follows d e made).0)))
      (λ x made. let it = follows old.now new.now made in (it.1, it.2));
  faults = λ clean inside has. errs done failed (blamed clean inside has);
}
  where
    retold : (z : Result (Unit {0}) RowFault) → IfOk z (λ _. r ≡ Ok tt) → Does old new r (λ before after _. Change before after) → Does old new z (λ before after _. Change before after)
    retold (Ok x) is first = subst (λ (y : Result (Unit {0}) RowFault). Does old new y (λ before after _. Change before after)) is first
    retold (Err e) is first = record { says = λ clean inside has. tt; layout = λ clean inside has. tt; inside = λ clean inside. tt; kept = first.kept; survives = first.survives }

    told : (e : RowFault) (y : Result (Unit {0}) RowFault) → IsErrAnd y (λ fault. e ≡ writing_fault_by fault) → TellsOfMedium old new y → FaultSays Never old new e
    told e (Ok x) is may = absurd is
    told e (Err fault) is may = says_writing Never old new fault e may is

    errs : (z : Result (Unit {0}) RowFault) → IfErr z (λ e. IsErrAnd r (λ fault. e ≡ writing_fault_by fault)) → TellsOfMedium old new r → IfErr z (FaultSays Never old new)
    errs (Ok x) is may = tt
    errs (Err e) is may = told e r is may

-- rows that are added
pub derives_adds : (table : Table) (more : List Row) (old new : State) (r done : Result (Unit {0}) RowFault)
    → IsDerived table → Writes old new r (Adds table more) → BlamesMedium old new r → IfOk done (λ _. r ≡ Ok tt) → IfErr done (λ e. IsErrAnd r (λ fault. e ≡ writing_fault_by fault))
    → Derives Never old new done (λ before after _. AddsRows table more before after)
derives_adds table more old new r done derived writes blamed went failed =
    derives_write old new r done (Adds table more) (AddsRows table more) writes blamed went failed
    (λ d e adds. (adds.layout, keeps_own table d.trees e.trees derived adds.others, record { rows = adds.rows; numbered = adds.numbered; others = adds.others }))

-- a row that is put
pub derives_puts : (table : Table) (row : Row) (old new : State) (r done : Result (Unit {0}) RowFault)
    → IsDerived table → Writes old new r (Puts table row) → BlamesMedium old new r → IfOk done (λ _. r ≡ Ok tt) → IfErr done (λ e. IsErrAnd r (λ fault. e ≡ writing_fault_by fault))
    → Derives Never old new done (λ before after _. PutsRow table row before after)
derives_puts table row old new r done derived writes blamed went failed =
    derives_write old new r done (Puts table row) (PutsRow table row) writes blamed went failed
    (λ d e puts. (puts.layout, keeps_own table d.trees e.trees derived puts.others, record { rows = puts.rows; numbered = puts.numbered; others = puts.others }))

-- ---- the tables of what is derived

-- a table is one of them by its tree
derived_by_tree : (t : Table) → 10 ≤ t.tree → t.tree ≤ 20 → IsDerived t
unfolding all_tables written_out
derived_by_tree t from to = record {
  first = (λ e. omega (arith, e), (λ e. omega (arith, e), (λ e. omega (arith, e), (λ e. omega (arith, e), (λ e. omega (arith, e), (λ e. omega (arith, e), tt))))));
  later = (λ e. omega (arith, e), (λ e. omega (arith, e), tt));
}

pub fronts_derived : IsDerived layout.fronts
unfolding written_out
fronts_derived = derived_by_tree layout.fronts (omega arith) (omega arith)

pub verdicts_derived : IsDerived layout.verdicts
unfolding written_out
verdicts_derived = derived_by_tree layout.verdicts (omega arith) (omega arith)

pub versions_derived : IsDerived layout.versions
unfolding written_out
versions_derived = derived_by_tree layout.versions (omega arith) (omega arith)

pub recordings_derived : IsDerived layout.recordings
unfolding written_out
recordings_derived = derived_by_tree layout.recordings (omega arith) (omega arith)

pub credits_table_derived : IsDerived layout.credits_table
unfolding written_out
credits_table_derived = derived_by_tree layout.credits_table (omega arith) (omega arith)

pub balances_derived : IsDerived layout.balances
unfolding written_out
balances_derived = derived_by_tree layout.balances (omega arith) (omega arith)
