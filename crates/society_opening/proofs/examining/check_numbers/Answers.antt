use Rattle.std.proofs.Common.{◌∙◌, Bool, Err, Ok, Result, sym, rules}
use Rattle.std.proofs.lemmas.Bool.{false≢true}
use Rattle.sqlite.specs.Held.{state}
use Rattle.sqlite.specs.State.{State}
use Rattle.sqlite_trees.specs.Tree.{Trees}
use Rattle.society_rows.specs.Effects.{ErrsByMediumOver, OnlyFailsOver}
use Rattle.society_rows.specs.Layouts.{HasTable}
use Rattle.society_rows.specs.Reads.{ReadsOver}
use Rattle.society_rows.specs.Stored.{AreNumbered, HasLayout}
use Rattle.society_rows.specs.TableNames.{table_called}
use Rattle.society_rows.specs.declared.fault.RowFault.{RowFault}
use Rattle.society_rows.specs.declared.fault.RowFault.TheVariants.{Damaged}
use Rattle.society_rows.specs.declared.tables.TableName.{TableName}
use Rattle.society_rows.proofs.lemmas.definitions.FirstTables.{has_table}
use Rattle.society_rows.proofs.lemmas.readings.Queries.{reads_where}
use Rattle.society_book.specs.Steps.{Examines, Never}
use Rattle.society_book.proofs.lemmas.together.JudgedLemmas.{examines_as, examines_not, examines_reads}
use Rattle.society_opening.proofs.examining.check_numbers.Goals as goal

-- what one statement reads of a table that layout 3 has
examined : {X : Type 0} (table : TableName) (old new : State) (r : Result X RowFault) (Found : Trees → X → Type 0) → ReadsOver (HasTable table) old new r Found → OnlyFailsOver (HasTable table) old new r
    → ErrsByMediumOver (HasTable table) old new r → Examines Never old new r Found
examined table old new r Found reads told medium =
    examines_reads old new r Found (reads_where (HasTable table) HasLayout old new r Found (has_table table old.now) reads) (λ clean has. told clean (has_table table old.now has)) (λ clean has. medium clean (has_table table old.now has))

pub returns-then-branch : goal.returns-then-branch
returns-then-branch g c = record {
  examined = record {
    same_reference = search rules;
    says =
        let old = state g.S.Store c.args.tx.now.conn.now in
        let new = state g.S.Store c.are_numbered.new.tx.conn.now in
        examines_as Never (λ db. AreNumbered (table_called c.args.table) db → ⊥) old new _ (Ok tt) _ (λ db _. AreNumbered (table_called c.args.table) db)
        (examined c.args.table old new (Ok _) _ c.in_ok-are_numbered.ensures.read.says c.in_ok-are_numbered.ensures.err c.in_ok-are_numbered.ensures.medium) (λ is. is.0 c.if-branch.true) (λ is. tt);
  };
}

pub returns-else-branch : goal.returns-else-branch
returns-else-branch g c = record {
  examined = record {
    same_reference = search rules;
    says =
        let old = state g.S.Store c.args.tx.now.conn.now in
        let new = state g.S.Store c.are_numbered.new.tx.conn.now in
        examines_as Never (λ db. AreNumbered (table_called c.args.table) db → ⊥) old new _ (Err Damaged) _ (λ db _. AreNumbered (table_called c.args.table) db)
        (examined c.args.table old new (Ok _) _ c.in_ok-are_numbered.ensures.read.says c.in_ok-are_numbered.ensures.err c.in_ok-are_numbered.ensures.medium) (λ is. tt) (λ is numbered. false≢true (sym c.if-branch.false ∙ is.1 numbered));
  };
}

pub returns-in_err-are_numbered : goal.returns-in_err-are_numbered
returns-in_err-are_numbered g c = record {
  examined = record {
    same_reference = search rules;
    says =
        let old = state g.S.Store c.args.tx.now.conn.now in
        let new = state g.S.Store c.are_numbered.new.tx.conn.now in
        examines_not {X = Bool} Never (λ db. AreNumbered (table_called c.args.table) db → ⊥) old new _ c.from_residual.result _ (λ db _. AreNumbered (table_called c.args.table) db)
        (examined {X = Bool} c.args.table old new (Err _) _ c.in_err-are_numbered.ensures.read.says c.in_err-are_numbered.ensures.err c.in_err-are_numbered.ensures.medium) c.from_residual.ensures.1 (λ never. absurd never);
  };
}
