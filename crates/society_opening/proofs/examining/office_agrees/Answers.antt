use Rattle.std.proofs.Common.{Ok, Err, refl, rules, subst}
use Rattle.sqlite.specs.Held.{state}
use Rattle.society_rows.specs.Layouts.{HasTable}
use Rattle.society_rows.specs.declared.tables.TableName.TheVariants as name
use Rattle.society_book.proofs.lemmas.together.StepLemmas.{more}
use Rattle.society_opening.specs.Opening.{IsOutside}
use Rattle.society_opening.proofs.lemmas.opened.OpenTold.{here_listed, outside_failed, told_failed, told_listed}
use Rattle.society_opening.proofs.lemmas.taking.OverLemmas.{over_as, over_not, over_reads}
use Rattle.society_opening.proofs.lemmas.opened.Failing.{by_row}
use Rattle.society_opening.proofs.lemmas.taking.WritingFaults.{never_store}
use Rattle.society_opening.proofs.examining.office_agrees.Goals as goal

pub returns-in-Ok-clause-finds : goal.returns-in-Ok-clause-finds
returns-in-Ok-clause-finds g c = record {
  same_reference = search rules;
  says =
      let old = state g.S.Store c.args.tx.now.conn.now in
      let new = state g.S.Store c.all_rows.new.tx.conn.now in
      over_as (HasTable name.Office) old new c.in-Ok.rows c.check_office.result _ _ (over_reads (HasTable name.Office) old new (Ok c.in-Ok.rows) _ c.in-Ok.ensures.read.says)
      (λ found. more c.check_office.result (λ y here. (found.0, here)) (here_listed c.args.number c.args.office.now _ _ _ c.check_office.result found.1 (rw c.as_slice.ensures.value at c.check_office.ensures.same)));
}

pub returns-in-Err-clause-finds : goal.returns-in-Err-clause-finds
returns-in-Err-clause-finds g c = record {
  same_reference = search rules;
  says =
      let old = state g.S.Store c.args.tx.now.conn.now in
      let new = state g.S.Store c.all_rows.new.tx.conn.now in
      over_not (HasTable name.Office) old new c.in-Err.fault (Err c.fault_of_reading.result) _ _ (over_reads (HasTable name.Office) old new (Err c.in-Err.fault) _ c.in-Err.ensures.read.says) refl;
}

pub returns-in-Ok-clause-err : goal.returns-in-Ok-clause-err
returns-in-Ok-clause-err g c clean inside was =
    told_listed c.args.number c.args.office.now _ _ _ c.check_office.result (c.in-Ok.ensures.read.says.found clean was) (rw c.as_slice.ensures.value at c.check_office.ensures.err)

pub returns-in-Err-clause-err : goal.returns-in-Err-clause-err
returns-in-Err-clause-err g c clean inside was = told_failed c.args.number c.args.office.now _ c.in-Err.fault c.fault_of_reading.result c.fault_of_reading.ensures.value

pub returns-in-Err-clause-other : goal.returns-in-Err-clause-other
returns-in-Err-clause-other g c is = subst IsOutside is (outside_failed c.in-Err.fault c.fault_of_reading.result c.fault_of_reading.ensures.value)

pub returns-in-Err-clause-there : goal.returns-in-Err-clause-there
returns-in-Err-clause-there g c is = subst IsOutside is (outside_failed c.in-Err.fault c.fault_of_reading.result c.fault_of_reading.ensures.value)

pub returns-in-Ok-clause-medium : goal.returns-in-Ok-clause-medium
returns-in-Ok-clause-medium g c inside clean was = never_store _ c.check_office.result c.check_office.ensures.read

pub returns-in-Err-clause-medium : goal.returns-in-Err-clause-medium
returns-in-Err-clause-medium g c inside clean was =
    by_row (state g.S.Store c.args.tx.now.conn.now) (state g.S.Store c.all_rows.new.tx.conn.now) c.in-Err.fault c.fault_of_reading.result c.fault_of_reading.ensures.value (c.in-Err.ensures.medium clean was)
