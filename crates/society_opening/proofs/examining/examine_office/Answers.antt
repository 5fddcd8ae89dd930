use Rattle.std.proofs.Common.{◌∙◌, Ok, subst, sym, rules}
use Rattle.sqlite.specs.Effect.{Database}
use Rattle.sqlite.specs.Held.{state}
use Rattle.society_rows.specs.Effects.{MayFail}
use Rattle.society_rows.specs.Layouts.{HasTable}
use Rattle.society_rows.specs.Stored.{HasLayout}
use Rattle.society_rows.specs.declared.tables.TableName.TheVariants as name
use Rattle.society_rows.proofs.lemmas.definitions.FirstTables.{has_table}
use Rattle.society_rows.proofs.lemmas.errors.Blamed.{may_on}
use Rattle.society_book.specs.Kept.{HoldsOwnBook}
use Rattle.book_audit.specs.Audited.{IsRegistered}
use Rattle.book_audit.specs.Examining.{HoldsNot}
use Rattle.society_opening.specs.Opening.{open_fault_by}
use Rattle.society_book.proofs.lemmas.together.StepLemmas.{was_clean}
use Rattle.society_opening.proofs.lemmas.opened.OpenTold.{damaged_so, there_by, told_judged, told_on, undamaged}
use Rattle.society_opening.proofs.lemmas.taking.OverLemmas.{over_examined, over_fails, over_not, over_retold, over_then, over_where}
use Rattle.society_opening.proofs.lemmas.taking.WritingFaults.{aside_by, failed_by, store_of}
use Rattle.society_opening.proofs.examining.examine_office.Goals as goal

pub returns-clause-does : goal.returns-clause-does
returns-clause-does g c = record {
  same_reference = search rules;
  says =
      let old = state g.S.Store c.args.tx.now.conn.now in
      let mid = state g.S.Store c.office_agrees.new.tx.conn.now in
      let new = state g.S.Store c.examine_whole.new.tx.conn.now in
      let o = c.args.office.now in
      over_then HasLayout HasLayout old mid new tt (Ok tt) _ _ _ (over_where (HasTable name.Office) HasLayout old mid (Ok tt) _ (λ db. has_table name.Office db) c.in_ok-office_agrees.ensures.finds.says)
      (λ has said. subst HasLayout (sym said.0) has)
      (over_retold HasLayout mid new tt _ (over_examined (HoldsNot o) mid new (Ok tt) _ c.in_ok-examine_whole.ensures.examined.says))
      (λ y one two. (two.0 ∙ one.0, subst (λ (db : Database). HoldsOwnBook o db.trees) one.0 (two.1 (subst (λ (db : Database). IsRegistered o db.trees) (sym one.0) one.1))));
}

pub returns-in_err-office_agrees-clause-does : goal.returns-in_err-office_agrees-clause-does
returns-in_err-office_agrees-clause-does g c = record {
  same_reference = search rules;
  says =
      let old = state g.S.Store c.args.tx.now.conn.now in
      let mid = state g.S.Store c.office_agrees.new.tx.conn.now in
      over_not HasLayout old mid _ c.from_residual.result _ _ (over_where (HasTable name.Office) HasLayout old mid _ _ (λ db. has_table name.Office db) c.in_err-office_agrees.ensures.finds.says) c.from_residual.ensures.0;
}

pub returns-in_err-examine_whole-clause-does : goal.returns-in_err-examine_whole-clause-does
returns-in_err-examine_whole-clause-does g c = record {
  same_reference = search rules;
  says =
      let old = state g.S.Store c.args.tx.now.conn.now in
      let mid = state g.S.Store c.office_agrees.new.tx.conn.now in
      let new = state g.S.Store c.examine_whole.new.tx.conn.now in
      over_fails HasLayout HasLayout old mid new tt _ c.from_residual-in_err-examine_whole.result _ _ _ (over_where (HasTable name.Office) HasLayout old mid (Ok tt) _ (λ db. has_table name.Office db) c.in_ok-office_agrees.ensures.finds.says)
      (λ has said. subst HasLayout (sym said.0) has)
      (over_examined (HoldsNot c.args.office.now) mid new _ _ c.in_err-examine_whole.ensures.examined.says) c.from_residual-in_err-examine_whole.ensures.0;
}

pub returns-in_err-office_agrees-clause-err : goal.returns-in_err-office_agrees-clause-err
returns-in_err-office_agrees-clause-err g c clean inside has =
    told_on 3 c.args.office.now _ c.in_err-office_agrees.field-0.0 c.from_residual.result (c.in_err-office_agrees.ensures.err clean inside (has_table name.Office _ has)) c.from_residual.ensures.1

pub returns-in_err-examine_whole-clause-err : goal.returns-in_err-examine_whole-clause-err
returns-in_err-examine_whole-clause-err g c clean inside has =
    let before = was_clean _ _ c.in_err-examine_whole.ensures.examined.says.does.survives clean in
    told_judged 3 c.args.office.now _ c.in_err-examine_whole.field-0.0 c.from_residual-in_err-examine_whole.result (c.in_ok-office_agrees.ensures.finds.says.says before inside (has_table name.Office _ has)).1 c.from_residual-in_err-examine_whole.ensures.1

pub returns-in_err-office_agrees-clause-damaged : goal.returns-in_err-office_agrees-clause-damaged
returns-in_err-office_agrees-clause-damaged g c clean inside has = undamaged _ c.in_err-office_agrees.field-0.0 c.from_residual.result c.from_residual.ensures.1 c.in_err-office_agrees.ensures.other

pub returns-in_err-examine_whole-clause-damaged : goal.returns-in_err-examine_whole-clause-damaged
returns-in_err-examine_whole-clause-damaged g c clean inside has =
    let mid = state g.S.Store c.office_agrees.new.tx.conn.now in
    let new = state g.S.Store c.examine_whole.new.tx.conn.now in
    let o = c.args.office.now in
    let finds = c.in_ok-office_agrees.ensures.finds.says in
    let before = was_clean mid new c.in_err-examine_whole.ensures.examined.says.does.survives clean in
    let said = finds.says before inside (has_table name.Office _ has) in
    let says = c.in_err-examine_whole.ensures.examined.says.faults clean (finds.inside before inside) (subst HasLayout (sym said.0) has) in
    damaged_so _ c.in_err-examine_whole.field-0.0 c.from_residual-in_err-examine_whole.result c.from_residual-in_err-examine_whole.ensures.1
    (λ held. aside_by (HoldsOwnBook o) mid new c.in_err-examine_whole.field-0.0 says (subst (λ (db : Database). HoldsOwnBook o db.trees) (sym said.0) held))

pub returns-in_err-office_agrees-clause-medium : goal.returns-in_err-office_agrees-clause-medium
returns-in_err-office_agrees-clause-medium g c inside clean has =
    failed_by (MayFail (state g.S.Store c.args.tx.now.conn.now) (state g.S.Store c.office_agrees.new.tx.conn.now)) c.in_err-office_agrees.field-0.0 c.from_residual.result c.from_residual.ensures.1
    (c.in_err-office_agrees.ensures.medium inside clean (has_table name.Office _ has))

pub returns-in_err-examine_whole-clause-medium : goal.returns-in_err-examine_whole-clause-medium
returns-in_err-examine_whole-clause-medium g c inside clean has =
    let old = state g.S.Store c.args.tx.now.conn.now in
    let mid = state g.S.Store c.office_agrees.new.tx.conn.now in
    let new = state g.S.Store c.examine_whole.new.tx.conn.now in
    let f = c.in_err-examine_whole.field-0.0 in
    let finds = c.in_ok-office_agrees.ensures.finds.says in
    let before = was_clean mid new c.in_err-examine_whole.ensures.examined.says.does.survives clean in
    let said = finds.says before inside (has_table name.Office _ has) in
    let says = c.in_err-examine_whole.ensures.examined.says.faults clean (finds.inside before inside) (subst HasLayout (sym said.0) has) in
    failed_by (MayFail old new) (open_fault_by f) c.from_residual-in_err-examine_whole.result c.from_residual-in_err-examine_whole.ensures.1
    (λ err. may_on old mid new finds.survives before c.in_err-examine_whole.ensures.examined.says.does.survives.counts (store_of (HoldsNot c.args.office.now) mid new f says err))

pub returns-in_err-examine_whole-clause-there : goal.returns-in_err-examine_whole-clause-there
returns-in_err-examine_whole-clause-there g c = there_by c.in_err-examine_whole.field-0.0 c.from_residual-in_err-examine_whole.result c.from_residual-in_err-examine_whole.ensures.1
