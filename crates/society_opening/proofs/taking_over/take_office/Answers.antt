use Rattle.std.proofs.Common.{Ok, subst, sym, rules}
use Rattle.sqlite.specs.Effect.{Database}
use Rattle.sqlite.specs.Held.{state}
use Rattle.society_rows.specs.Layouts.{HasOlder, number_of}
use Rattle.society_book.proofs.lemmas.together.StepLemmas.{was_clean}
use Rattle.society_opening.specs.Older.{HoldsOlder}
use Rattle.society_rows.specs.Effects.{MayFail}
use Rattle.society_opening.specs.Opening.{open_fault_by}
use Rattle.society_opening.specs.TakingOver.{IsNamed, StandsForNone, TakesIn}
use Rattle.society_rows.proofs.lemmas.errors.Blamed.{may_on}
use Rattle.society_opening.proofs.lemmas.taking.WritingFaults.{aside_by, failed_by, store_of}
use Rattle.society_opening.proofs.lemmas.opened.OpenTold.{damaged_so, has_office, there_by, told_judged, told_on, undamaged}
use Rattle.society_opening.proofs.lemmas.taking.OverLemmas.{agreed, over_fails, over_not, over_retold, over_then}
use Rattle.society_opening.proofs.taking_over.take_office.Goals as goal

pub returns-clause-does : goal.returns-clause-does
returns-clause-does g c = record {
  same_reference = search rules;
  says =
      let l = c.args.layout in
      over_then (HasOlder l) (HasOlder l) _ _ _ tt (Ok tt) _ _ _ (agreed l (state g.S.Store c.args.tx.now.conn.now) (state g.S.Store c.office_agrees.new.tx.conn.now) (Ok tt) c.args.office.now (rw c.number.ensures at c.in_ok-office_agrees.ensures.finds.says)) (λ has said. subst (HasOlder l) (sym said.0) has)
      (over_retold (HasOlder l) _ _ tt _ c.in_ok-take_inside.ensures.does.says)
      (λ y one two. (
        one.1,
        subst (λ (db : Database). TakesIn c.args.office.now l db (state g.S.Store c.take_inside.new.tx.conn.now).now tt) one.0 (two (subst (λ (db : Database). IsNamed c.args.office.now (number_of l) db) (sym one.0) one.1)),
      ));
}

pub returns-in_err-office_agrees-clause-does : goal.returns-in_err-office_agrees-clause-does
returns-in_err-office_agrees-clause-does g c = record {
  same_reference = search rules;
  says =
      over_not (HasOlder c.args.layout) _ _ _ c.from_residual.result _ _
      (agreed c.args.layout (state g.S.Store c.args.tx.now.conn.now) (state g.S.Store c.office_agrees.new.tx.conn.now) _ c.args.office.now (rw c.number.ensures at c.in_err-office_agrees.ensures.finds.says)) c.from_residual.ensures.0;
}

pub returns-in_err-take_inside-clause-does : goal.returns-in_err-take_inside-clause-does
returns-in_err-take_inside-clause-does g c = record {
  same_reference = search rules;
  says =
      let l = c.args.layout in
      over_fails (HasOlder l) (HasOlder l) _ _ _ tt _ c.from_residual-in_err-take_inside.result _ _ _ (agreed l (state g.S.Store c.args.tx.now.conn.now) (state g.S.Store c.office_agrees.new.tx.conn.now) (Ok tt) c.args.office.now (rw c.number.ensures at c.in_ok-office_agrees.ensures.finds.says)) (λ has said. subst (HasOlder l) (sym said.0) has)
      c.in_err-take_inside.ensures.does.says c.from_residual-in_err-take_inside.ensures.0;
}

pub returns-in_err-office_agrees-clause-err : goal.returns-in_err-office_agrees-clause-err
returns-in_err-office_agrees-clause-err g c clean inside was =
    told_on (number_of c.args.layout) c.args.office.now _ c.in_err-office_agrees.field-0.0 c.from_residual.result ((rw c.number.ensures at c.in_err-office_agrees.ensures.err) clean inside (has_office c.args.layout _ was)) c.from_residual.ensures.1

pub returns-in_err-take_inside-clause-err : goal.returns-in_err-take_inside-clause-err
returns-in_err-take_inside-clause-err g c clean inside was =
    let mid = was_clean _ _ c.in_err-take_inside.ensures.does.says.survives clean in
    told_judged (number_of c.args.layout) c.args.office.now _ c.in_err-take_inside.field-0.0 c.from_residual-in_err-take_inside.result ((rw c.number.ensures at c.in_ok-office_agrees.ensures.finds.says).says mid inside (has_office c.args.layout _ was)).1 c.from_residual-in_err-take_inside.ensures.1

pub returns-in_err-office_agrees-clause-damaged : goal.returns-in_err-office_agrees-clause-damaged
returns-in_err-office_agrees-clause-damaged g c clean inside was = undamaged _ c.in_err-office_agrees.field-0.0 c.from_residual.result c.from_residual.ensures.1 c.in_err-office_agrees.ensures.other

pub returns-in_err-take_inside-clause-damaged : goal.returns-in_err-take_inside-clause-damaged
returns-in_err-take_inside-clause-damaged g c clean inside was =
    let l = c.args.layout in
    let mid = was_clean _ _ c.in_err-take_inside.ensures.does.says.survives clean in
    let said = c.in_ok-office_agrees.ensures.finds.says.says mid inside (has_office l _ was) in
    let says = c.in_err-take_inside.ensures.faults clean (c.in_ok-office_agrees.ensures.finds.says.inside mid inside) (subst (HasOlder l) (sym said.0) was) in
    damaged_so _ c.in_err-take_inside.field-0.0 c.from_residual-in_err-take_inside.result c.from_residual-in_err-take_inside.ensures.1
    (λ held. aside_by (HoldsOlder c.args.office.now l) (state g.S.Store c.office_agrees.new.tx.conn.now) (state g.S.Store c.take_inside.new.tx.conn.now) c.in_err-take_inside.field-0.0 says (subst (λ (db : Database). HoldsOlder c.args.office.now l db.trees) (sym said.0) held))

pub returns-in_err-office_agrees-clause-medium : goal.returns-in_err-office_agrees-clause-medium
returns-in_err-office_agrees-clause-medium g c inside clean was =
    failed_by (MayFail (state g.S.Store c.args.tx.now.conn.now) (state g.S.Store c.office_agrees.new.tx.conn.now)) c.in_err-office_agrees.field-0.0 c.from_residual.result c.from_residual.ensures.1 (c.in_err-office_agrees.ensures.medium inside clean (has_office c.args.layout _ was))

pub returns-in_err-take_inside-clause-medium : goal.returns-in_err-take_inside-clause-medium
returns-in_err-take_inside-clause-medium g c inside clean was =
    let l = c.args.layout in
    let old = state g.S.Store c.args.tx.now.conn.now in
    let mid = state g.S.Store c.office_agrees.new.tx.conn.now in
    let new = state g.S.Store c.take_inside.new.tx.conn.now in
    let f = c.in_err-take_inside.field-0.0 in
    let before = was_clean _ _ c.in_err-take_inside.ensures.does.says.survives clean in
    let finds = c.in_ok-office_agrees.ensures.finds.says in
    let said = finds.says before inside (has_office l _ was) in
    let says = c.in_err-take_inside.ensures.faults clean (finds.inside before inside) (subst (HasOlder l) (sym said.0) was) in
    failed_by (MayFail old new) (open_fault_by f) c.from_residual-in_err-take_inside.result c.from_residual-in_err-take_inside.ensures.1
    (λ err. may_on old mid new finds.survives before c.in_err-take_inside.ensures.does.says.survives.counts (store_of (StandsForNone c.args.office.now l) mid new f says err))

pub returns-in_err-take_inside-clause-there : goal.returns-in_err-take_inside-clause-there
returns-in_err-take_inside-clause-there g c = there_by c.in_err-take_inside.field-0.0 c.from_residual-in_err-take_inside.result c.from_residual-in_err-take_inside.ensures.1
