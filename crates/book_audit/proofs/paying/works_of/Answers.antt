use Rattle.std.proofs.Common.{◌∙◌, Ok, rules}
use Rattle.std.specs.List.{AllByRecursion}
use Rattle.sqlite.specs.Held.{state}
use Rattle.society_book.proofs.lemmas.together.JudgedLemmas.{examines_as, examines_of, examines_not, examines_then}
use Rattle.book_audit.proofs.lemmas.credits.WorksListed.{ListsIts, all_weighed, works_listed}
use Rattle.book_audit.specs.Paying.{CannotPayAny, ListsForAll}
use Rattle.society_closings.specs.Blamed.{HoldNoWorks}
use Rattle.society_closings.specs.CutWorks.{ListsWorks, wants}
use Rattle.society_closings.specs.Weighing.{AreWorksWeighed}
use Rattle.society_closings.specs.declared.pool_works.PoolWorks.{PoolWorks}
use Rattle.society_closings.specs.declared.works_by_recording.WorksByRecording.{WorksByRecording}
use Rattle.book_audit.proofs.paying.works_of.Goals as goal

pub returns-in_err-works : goal.returns-in_err-works
returns-in_err-works g c = record {
  examined = record {
    same_reference = search rules;
    says =
        let o = c.args.office.now in
        let closed = c.args.closed.now in
        let wanted = c.in_ok-wanted.wanted in
        let old = state g.S.Store c.args.tx.now.conn.now in
        let mid = state g.S.Store c.wanted_by.new.tx.conn.now in
        let new = state g.S.Store c.works.new.tx.conn.now in
        let r = c.from_residual-in_err-works.result in
        examines_then (CannotPayAny closed) HoldNoWorks (CannotPayAny closed) old mid new wanted r _ (ListsForAll o closed) (ListsForAll o closed) c.in_ok-wanted.ensures.examined.says
        (examines_not HoldNoWorks HoldNoWorks mid new c.in_err-works.field-0.0 r (ListsWorks (wants wanted)) (ListsForAll o closed)
        (examines_of {X = WorksByRecording} HoldNoWorks mid new _ (ListsWorks (wants wanted)) c.in_err-works.ensures.looks.says c.in_err-works.ensures.err) c.from_residual-in_err-works.ensures.1 (λ none. none))
        (λ works asked lists. lists)
        (λ asked no other b holds can. no other b holds);
  };
}

pub returns-in_err-weigh : goal.returns-in_err-weigh
returns-in_err-weigh g c = record {
  examined = record {
    same_reference = search rules;
    says =
        let o = c.args.office.now in
        let closed = c.args.closed.now in
        let found = c.in_ok-works.field-0 in
        let old = state g.S.Store c.args.tx.now.conn.now in
        let mid = state g.S.Store c.works.new.tx.conn.now in
        let new = state g.S.Store c.weigh.new.tx.conn.now in
        let r = c.from_residual-in_err-weigh.result in
        examines_then (CannotPayAny closed) HoldNoWorks (CannotPayAny closed) old mid new found r (λ db works. AllByRecursion (ListsIts db works) closed) (ListsForAll o closed) (ListsForAll o closed)
        (works_listed closed old (state g.S.Store c.wanted_by.new.tx.conn.now) mid c.in_ok-wanted.wanted found c.in_ok-wanted.ensures.examined.says c.in_ok-works.ensures.looks.says)
        (examines_not {X = Unit {0}} {Y = PoolWorks} HoldNoWorks HoldNoWorks mid new c.in_err-weigh.field-0.0 r (λ db _. AreWorksWeighed o db c.of-works.result → AreWorksWeighed o db c.weigh.new.works) (ListsForAll o closed) c.in_err-weigh.ensures.examined.says c.from_residual-in_err-weigh.ensures.1 (λ no. no))
        (λ works lists all. all)
        (λ lists no other b holds can. no other b holds);
  };
}

pub returns : goal.returns
returns g c = record {
  examined = record {
    same_reference = search rules;
    says =
        let o = c.args.office.now in
        let closed = c.args.closed.now in
        let found = c.in_ok-works.field-0 in
        let works = c.weigh.new.works in
        let old = state g.S.Store c.args.tx.now.conn.now in
        let mid = state g.S.Store c.works.new.tx.conn.now in
        let new = state g.S.Store c.weigh.new.tx.conn.now in
        examines_as (CannotPayAny closed) (CannotPayAny closed) old new tt (Ok works) (λ db (done : Unit {0}). ListsForAll o closed db works) (ListsForAll o closed)
        (examines_then (CannotPayAny closed) HoldNoWorks (CannotPayAny closed) old mid new found (Ok tt) (λ db listed. AllByRecursion (ListsIts db listed) closed) (λ db (done : Unit {0}). AreWorksWeighed o db c.of-works.result → AreWorksWeighed o db works) (λ db (done : Unit {0}). ListsForAll o closed db works)
        (works_listed closed old (state g.S.Store c.wanted_by.new.tx.conn.now) mid c.in_ok-wanted.wanted found c.in_ok-wanted.ensures.examined.says c.in_ok-works.ensures.looks.says)
        c.in_ok-weigh.ensures.examined.says
        (λ done lists weighs. all_weighed o closed old.now.trees found works (c.in_ok-weigh.ensures.listed ∙ c.of-works.ensures.listed) lists (weighs (c.of-works.ensures.none o old.now.trees)))
        (λ lists no other b holds can. no other b holds))
        (λ lists. lists)
        (λ lists. tt);
  };
}
