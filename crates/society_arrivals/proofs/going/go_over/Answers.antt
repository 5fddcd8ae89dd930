use Rattle.std.proofs.Common.{◌≡◌, ◌∙◌, ℕ, Err, Ok, Some, ap, arith, refl, sym}
use Rattle.sqlite.specs.Held.{state}
use Rattle.society_book.specs.EndLists.{behind_end, end_listed}
use Rattle.society_arrivals.specs.Going.{RunsOn, RunsPast}
use Rattle.society_arrivals.proofs.lemmas.SegmentEnds.{past_all, past_more, past_none}
use Rattle.society_book.specs.RightRows.{KeepsUnsound}
use Rattle.society_book.proofs.lemmas.together.ErrLemmas.{errs_on, errs_then}
use Rattle.society_book.proofs.lemmas.together.StepLemmas.{looks_as, looks_then, nothing}
use Rattle.society_arrivals.proofs.going.go_over.Goals as goal
use Rattle.work_ids.specs.Segments.{base_of, segment_of}

pub segments-init : goal.segments-init
segments-init g c = record {
  limit = c.requires;
  same_reference = refl;
  looks = nothing (state g.S.Store c.args.tx.now.conn.now) (Ok tt) _ (past_none c.args.sender.now c.args.ends.now c.args.begun c.args.run.now _);
}

pub behind-requires : goal.behind-requires
behind-requires g c = c.segments.invariant.limit

pub segments-smaller : goal.segments-smaller
segments-smaller g c = let later = c.in-Some.ensures.later in omega (arith, later.0, later.1)

pub segments-preserved : goal.segments-preserved
segments-preserved g c =
    let s = c.args.sender.now in
    let ends = c.args.ends.now in
    let rank = c.segments.rank in
    let run = c.segments.run in
    let next = c.in-Some.next in
    let passed = c.pass.new.self in
    let after = c.go_on.new.run in
    let old = state g.S.Store c.args.tx.now.conn.now in
    let mid = state g.S.Store c.segments.tx.conn.now in
    let new = state g.S.Store c.go_on.new.tx.conn.now in
    let is : behind_end (base_of (segment_of rank)) run.reached (end_listed ends (segment_of rank)) ≡ Some next =
    ap (λ (k : ℕ). behind_end (base_of (segment_of rank)) k (end_listed ends (segment_of rank))) (sym c.front.ensures) ∙ sym c.behind.ensures.value ∙ c.in-Some.is in
    record {
      limit = c.in-Some.ensures.later.1;
      same_reference = c.in_ok-go_on.ensures.looks.same_reference ∙ c.segments.invariant.same_reference;
      looks = looks_then old mid new tt (Ok tt) (λ db _. RunsPast s ends c.args.begun c.args.run.now rank run db) (λ db _. RunsOn s (record run { reached = next }) after db) _ c.segments.invariant.looks
          (rw c.pass.ensures at c.in_ok-go_on.ensures.looks.says)
          (λ y past on. past_more s ends c.args.begun c.args.run.now rank next run after old.now.trees is past on);
    }

pub returns-clause-looks : goal.returns-clause-looks
returns-clause-looks g c = record {
  same_reference = c.segments.invariant.same_reference;
  says =
      let rank = c.segments.rank in
      let run = c.segments.run in
      let ends = c.args.ends.now in
      looks_as (state g.S.Store c.args.tx.now.conn.now) (state g.S.Store c.segments.tx.conn.now) tt (Ok tt) _ _ c.segments.invariant.looks
      (past_all c.args.sender.now ends c.args.begun c.args.run.now rank run _
      (ap (λ (k : ℕ). behind_end (base_of (segment_of rank)) k (end_listed ends (segment_of rank))) (sym c.front.ensures) ∙ sym c.behind.ensures.value ∙ c.in_default.is));
}

pub returns-in_err-go_on-clause-err : goal.returns-in_err-go_on-clause-err
returns-in_err-go_on-clause-err g c =
    let old = state g.S.Store c.args.tx.now.conn.now in
    let mid = state g.S.Store c.segments.tx.conn.now in
    let new = state g.S.Store c.go_on.new.tx.conn.now in
    errs_on (Unit {0}) KeepsUnsound KeepsUnsound old new c.in_err-go_on.field-0.0 c.from_residual.result
    (errs_then {X = Unit {0}} {Y = Unit {0}} KeepsUnsound KeepsUnsound old mid new tt (Err c.in_err-go_on.field-0.0) (λ db _. RunsPast c.args.sender.now c.args.ends.now c.args.begun c.args.run.now c.segments.rank c.segments.run db) c.segments.invariant.looks c.in_err-go_on.ensures.looks.says.survives c.in_err-go_on.ensures.err (λ found wrong. wrong))
    c.from_residual.ensures.1 (λ wrong. wrong)
