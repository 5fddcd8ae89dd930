use Rattle.std.proofs.Common.{Err, Ok, Result, ◌≡◌, ◌∙◌, subst, rules}
use Rattle.std.specs.Result.{IsErrAnd}
use Rattle.sqlite.specs.Effect.{Database}
use Rattle.sqlite.specs.Held.{state}
use Rattle.sqlite.specs.State.{State}
use Rattle.sqlite_trees.specs.Tree.{Trees}
use Rattle.society_rows.specs.declared.fault.RowFault.{RowFault}
use Rattle.society_arrivals.specs.declared.run.Run.{Run}
use Rattle.society_book.specs.Steps.{Looks, LooksOpen}
use Rattle.society_book.specs.EndLists.{ReadsEnds}
use Rattle.society_arrivals.specs.Going.{IsWholeIn, RunsOn, RunsOver}
use Rattle.society_book.specs.RightRows.{KeepsUnsound}
use Rattle.society_book.specs.declared.sender_ends.SenderEnds.{SenderEnds}
use Rattle.society_book.proofs.lemmas.together.ErrLemmas.{errs_on, errs_then}
use Rattle.society_arrivals.proofs.lemmas.ArrivedRuns.{whole_by}
use Rattle.society_book.proofs.lemmas.together.StepLemmas.{does_not, does_open_then, looks_as, looks_then, survives_on}
use Rattle.society_arrivals.proofs.going.whole_run.Goals as goal

pub returns-clause-looks : goal.returns-clause-looks
returns-clause-looks g c = record {
  same_reference = search rules;
  says =
      let o = c.args.office.now in
      let s = c.args.sender.now in
      let ends = c.in_ok-ends.ends in
      let begun = c.new-run.result in
      let on = c.go_on.new.run in
      let over = c.go_over.new.run in
      let old = state g.S.Store c.args.tx.now.conn.now in
      let first = state g.S.Store c.ends_in.new.tx.conn.now in
      let mid = state g.S.Store c.go_on.new.tx.conn.now in
      let new = state g.S.Store c.go_over.new.tx.conn.now in
      does_open_then old first new ends (Ok over) _ (λ before after y. (after ≡ before) × (RunsOn s begun on before.trees × RunsOver s ends 0 on y before.trees)) _ (rw c.as_bytes.ensures.bytes at c.in_ok-ends.ensures.looks.says)
      (looks_as first new tt (Ok over) (λ db _. RunsOn s begun on db × RunsOver s ends 0 on over db) (λ db y. RunsOn s begun on db × RunsOver s ends 0 on y db)
      (looks_then first mid new tt (Ok tt) (λ db _. RunsOn s begun on db) (λ db _. RunsOver s ends 0 on over db) (λ db _. RunsOn s begun on db × RunsOver s ends 0 on over db) c.in_ok-go_on.ensures.looks.says c.in_ok-go_over.ensures.looks.says (λ y goes past. (goes, past)))
      (λ both. both))
      (λ y one two.
      let both = subst (λ (db : Database). RunsOn s begun on db.trees × RunsOver s ends 0 on y db.trees) one.0 two.1 in
      (two.0 ∙ one.0, whole_by o s begun on y ends old.now.trees c.new-run.ensures one.1 both.0 both.1));
}

-- a call that fails behind two that looked looks too, whatever it would have given
failed : (old first mid new : State) (ends : SenderEnds) (fault : RowFault) (r : Result Run RowFault) (A : Trees → SenderEnds → Type 0) (B D : Trees → Unit {0} → Type 0) (C : Trees → Run → Type 0)
    → LooksOpen old first (Ok ends) A → Looks first mid (Ok tt) B → Looks mid new (Err fault) D → IsErrAnd r (λ e. e ≡ fault) → LooksOpen old new r C
failed old first mid new ends fault (Ok x) A B D C begins goes over is = absurd is
failed old first mid new ends fault (Err e) A B D C begins goes over is =
    does_open_then old first new ends (Err e) (λ before after y. (after ≡ before) × A before.trees y) (λ before after y. ⊥) (λ before after y. (after ≡ before) × C before.trees y) begins
    (does_not first new e fault _ _ (looks_then first mid new tt (Err fault) B D D goes over (λ y one two. two))) (λ y one two. absurd two)

pub returns-in_err-go_over-clause-looks : goal.returns-in_err-go_over-clause-looks
returns-in_err-go_over-clause-looks g c = record {
  same_reference = search rules;
  says =
      let s = c.args.sender.now in
      failed (state g.S.Store c.args.tx.now.conn.now) (state g.S.Store c.ends_in.new.tx.conn.now) (state g.S.Store c.go_on.new.tx.conn.now) (state g.S.Store c.go_over.new.tx.conn.now) c.in_ok-ends.ends c.in_err-go_over.field-0.0 c.from_residual-in_err-go_over.result (ReadsEnds s)
      (λ db _. RunsOn s c.new-run.result c.go_on.new.run db) (λ db _. RunsOver s c.in_ok-ends.ends 0 c.go_on.new.run c.go_over.new.run db) (IsWholeIn c.args.office.now s)
      (rw c.as_bytes.ensures.bytes at c.in_ok-ends.ensures.looks.says) c.in_ok-go_on.ensures.looks.says c.in_err-go_over.ensures.looks.says c.from_residual-in_err-go_over.ensures.1;
}

pub returns-in_err-ends-clause-err : goal.returns-in_err-ends-clause-err
returns-in_err-ends-clause-err g c =
    errs_on SenderEnds KeepsUnsound KeepsUnsound (state g.S.Store c.args.tx.now.conn.now) (state g.S.Store c.ends_in.new.tx.conn.now) c.in_err-ends.field-0.0 c.from_residual.result c.in_err-ends.ensures.err c.from_residual.ensures.1 (λ wrong. wrong)

pub returns-in_err-go_on-clause-err : goal.returns-in_err-go_on-clause-err
returns-in_err-go_on-clause-err g c =
    let s = c.args.sender.now in
    let old = state g.S.Store c.args.tx.now.conn.now in
    let first = state g.S.Store c.ends_in.new.tx.conn.now in
    let new = state g.S.Store c.go_on.new.tx.conn.now in
    errs_on (Unit {0}) KeepsUnsound KeepsUnsound old new c.in_err-go_on.field-0.0 c.from_residual-in_err-go_on.result
    (errs_then {Y = Unit {0}} KeepsUnsound KeepsUnsound old first new c.in_ok-ends.ends (Err c.in_err-go_on.field-0.0) (ReadsEnds s) (rw c.as_bytes.ensures.bytes at c.in_ok-ends.ensures.looks.says).does c.in_err-go_on.ensures.looks.says.survives c.in_err-go_on.ensures.err (λ found wrong. wrong))
    c.from_residual-in_err-go_on.ensures.1 (λ wrong. wrong)

pub returns-in_err-go_over-clause-err : goal.returns-in_err-go_over-clause-err
returns-in_err-go_over-clause-err g c =
    let s = c.args.sender.now in
    let old = state g.S.Store c.args.tx.now.conn.now in
    let first = state g.S.Store c.ends_in.new.tx.conn.now in
    let mid = state g.S.Store c.go_on.new.tx.conn.now in
    let new = state g.S.Store c.go_over.new.tx.conn.now in
    errs_on (Unit {0}) KeepsUnsound KeepsUnsound old new c.in_err-go_over.field-0.0 c.from_residual-in_err-go_over.result
    (errs_then {Y = Unit {0}} KeepsUnsound KeepsUnsound old first new c.in_ok-ends.ends (Err c.in_err-go_over.field-0.0) (ReadsEnds s) (rw c.as_bytes.ensures.bytes at c.in_ok-ends.ensures.looks.says).does
    (survives_on first mid new c.in_ok-go_on.ensures.looks.says.survives c.in_err-go_over.ensures.looks.says.survives)
    (errs_then {X = Unit {0}} {Y = Unit {0}} KeepsUnsound KeepsUnsound first mid new tt (Err c.in_err-go_over.field-0.0) (λ db _. RunsOn s c.new-run.result c.go_on.new.run db) c.in_ok-go_on.ensures.looks.says c.in_err-go_over.ensures.looks.says.survives c.in_err-go_over.ensures.err (λ found wrong. wrong))
    (λ found wrong. wrong))
    c.from_residual-in_err-go_over.ensures.1 (λ wrong. wrong)
