use Rattle.std.proofs.Common.{◌≡◌, ◌∙◌, ◌+◌, ℕ, ap, arith, rules}
use Rattle.sqlite.specs.Held.{state}
use Rattle.society_arrivals.proofs.lemmas.RunErrs.{run_errs}
use Rattle.society_arrivals.proofs.lemmas.RunFolds.{taken_runs}
use Rattle.society_book.proofs.lemmas.together.StepLemmas.{does_also, looks_inside}
use Rattle.society_arrivals.proofs.going.go_on.Goals as goal

pub returns-in-Some-clause-looks : goal.returns-in-Some-clause-looks
returns-in-Some-clause-looks g c = record {
  same_reference = search rules;
  says =
      let s = c.args.sender.now in
      let run = c.args.run.now in
      let old = state g.S.Store c.args.tx.now.conn.now in
      let new = state g.S.Store c.fold_run.new.tx.conn.now in
      let at : c.in-Some.next ≡ run.reached + 1 = c.in-Some.ensures.1 ∙ ap (λ (k : ℕ). k + 1) c.front.ensures in
      does_also old new c.fold_run.result _ _ (looks_inside old new c.fold_run.result _ (rw c.as_bytes.ensures.bytes at c.fold_run.ensures.taken.says))
      (λ x both. (both.0, taken_runs s c.in-Some.next run c.fold_run.new.into old.now.trees at both.1));
}

pub returns-in-Some-clause-err : goal.returns-in-Some-clause-err
returns-in-Some-clause-err g c =
    run_errs c.args.sender.now c.in-Some.next c.args.run.now (state g.S.Store c.args.tx.now.conn.now) (state g.S.Store c.fold_run.new.tx.conn.now) c.fold_run.result (omega arith)
    (rw c.as_bytes.ensures.bytes at c.fold_run.ensures.err) (rw c.as_bytes.ensures.bytes at c.fold_run.ensures.medium)
