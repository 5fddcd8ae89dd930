use Rattle.std.proofs.Common.{◌∙◌, ◌+◌, Err, IfErr, Result, Ok, ◌⊎◌, inl, inr, length, refl, sym, ap, arith, rules}
use Rattle.society_rows.specs.declared.fault.RowFault.TheVariants.{Damaged}
use Rattle.society_rows.proofs.lemmas.readings.RowFolds.{err_as}
use Rattle.society_rows.proofs.lemmas.readings.Alike.{only_one}
use Rattle.society_rows.proofs.lemmas.readings.RunFolds.{no_run_doubled, no_run_filled, none_there, runs_to_first, runs_on, run_by_medium, run_doubled, run_ends, run_fills, run_overflows, run_refused, run_refuses, run_stops, run_told}
use Rattle.society_rows.proofs.folding.fold_run.Goals as goal

pub loop-number-init : goal.loop-number-init
loop-number-init g c = record { same_reference = refl; taken = runs_to_first g.S.Store g.F.RowFold.step c.args.sender.now c.args.tx.now.conn.now c.args.first c.args.into.now }

pub returns-in-empty-clause-taken : goal.returns-in-empty-clause-taken
returns-in-empty-clause-taken g c = record {
  same_reference = search rules;
  says =
      run_ends g.S.Store g.F.RowFold.step c.args.sender.now c.args.tx.now.conn.now c.loop-number.tx.conn.now c.answer.new.tx.conn.now c.args.first c.loop-number.number c.args.into.now c.loop-number.into
      c.loop-number.auto.number c.loop-number.invariant.taken c.in_ok-rows.rows c.in_ok-rows.ensures.read.says (sym c.as_slice.ensures.value ∙ none_there _ c.in-empty.len_below);
}

pub loop-number-preserved : goal.loop-number-preserved
loop-number-preserved g c = record {
  same_reference = c.answer.ensures.read.same_reference ∙ c.loop-number.invariant.same_reference;
  taken = runs_on g.S.Store g.F.RowFold.step c.args.sender.now c.args.tx.now.conn.now c.loop-number.tx.conn.now c.answer.new.tx.conn.now c.args.first c.loop-number.number c.args.into.now c.loop-number.into
      c.loop-number.auto.number c.loop-number.invariant.taken c.in_ok-rows.rows c.in_ok-rows.ensures.read.says c.row-item.result c.take.new.self
      (sym c.as_slice.ensures.value ∙ only_one _ c.row-item.result c.in-len1.len_at_least c.in-len1.len_below c.row-item.is) c.in_ok-take-in-len1.ensures.taken;
}

pub returns-clause-taken : goal.returns-clause-taken
returns-clause-taken g c = record {
  same_reference = search rules;
  says =
      run_overflows g.S.Store g.F.RowFold.step c.args.sender.now c.args.tx.now.conn.now c.loop-number.tx.conn.now c.args.first c.loop-number.number c.args.into.now c.loop-number.into
      (omega (arith, c.loop-number-test.false, c.ranges.first.fits)) c.loop-number.invariant.taken Damaged _;
}

pub returns-in_err-take-in-len1-clause-err : goal.returns-in_err-take-in-len1-clause-err
returns-in_err-take-in-len1-clause-err g c =
    run_refused g.S.Store g.F.RowFold.step c.args.sender.now c.args.tx.now.conn.now c.loop-number.tx.conn.now c.answer.new.tx.conn.now c.args.first c.loop-number.number c.args.into.now c.loop-number.into
    c.loop-number.auto.number c.loop-number.invariant.taken c.in_ok-rows.rows c.in_ok-rows.ensures.read.says c.row-item.result g.F.RowFold.refusal c.from_residual-in_err-take-in-len1.result
    (sym c.as_slice.ensures.value ∙ only_one _ c.row-item.result c.in-len1.len_at_least c.in-len1.len_below c.row-item.is)
    (err_as c.from_residual-in_err-take-in-len1.result c.in_err-take-in-len1.field-0.0 _ c.from_residual-in_err-take-in-len1.ensures.1 c.in_err-take-in-len1.ensures.err)

pub returns-in_default-clause-err : goal.returns-in_default-clause-err
returns-in_default-clause-err g c =
    run_doubled g.S.Store g.F.RowFold.step c.args.sender.now c.args.tx.now.conn.now c.loop-number.tx.conn.now c.answer.new.tx.conn.now c.args.first c.loop-number.number c.args.into.now c.loop-number.into
    c.loop-number.auto.number c.loop-number.invariant.taken c.in_ok-rows.rows c.in_ok-rows.ensures.read.says g.F.RowFold.refusal (omega (arith, c.in_default.len_at_least, ap length c.as_slice.ensures.value))

pub returns-in_ok-take-in-len1-clause-err : goal.returns-in_ok-take-in-len1-clause-err
returns-in_ok-take-in-len1-clause-err g c =
    let on = runs_on g.S.Store g.F.RowFold.step c.args.sender.now c.args.tx.now.conn.now c.loop-number.tx.conn.now c.answer.new.tx.conn.now c.args.first c.loop-number.number c.args.into.now c.loop-number.into
    c.loop-number.auto.number c.loop-number.invariant.taken c.in_ok-rows.rows c.in_ok-rows.ensures.read.says c.row-item.result c.take.new.self
    (sym c.as_slice.ensures.value ∙ only_one _ c.row-item.result c.in-len1.len_at_least c.in-len1.len_below c.row-item.is) c.in_ok-take-in-len1.ensures.taken in
    run_fills g.S.Store g.F.RowFold.step g.F.RowFold.refusal c.args.sender.now c.args.tx.now.conn.now c.answer.new.tx.conn.now c.args.first (c.loop-number.number + 1) c.args.into.now c.take.new.self (omega (arith, c.loop-number-test.true, c.ranges.first.fits)) on

pub returns-in_err-rows-clause-err : goal.returns-in_err-rows-clause-err
returns-in_err-rows-clause-err g c =
    run_told g.S.Store g.F.RowFold.step c.args.sender.now c.args.tx.now.conn.now c.loop-number.tx.conn.now c.answer.new.tx.conn.now c.args.first c.loop-number.number c.args.into.now c.loop-number.into
    c.loop-number.auto.number c.loop-number.invariant.taken g.F.RowFold.refusal c.in_err-rows.field-0.0 c.from_residual.result c.from_residual.ensures.1 c.in_err-rows.ensures.read.says.survives c.in_err-rows.ensures.err

pub returns-in_err-take-in-len1-clause-taken : goal.returns-in_err-take-in-len1-clause-taken
returns-in_err-take-in-len1-clause-taken g c = record {
  same_reference = search rules;
  says =
      run_stops g.S.Store g.F.RowFold.step c.args.sender.now c.args.tx.now.conn.now c.loop-number.tx.conn.now c.answer.new.tx.conn.now c.args.first c.loop-number.number c.args.into.now c.loop-number.into
      c.loop-number.auto.number c.loop-number.invariant.taken c.in_ok-rows.rows c.in_ok-rows.ensures.read.says c.from_residual-in_err-take-in-len1.result c.from_residual-in_err-take-in-len1.ensures.0 _;
}

pub returns-in-empty-clause-medium : goal.returns-in-empty-clause-medium
returns-in-empty-clause-medium g c = inl (λ clean has. tt)

pub returns-in_err-rows-clause-medium : goal.returns-in_err-rows-clause-medium
returns-in_err-rows-clause-medium g c =
    inl (run_by_medium g.S.Store g.F.RowFold.step c.args.sender.now c.args.tx.now.conn.now c.loop-number.tx.conn.now c.answer.new.tx.conn.now c.args.first c.loop-number.number c.args.into.now c.loop-number.into
    c.loop-number.auto.number c.loop-number.invariant.taken c.in_err-rows.field-0.0 c.from_residual.result c.from_residual.ensures.1 c.in_err-rows.ensures.read.says.survives c.in_err-rows.ensures.medium)

either : {X : Type 0} (P Q : X → Type 0) (r : Result (Unit {0}) X) → IfErr r P → IfErr r (λ x. P x ⊎ Q x)
either P Q (Ok x) h = tt
either P Q (Err x) h = inl h

pub returns-in_err-take-in-len1-clause-medium : goal.returns-in_err-take-in-len1-clause-medium
returns-in_err-take-in-len1-clause-medium g c =
    inr (either _ _ c.from_residual-in_err-take-in-len1.result (run_refuses g.S.Store g.F.RowFold.step c.args.sender.now c.args.tx.now.conn.now c.loop-number.tx.conn.now c.answer.new.tx.conn.now c.args.first c.loop-number.number c.args.into.now c.loop-number.into
    c.loop-number.auto.number c.loop-number.invariant.taken c.in_ok-rows.rows c.in_ok-rows.ensures.read.says c.row-item.result g.F.RowFold.refusal c.from_residual-in_err-take-in-len1.result
    (sym c.as_slice.ensures.value ∙ only_one _ c.row-item.result c.in-len1.len_at_least c.in-len1.len_below c.row-item.is)
    (err_as c.from_residual-in_err-take-in-len1.result c.in_err-take-in-len1.field-0.0 _ c.from_residual-in_err-take-in-len1.ensures.1 c.in_err-take-in-len1.ensures.err)))

pub returns-in_default-clause-medium : goal.returns-in_default-clause-medium
returns-in_default-clause-medium g c =
    inr (inr (
      refl,
      no_run_doubled g.S.Store g.F.RowFold.step c.args.sender.now c.args.tx.now.conn.now c.loop-number.tx.conn.now c.answer.new.tx.conn.now c.args.first c.loop-number.number c.args.into.now c.loop-number.into
          c.loop-number.auto.number c.loop-number.invariant.taken c.in_ok-rows.rows c.in_ok-rows.ensures.read.says (omega (arith, c.in_default.len_at_least, ap length c.as_slice.ensures.value)),
    ))

pub returns-in_ok-take-in-len1-clause-medium : goal.returns-in_ok-take-in-len1-clause-medium
returns-in_ok-take-in-len1-clause-medium g c =
    let on = runs_on g.S.Store g.F.RowFold.step c.args.sender.now c.args.tx.now.conn.now c.loop-number.tx.conn.now c.answer.new.tx.conn.now c.args.first c.loop-number.number c.args.into.now c.loop-number.into
    c.loop-number.auto.number c.loop-number.invariant.taken c.in_ok-rows.rows c.in_ok-rows.ensures.read.says c.row-item.result c.take.new.self
    (sym c.as_slice.ensures.value ∙ only_one _ c.row-item.result c.in-len1.len_at_least c.in-len1.len_below c.row-item.is) c.in_ok-take-in-len1.ensures.taken in
    inr (inr (refl, no_run_filled g.S.Store g.F.RowFold.step c.args.sender.now c.args.tx.now.conn.now c.answer.new.tx.conn.now c.args.first (c.loop-number.number + 1) c.args.into.now c.take.new.self (omega (arith, c.loop-number-test.true, c.ranges.first.fits)) on))
