use Rattle.std.proofs.Common.{◌∙◌, pos, sym, w64, Ok, inl, inr, refl, ap, arith, length, rules}
use Rattle.std.proofs.lemmas.Int.{to_z-of_z}
use Rattle.sqlite.specs.Held.{state}
use Rattle.society_rows.specs.Balances.{HasUnits, HidesUnits}
use Rattle.society_rows.proofs.lemmas.changes.Effects.{handed_on}
use Rattle.society_rows.proofs.lemmas.readings.Alike.{only_one}
use Rattle.society_rows.proofs.lemmas.readings.RunFolds.{none_there}
use Rattle.society_rows.proofs.lemmas.changes.Units.{no_units, one_balance, reads_inside, two_rows, unread_row}
use Rattle.society_rows.proofs.balances.units_of.Goals as goal

pub returns-in-empty-clause-read : goal.returns-in-empty-clause-read
returns-in-empty-clause-read g c = record {
  same_reference = search rules;
  says =
      reads_inside (state g.S.Store c.args.tx.now.conn.now) (state g.S.Store c.answer.new.tx.conn.now) c.in_ok-rows.rows (Ok (pos 0)) _ (HasUnits c.args.account.now) c.in_ok-rows.ensures.read.says
      (λ db. no_units c.args.account.now db c.in_ok-rows.rows.items (sym c.as_slice.ensures.value ∙ none_there _ c.in-empty.len_below));
}

pub returns-in-len1-clause-read : goal.returns-in-len1-clause-read
returns-in-len1-clause-read g c = record {
  same_reference = search rules;
  says =
      let units = c.in_ok-from_row-in-len1.field-0.units in
      rw (to_z-of_z w64 units c.in_ok-from_row-in-len1.ensures.range)
      (reads_inside (state g.S.Store c.args.tx.now.conn.now) (state g.S.Store c.answer.new.tx.conn.now) c.in_ok-rows.rows (Ok units) _ (HasUnits c.args.account.now) c.in_ok-rows.ensures.read.says
      (λ db. one_balance c.args.account.now c.in_ok-from_row-in-len1.field-0.account.now units db c.in_ok-rows.rows.items c.row-item.result
      (sym c.as_slice.ensures.value ∙ only_one _ c.row-item.result c.in-len1.len_at_least c.in-len1.len_below c.row-item.is) c.in_ok-from_row-in-len1.ensures.value));
}

pub returns-in_err-rows-clause-cause : goal.returns-in_err-rows-clause-cause
returns-in_err-rows-clause-cause g c = λ clean has.
    handed_on c.in_err-rows.field-0.0 c.from_residual.result (HidesUnits c.args.account.now (state g.S.Store c.args.tx.now.conn.now).now.trees) c.from_residual.ensures.1 (inl (c.in_err-rows.ensures.err clean has))

pub returns-in_err-from_row-in-len1-clause-cause : goal.returns-in_err-from_row-in-len1-clause-cause
returns-in_err-from_row-in-len1-clause-cause g c = λ clean has.
    let db = (state g.S.Store c.args.tx.now.conn.now).now.trees in
    handed_on c.in_err-from_row-in-len1.field-0.0 c.from_residual-in_err-from_row-in-len1.result (HidesUnits c.args.account.now db) c.from_residual-in_err-from_row-in-len1.ensures.1
    (inr (
      c.in_err-from_row-in-len1.ensures.err,
      unread_row c.args.account.now db c.in_ok-rows.rows.items c.row-item.result (sym c.as_slice.ensures.value ∙ only_one _ c.row-item.result c.in-len1.len_at_least c.in-len1.len_below c.row-item.is)
          (λ of. let is = c.in_err-from_row-in-len1.ensures.read of in absurd cc) (c.in_ok-rows.ensures.read.says.found clean has),
    ))

pub returns-clause-cause : goal.returns-clause-cause
returns-clause-cause g c = λ clean has.
    inr (refl, two_rows c.args.account.now (state g.S.Store c.args.tx.now.conn.now).now.trees c.in_ok-rows.rows.items (omega (arith, c.in_default.len_at_least, ap length c.as_slice.ensures.value)) (c.in_ok-rows.ensures.read.says.found clean has))
