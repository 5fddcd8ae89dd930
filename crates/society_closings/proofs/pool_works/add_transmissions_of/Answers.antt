use Rattle.std.proofs.Common.{[], ◌∷◌, Err, IfOk, Ok, Result, rules}
use Rattle.std.specs.List.{AllByRecursion}
use Rattle.std.specs.Prelude.{Vec}
use Rattle.std.specs.declared.alloc.Global.{Global}
use Rattle.society_book.proofs.lemmas.together.ErrLemmas.{blames_where, errs_as, errs_of, errs_on}
use Rattle.society_book.proofs.lemmas.together.StepLemmas.{looks_as, looks_of}
use Rattle.society_book.specs.Readable.{IsVersionRow}
use Rattle.society_closings.proofs.lemmas.cuts.FaultLemmas.{listed_hold}
use Rattle.society_closings.proofs.lemmas.cuts.ReadRows.{versions_readable}
use Rattle.society_closings.specs.Blamed.{HoldNoWorks}
use Rattle.society_rows.specs.Layout as layout
use Rattle.society_rows.specs.Reads.{has_key}
use Rattle.society_rows.specs.declared.fault.RowFault.{RowFault}
use Rattle.sqlite.specs.Held.{state}
use Rattle.sqlite_value.specs.Order.{Row}
use Rattle.sqlite_value.specs.declared.value.Value.TheVariants.{Text}
use Rattle.society_closings.proofs.pool_works.add_transmissions_of.Goals as goal

-- an answer of which nothing is said
nothing_said : (r : Result (Unit {0}) RowFault) → IfOk r (λ _. Unit {0})
nothing_said (Ok x) = tt
nothing_said (Err fault) = tt

pub returns-clause-looks : goal.returns-clause-looks
returns-clause-looks g c = record {
  same_reference = search rules;
  says =
      let old = state g.S.Store c.args.tx.now.conn.now in
      let new = state g.S.Store c.answer.new.tx.conn.now in
      looks_as old new _ c.add_rows.result _ _ (looks_of old new (Ok _) _ c.in_ok-rows.ensures.read.says) (λ lists. nothing_said c.add_rows.result);
}

pub returns-in_err-rows-clause-err : goal.returns-in_err-rows-clause-err
returns-in_err-rows-clause-err g c =
    let old = state g.S.Store c.args.tx.now.conn.now in
    let new = state g.S.Store c.answer.new.tx.conn.now in
    errs_on (Vec Row Global) HoldNoWorks HoldNoWorks old new _ c.from_residual.result (errs_of {X = Vec Row Global} HoldNoWorks old new (Err _) c.in_err-rows.ensures.err c.in_err-rows.ensures.medium) c.from_residual.ensures.1 (λ h. h)

pub returns-clause-err : goal.returns-clause-err
returns-clause-err g c =
    let old = state g.S.Store c.args.tx.now.conn.now in
    let new = state g.S.Store c.answer.new.tx.conn.now in
    let rows = c.as_slice.result.now in
    errs_as HoldNoWorks old new _ c.add_rows.result _ (looks_of old new (Ok _) _ c.in_ok-rows.ensures.read.says)
    (λ lists. blames_where (AllByRecursion IsVersionRow rows → ⊥) (HoldNoWorks old.now.trees) c.add_rows.result c.add_rows.ensures.blames
    (λ no o b holds. no (listed_hold IsVersionRow layout.versions (has_key (Text c.as_bytes.result.now ∷ Text c.as_bytes-2.result.now ∷ [])) 3 old.now.trees _ rows lists c.as_slice.ensures.value (versions_readable o b old.now.trees holds))))
