use Rattle.std.proofs.Common.{◌∙◌, ◌≤◌, List, ℕ, Ok, ap, bytes_eq, flat_map, length, subst, sym, rules}
use Rattle.std.specs.List.{list_any}
use Rattle.society_book.proofs.lemmas.together.ErrLemmas.{blames_memory, errs_as, errs_on}
use Rattle.society_book.proofs.lemmas.together.StepLemmas.{looks_as}
use Rattle.society_closings.proofs.lemmas.cuts.CutLists.{wants_alike}
use Rattle.society_closings.specs.Blamed.{LackReturns}
use Rattle.society_closings.specs.CutWorks.{Wants}
use Rattle.society_core.specs.Candidates.{rows_of_return}
use Rattle.society_core.specs.Points.{Tallies, is_tallied}
use Rattle.society_core.specs.declared.points.Tally.{Tally}
use Rattle.society_core.specs.declared.return_key.ReturnKey.{ReturnKey}
use Rattle.society_core.specs.declared.transmission_key.TransmissionKey.{TransmissionKey}
use Rattle.sqlite.specs.Held.{state}
use Rattle.society_closings.proofs.wanted.Wanted.add_order.Goals as goal

pub returns-clause-wants : goal.returns-clause-wants
returns-clause-wants g c =
    let tally = c.in_ok-tally.tally in
    let new = c.add.new.self in
    let cut = c.args.order.now.cut in
    let asked = λ (q : List ℕ). c.in_ok-recordings.ensures.tallied q ∙ sym (ap (λ (xs : List (List ℕ)). list_any (bytes_eq q) xs) c.as_slice.ensures.value) in
    λ s q is. subst (λ (keys : List TransmissionKey). Wants new keys (λ isrc. list_any (bytes_eq isrc) c.as_slice.result.now)) c.cut.ensures.value c.in_ok-add.ensures.wants s q (wants_alike cut (is_tallied tally) (λ isrc. list_any (bytes_eq isrc) c.as_slice.result.now) asked s q is)

pub returns-clause-looks : goal.returns-clause-looks
returns-clause-looks g c = record {
  same_reference = search rules;
  says =
      let tally = c.in_ok-tally.tally in
      looks_as (state g.S.Store c.args.tx.now.conn.now) (state g.S.Store c.tally_of.new.tx.conn.now) tally (Ok tally) _ _ c.in_ok-tally.ensures.looks.says
      (λ all o b holds. let its = all o b holds c.returns.ensures.limit in (
        subst (λ (ks : List ReturnKey). Tallies tally (flat_map (rows_of_return b) ks)) c.returns.ensures.value its.0,
        subst (λ (ks : List ReturnKey). length (flat_map (rows_of_return b) ks) ≤ 10000000) c.returns.ensures.value its.1,
      ));
}

pub returns-in_err-tally-clause-err : goal.returns-in_err-tally-clause-err
returns-in_err-tally-clause-err g c =
    let order = c.args.order.now in
    errs_on Tally (LackReturns order.returns) (LackReturns order.returns) (state g.S.Store c.args.tx.now.conn.now) (state g.S.Store c.tally_of.new.tx.conn.now) _ c.from_residual.result
    (rw c.returns.ensures.value at c.in_err-tally.ensures.err) c.from_residual.ensures.1 (λ no. no)

pub returns-in_err-recordings-clause-err : goal.returns-in_err-recordings-clause-err
returns-in_err-recordings-clause-err g c =
    let old = state g.S.Store c.args.tx.now.conn.now in
    errs_as (LackReturns c.args.order.now.returns) old (state g.S.Store c.tally_of.new.tx.conn.now) c.in_ok-tally.tally c.from_residual-in_err-recordings.result _ c.in_ok-tally.ensures.looks.says
    (λ all. blames_memory (LackReturns c.args.order.now.returns old.now.trees) c.from_residual-in_err-recordings.result c.from_residual-in_err-recordings.ensures.1)

pub returns-in_err-add-clause-err : goal.returns-in_err-add-clause-err
returns-in_err-add-clause-err g c =
    let old = state g.S.Store c.args.tx.now.conn.now in
    errs_as (LackReturns c.args.order.now.returns) old (state g.S.Store c.tally_of.new.tx.conn.now) c.in_ok-tally.tally c.from_residual-in_err-add.result _ c.in_ok-tally.ensures.looks.says
    (λ all. blames_memory (LackReturns c.args.order.now.returns old.now.trees) c.from_residual-in_err-add.result c.from_residual-in_err-add.ensures.1)
