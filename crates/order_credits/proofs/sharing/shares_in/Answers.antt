use Rattle.std.proofs.Common.{◌∙◌, List, ap, flat_map, option_map, subst, sym, rules}
use Rattle.sqlite.specs.Held.{state}
use Rattle.society_book.proofs.lemmas.together.StepLemmas.{looks_then}
use Rattle.society_core.specs.Candidates.{rows_of_return}
use Rattle.society_core.specs.Points.{Tallies, rows_named}
use Rattle.society_core.specs.declared.return_key.ReturnKey.{ReturnKey}
use Rattle.order_credits.specs.Shares.{Played, recording_shares_by, recording_shares, shares_wanted}
use Rattle.order_credits.proofs.sharing.shares_in.Goals as goal

pub returns : goal.returns
unfolding recording_shares
returns g c = record {
  looks = record {
    same_reference = search rules;
    says =
        let o = c.args.office.now in
        let order = c.args.order.now in
        looks_then (state g.S.Store c.args.tx.now.conn.now) (state g.S.Store c.tally_of.new.tx.conn.now) (state g.S.Store c.shares_by.new.tx.conn.now) c.in_ok-tally.tally c.shares_by.result _ _ _ c.in_ok-tally.ensures.looks.says c.shares_by.ensures.looks.says
        (λ y tallied shares b holds reached.
        let its = subst (λ (ks : List ReturnKey). Tallies c.in_ok-tally.tally (flat_map (rows_of_return b) ks)) c.returns.ensures.value (tallied o b holds c.returns.ensures.limit).0 in
        shares b holds reached ∙ ap (λ (ps : List Played). shares_wanted (option_map (λ set. set.now) c.args.wanted) (recording_shares_by o b order ps)) (c.deref.ensures.value ∙ c.in_ok-played.ensures (rows_named b order) its));
  };
}
