use Rattle.std.proofs.Common.{◌∙◌, Ok, ap, option_map, refl, sym, rules}
use Rattle.sqlite.specs.Held.{state}
use Rattle.pool_split.specs.Split.{remainder}
use Rattle.society_book.proofs.lemmas.together.StepLemmas.{looks_as}
use Rattle.society_core.specs.Candidates.{claimant_of}
use Rattle.order_credits.proofs.lemmas.OwnedLemmas.{sole_stands}
use Rattle.order_credits.proofs.lemmas.ShareLemmas.{share_is}
use Rattle.order_credits.specs.Shares.{parts_owned}
use Rattle.order_credits.proofs.sharing.share_of.Goals as goal

pub returns : goal.returns
returns g c = record {
  looks = record {
    same_reference = search rules;
    says =
        let order = c.args.order.now in
        let paid = c.args.paid.now in
        let cs = c.args.candidates.now in
        looks_as (state g.S.Store c.args.tx.now.conn.now) (state g.S.Store c.owner_of.new.tx.conn.now) c.in_ok-owner.owner (Ok _) _ _ c.in_ok-owner.ensures.looks.says
        (λ owns o b holds reached stand.
        let own = owns paid.0.0 o b holds reached (ap (option_map claimant_of) c.owner.ensures ∙ sole_stands o b order cs paid.0.0 stand) in
        share_is o b order c.args.total paid _ refl refl refl (c.remainder.ensures ∙ ap (λ n. remainder n c.args.total paid.0.1) c.amount.ensures.value) own
        (c.in_ok-parts.ensures ∙ ap (parts_owned paid.1) c.as_ref.ensures.value));
  };
}
