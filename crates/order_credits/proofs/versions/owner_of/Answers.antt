use Rattle.std.proofs.Common.{Ok, Some, None, refl, rules}
use Rattle.sqlite.specs.Held.{state}
use Rattle.society_book.proofs.lemmas.together.StepLemmas.{looks_as, nothing}
use Rattle.society_core.specs.Owners.{owner}
use Rattle.order_credits.proofs.lemmas.OwnedLemmas.{none_owned, some_owned}
use Rattle.order_credits.proofs.versions.owner_of.Goals as goal

pub returns-in_default : goal.returns-in_default
returns-in_default g c = record {
  looks = record {
    same_reference = search rules;
    says = nothing (state g.S.Store c.args.tx.now.conn.now) (Ok None) _
        (λ isrc o b holds reached same. none_owned o b c.args.order.now (owner o b c.args.order.now isrc) (rw c.in_default.is at same));
  };
}

pub returns : goal.returns
returns g c = record {
  looks = record {
    same_reference = search rules;
    says =
        let order = c.args.order.now in
        looks_as (state g.S.Store c.args.tx.now.conn.now) (state g.S.Store c.revision_of.new.tx.conn.now) c.in_ok-revision.revision (Ok (Some _)) _ _ c.in_ok-revision.ensures.looks.says
        (λ has isrc o b holds reached same. some_owned o b order (owner o b order isrc) c.in-Some.candidate.now _ (rw c.in-Some.is at same) refl refl c.in_ok-share.ensures (has o b holds reached));
  };
}
