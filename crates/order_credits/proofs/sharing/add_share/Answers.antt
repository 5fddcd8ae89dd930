use Rattle.std.proofs.Common.{◌≡◌, ◌∙◌, ◌++◌, ◌∷◌, [], List, Ok, ap, append-nil, not, sym, rules}
use Rattle.sqlite.specs.Held.{state}
use Rattle.society_book.proofs.lemmas.together.StepLemmas.{looks_as, nothing}
use Rattle.order_credits.proofs.lemmas.ShareLemmas.{none_wanted, one_wanted}
use Rattle.order_credits.specs.Shares.{recording_share}
use Rattle.order_credits.specs.declared.share.RecordingShare.{RecordingShare}
use Rattle.order_credits.proofs.sharing.add_share.Goals as goal

pub returns-then-not-is_wanted : goal.returns-then-not-is_wanted
returns-then-not-is_wanted g c = record {
  looks = record {
    same_reference = search rules;
    says = nothing (state g.S.Store c.args.tx.now.conn.now) (Ok tt) _
        (λ o b holds reached stand. sym (append-nil c.args.shares.now.items) ∙ ap (λ (l : List RecordingShare). c.args.shares.now.items ++ l) (none_wanted _ (recording_share o b c.args.order.now c.args.total c.args.paid.now) (sym c.is_wanted.ensures ∙ c.if-not-is_wanted.true)));
  };
}

pub returns : goal.returns
returns g c = record {
  looks = record {
    same_reference = search rules;
    says =
        let old = c.args.shares.now.items in
        looks_as (state g.S.Store c.args.tx.now.conn.now) (state g.S.Store c.share_of.new.tx.conn.now) c.in_ok-share.share (Ok tt) _ _ c.in_ok-share.ensures.looks.says
        (λ is o b holds reached stand.
        let want = sym c.is_wanted.ensures ∙ c.if-not-is_wanted.false in
        let its = recording_share o b c.args.order.now c.args.total c.args.paid.now in
        c.in_ok-push.ensures.items
        ∙ ap (λ (s : RecordingShare). old ++ s ∷ []) (is o b holds reached (stand want))
        ∙ ap (λ (l : List RecordingShare). old ++ l) (one_wanted _ its want));
  };
}
