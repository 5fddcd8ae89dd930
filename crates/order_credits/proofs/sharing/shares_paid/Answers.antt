use Rattle.std.proofs.Common.{◌≡◌, ◌∙◌, ◌++◌, ◌∷◌, [], List, ℕ, Ok, Some, ap, arith, map, option_map, refl, subst, sym, take, true, rules}
use Rattle.std.proofs.lemmas.List.{take_all, take_more}
use Rattle.sqlite.specs.Held.{state}
use Rattle.sqlite_trees.proofs.ListLemmas.{all-get_or}
use Rattle.society_book.proofs.lemmas.together.StepLemmas.{looks_as, looks_then, nothing}
use Rattle.order_credits.proofs.lemmas.ShareLemmas.{shares_more}
use Rattle.order_credits.specs.Looked.{StandAt}
use Rattle.order_credits.specs.Shares.{Played, is_wanted, recording_share, shares_wanted}
use Rattle.order_credits.specs.declared.share.RecordingShare.{RecordingShare}
use Rattle.order_credits.proofs.sharing.shares_paid.Goals as goal

pub loop-recording-init : goal.loop-recording-init
loop-recording-init g c = record {
  same_reference = refl;
  looks = nothing (state g.S.Store c.args.tx.now.conn.now) (Ok tt) _ (λ o b holds reached stand. c.new-shares.ensures.items);
}

pub loop-recording-preserved : goal.loop-recording-preserved
loop-recording-preserved g c =
    let paid = c.args.paid.now in
    let order = c.args.order.now in
    let wanted = option_map (λ set. set.now) c.args.wanted in
    let i = c.loop-recording.recording-index in
    let p = c.recording-item.result in
    let old = state g.S.Store c.args.tx.now.conn.now in
    let mid = state g.S.Store c.loop-recording.tx.conn.now in
    let new = state g.S.Store c.add_share.new.tx.conn.now in
    record {
      same_reference = c.add_share.ensures.looks.same_reference ∙ c.loop-recording.invariant.same_reference;
      looks = looks_then old mid new tt (Ok tt) _ _ _ c.loop-recording.invariant.looks c.in_ok-add_share.ensures.looks.says
          (λ y first second o b holds reached stand.
          let here : is_wanted wanted (Some p.0.0) ≡ true → StandAt o b order c.args.candidates.now p.0.0 =
          subst (λ (q : Played × ℕ). is_wanted wanted (Some q.0.0) ≡ true → StandAt o b order c.args.candidates.now q.0.0) (sym c.recording-item.is)
          (all-get_or (λ (q : Played × ℕ). is_wanted wanted (Some q.0.0) ≡ true → StandAt o b order c.args.candidates.now q.0.0) paid i p stand c.loop-recording-test.true) in
          second o b holds reached here
          ∙ ap (λ (l : List RecordingShare). l ++ shares_wanted wanted (recording_share o b order c.args.total p ∷ [])) (first o b holds reached stand)
          ∙ sym (ap (λ (l : List (Played × ℕ)). shares_wanted wanted (map (recording_share o b order c.args.total) l)) (take_more paid i p c.loop-recording-test.true ∙ ap (λ (q : Played × ℕ). take i paid ++ q ∷ []) (sym c.recording-item.is)) ∙ shares_more o b order c.args.total wanted (take i paid) p));
    }

pub returns : goal.returns
returns g c = record {
  looks = record {
    same_reference = search rules;
    says =
        looks_as (state g.S.Store c.args.tx.now.conn.now) (state g.S.Store c.loop-recording.tx.conn.now) tt (Ok c.loop-recording.shares) _ _ c.loop-recording.invariant.looks
        (λ all o b holds reached stand. all o b holds reached stand
        ∙ ap (λ (l : List (Played × ℕ)). shares_wanted (option_map (λ set. set.now) c.args.wanted) (map (recording_share o b c.args.order.now c.args.total) l)) (take_all c.loop-recording.recording-index c.args.paid.now c.loop-recording-test.false));
  };
}
