use Rattle.std.proofs.Common.{◌≡◌, ◌++◌, ◌∷◌, ◌+◌, [], List, take, flat_map, sym, ap, subst, ◌∙◌}
use Rattle.std.proofs.lemmas.List.{take_more, take_all}
use Rattle.society_core.specs.Points.{is_tallied}
use Rattle.society_core.specs.Candidates.{StandFor}
use Rattle.society_core.specs.Owners.{CutWork, versions_at_cut}
use Rattle.society_core.specs.declared.transmission_key.TransmissionKey.{TransmissionKey}
use Rattle.society_core.proofs.lemmas.CandidateLemmas.{reached_at, works_push}
use Rattle.society_core.proofs.candidates.candidates_of.Goals as goal
use Rattle.society_core.specs.Pools.{holders_of}

pub add_sender-requires-clause-applied : goal.add_sender-requires-clause-applied
add_sender-requires-clause-applied c = reached_at c.args.book.now c.args.order.now c.cut-key-items.result.now c.loop-key.key-index c.key-item.result c.requires.reached c.cut-key-items.ensures.value c.key-item.is c.loop-key-test.true

pub loop-key-preserved : goal.loop-key-preserved
loop-key-preserved c =
    let keys = c.cut-key-items.result.now in
    let so_far = take c.loop-key.key-index keys in
    let next : take (c.loop-key.key-index + 1) keys ≡ so_far ++ c.key-item.result ∷ [] = take_more keys c.loop-key.key-index c.key-item.result c.loop-key-test.true ∙ ap (λ (k : TransmissionKey). so_far ++ k ∷ []) (sym c.key-item.is) in
    subst (λ (ws : List CutWork). StandFor (holders_of c.args.kind c.args.office.now) (is_tallied c.args.tally.now) ws c.add_sender.new.candidates.items)
    (sym (ap (flat_map (versions_at_cut c.args.office.now c.args.book.now)) next ∙ works_push c.args.office.now c.args.book.now so_far c.key-item.result))
    (c.in_ok-add_sender.ensures (flat_map (versions_at_cut c.args.office.now c.args.book.now) so_far) c.loop-key.invariant)

pub returns : goal.returns
returns c =
    let keys = c.cut-key-items.result.now in
    subst (λ (ks : List TransmissionKey). StandFor (holders_of c.args.kind c.args.office.now) (is_tallied c.args.tally.now) (flat_map (versions_at_cut c.args.office.now c.args.book.now) ks) c.loop-key.candidates.items) (take_all c.loop-key.key-index keys c.loop-key-test.false ∙ c.cut-key-items.ensures.value) c.loop-key.invariant
