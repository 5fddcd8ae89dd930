use Rattle.std.proofs.Common.{ℕ, ap, ◌∙◌, sym}
use Rattle.share_rules.specs.Blocks.{descend, halves}
use Rattle.share_rules.proofs.lemmas.Blocks.{place_missed, place_there}
use Rattle.share_rules.proofs.party_keys.PartyKeys.place.Goals as goal

pub returns-then-self-place-clause-place : goal.returns-then-self-place-clause-place
returns-then-self-place-clause-place c =
    let at = c.descend-place.ensures.place ∙ ap (λ (k : ℕ). descend c.args.self.now.keys k halves 0) c.party_key-key.ensures.key in
    sym (place_there c.args.self.now.keys c.args.side c.args.number.now c.descend-place.result at (c.if-self-place.true ∙ c.party_key-key.ensures.key))

pub returns-else-self-place-clause-place : goal.returns-else-self-place-clause-place
returns-else-self-place-clause-place c =
    let at = c.descend-place.ensures.place ∙ ap (λ (k : ℕ). descend c.args.self.now.keys k halves 0) c.party_key-key.ensures.key in
    sym (place_missed c.args.self.now.keys c.args.side c.args.number.now c.descend-place.result at (λ e. c.if-self-place.false (e ∙ sym c.party_key-key.ensures.key)))
