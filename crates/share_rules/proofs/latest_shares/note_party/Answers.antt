use Rattle.std.proofs.Common.{◌<◌, ℕ, None, List, ◌∷◌, length, sym, arith}
use Rattle.share_rules.specs.Blocks.{latest}
use Rattle.share_rules.specs.declared.party.Side.{Side}
use Rattle.share_rules.proofs.lemmas.Blocks.{answers_set, answers_stay}
use Rattle.share_rules.proofs.lemmas.Latest.{party_ends, party_passes}
use Rattle.share_rules.proofs.latest_shares.note_party.Goals as goal

pub returns-in-Some : goal.returns-in-Some
returns-in-Some c office r is more kept =
    let party = c.args.party.now in
    let values = c.args.latest.now in
    let room : c.in-Some.place < length values = omega (arith, c.requires, c.in-Some.ensures.within) in
    answers_set (λ (s : Side) (n : List ℕ). latest office s n more) (λ (s : Side) (n : List ℕ). latest office s n (r ∷ more)) c.args.keys.now.keys values party.side party.number c.in-Some.place None (sym c.in-Some.ensures.place) c.in-Some.ensures.bytes room
    (λ t m other. party_passes office t m r more party is other)
    (λ t m d same was. party_ends office t m r more party is same)
    kept

pub returns-in_default : goal.returns-in_default
returns-in_default c office r is more kept =
    let party = c.args.party.now in
    answers_stay (λ (s : Side) (n : List ℕ). latest office s n more) (λ (s : Side) (n : List ℕ). latest office s n (r ∷ more)) c.args.keys.now.keys c.args.latest.now party.side party.number (sym c.in_default.ensures.place)
    (λ t m other. party_passes office t m r more party is other)
    kept
