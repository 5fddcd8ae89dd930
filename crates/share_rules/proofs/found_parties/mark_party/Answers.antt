use Rattle.std.proofs.Common.{◌<◌, ℕ, true, List, [], ◌∷◌, ◌++◌, length, sym, arith}
use Rattle.std.specs.List.{list_any}
use Rattle.share_rules.specs.Parties.{is_interested_party}
use Rattle.share_rules.specs.declared.party.Side.{Side}
use Rattle.share_rules.proofs.lemmas.Blocks.{answers_set, answers_stay}
use Rattle.share_rules.proofs.lemmas.Found.{party_found, party_passes}
use Rattle.share_rules.proofs.found_parties.mark_party.Goals as goal

pub returns-in-Some : goal.returns-in-Some
returns-in-Some c r is before kept =
    let party = c.args.party.now in
    let values = c.args.found.now in
    let room : c.in-Some.place < length values = omega (arith, c.requires, c.in-Some.ensures.within) in
    answers_set (λ (s : Side) (n : List ℕ). list_any (is_interested_party s n) before) (λ (s : Side) (n : List ℕ). list_any (is_interested_party s n) (before ++ r ∷ [])) c.args.keys.now.keys values party.side party.number c.in-Some.place true (sym c.in-Some.ensures.place) c.in-Some.ensures.bytes room
    (λ t m other. party_passes t m before r party is other)
    (λ t m d same was. party_found t m before r party is same)
    kept

pub returns-in_default : goal.returns-in_default
returns-in_default c r is before kept =
    let party = c.args.party.now in
    answers_stay (λ (s : Side) (n : List ℕ). list_any (is_interested_party s n) before) (λ (s : Side) (n : List ℕ). list_any (is_interested_party s n) (before ++ r ∷ [])) c.args.keys.now.keys c.args.found.now party.side party.number (sym c.in_default.ensures.place)
    (λ t m other. party_passes t m before r party is other)
    kept
