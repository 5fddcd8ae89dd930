use Rattle.std.proofs.Common.{◌≡◌, length, rules}
use Rattle.society_host.proofs.lemmas.ExaminedLemmas.{bare_from, bare_to}
use Rattle.society_host.proofs.examining.is_bare.Goals as goal

pub returns-clause-ok : goal.returns-clause-ok
returns-clause-ok g c known =
    let len : length c.read_at.new.buffer ≡ 105 = search rules in
    let held = c.in-Ok-read_at.ensures.ok known in
    (λ yes'. bare_from _ _ held len (c.is_bare_by.ensures.0 yes'), λ bare. c.is_bare_by.ensures.1 (bare_to _ _ held len bare))
