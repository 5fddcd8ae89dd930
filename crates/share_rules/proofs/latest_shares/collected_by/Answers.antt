use Rattle.std.proofs.Common.{Option, sym, ap, ◌∙◌, unwrap_or}
use Rattle.share_rules.specs.Parties.{no_shares}
use Rattle.share_rules.specs.declared.shares.Shares.{Shares}
use Rattle.share_rules.proofs.lemmas.Latest.{latest_collected}
use Rattle.share_rules.proofs.latest_shares.collected_by.Goals as goal

pub returns-in-Some : goal.returns-in-Some
returns-in-Some c =
    let party = c.args.party.now in
    let held = c.index-latest-place.is ∙ c.requires.latest party.side party.number c.in-Some.place c.index-latest-place.result c.in-Some.ensures.bytes (sym c.in-Some.ensures.place) in
    let u = c.unwrap_or.ensures in
    let n = c.none.ensures in
    c.unwrap_or.ensures
    ∙ ap (λ (s : Shares). unwrap_or c.index-latest-place.result s) c.none.ensures
    ∙ ap (λ (o : Option Shares). unwrap_or o no_shares) held
    ∙ latest_collected c.args.office.now party c.args.after.now
