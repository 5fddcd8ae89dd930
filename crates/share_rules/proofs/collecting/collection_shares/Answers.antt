use Rattle.std.proofs.Common.{◌+◌, ℕ, List, drop, ap, sym, ◌∙◌, arith}
use Rattle.share_rules.specs.Parties.{is_interested_party, last_counting}
use Rattle.share_rules.specs.Steps.{shares_after, shares_or}
use Rattle.share_rules.specs.declared.party.Side.{Side}
use Rattle.share_rules.specs.declared.shares.Shares.{Shares}
use Rattle.share_rules.proofs.lemmas.Nearest.{collected_is, from_none, rows_among, rows_next, up_to_next}
use Rattle.share_rules.proofs.collecting.collection_shares.Goals as goal

pub loop-record-init : goal.loop-record-init
loop-record-init c =
    let party = c.args.party.now in
    let rows = rows_among party.side party.number (up_to_next party.side party.number c.args.after.now) in
    ap (λ (s : Shares). shares_or s (last_counting c.args.office.now rows)) c.none-shares.ensures
    ∙ from_none (last_counting c.args.office.now rows)
    ∙ collected_is c.args.office.now party c.args.after.now

pub loop-record-preserved : goal.loop-record-preserved
loop-record-preserved c =
    let party = c.args.party.now in
    let sought = c.new-sought.result in
    let i = c.loop-record.record-index in
    let before = c.loop-record.shares in
    let r = c.record-item.result in
    let rows = rows_among party.side party.number (up_to_next party.side party.number (drop (i + 1) c.args.after.now)) in
    let other = ap (λ (s : Side). is_interested_party s party.number r) (sym c.new-sought.ensures.side) ∙ ap (λ (n : List ℕ). is_interested_party sought.side n r) (sym c.new-sought.ensures.number) ∙ sym c.is_party.ensures ∙ c.if-is_party.false in
    let same = ap (λ (s : Side). shares_after c.args.office.now s sought.number before r) c.new-sought.ensures.side ∙ ap (λ (n : List ℕ). shares_after c.args.office.now party.side n before r) c.new-sought.ensures.number in
    ap (λ (s : Shares). shares_or s (last_counting c.args.office.now rows)) (c.shares_after-shares.ensures ∙ same)
    ∙ rows_next c.args.office.now party.side party.number before c.args.after.now i r (omega arith) c.record-item.is other
    ∙ c.loop-record.invariant
