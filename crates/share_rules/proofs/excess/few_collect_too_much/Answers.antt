use Rattle.std.proofs.Common.{◌+◌, drop, map, sym, ap, ◌∙◌, arith}
use Rattle.std.proofs.lemmas.List.{take_rest}
use Rattle.share_rules.specs.Parties.{collected, interests}
use Rattle.share_rules.proofs.lemmas.Exceeding.{beside_over, beside_party, exceed_beside}
use Rattle.share_rules.specs.Steps.{with_shares}
use Rattle.share_rules.specs.declared.totals.Totals.{Totals}
use Rattle.share_rules.proofs.excess.few_collect_too_much.Goals as goal

pub returns-then-is_exceeded : goal.returns-then-is_exceeded
returns-then-is_exceeded c =
    let l = c.loop-index in
    let rs = c.args.records.now in
    let step = beside_party (collected c.args.office.now) l.totals rs l.index c.index-records-index.result c.in-Some.party (omega arith) c.index-records-index.is c.in-Some.ensures in
    let after = rw take_rest at c.collection_shares.ensures in
    let over = beside_over c.with-totals.result (map (collected c.args.office.now) (interests (drop (l.index + 1) rs))) (sym c.is_exceeded.ensures ∙ c.if-is_exceeded.true) in
    cc

pub loop-index-preserved : goal.loop-index-preserved
loop-index-preserved c =
    let l = c.loop-index in
    let step = beside_party (collected c.args.office.now) l.totals c.args.records.now l.index c.index-records-index.result c.in-Some.party (omega arith) c.index-records-index.is c.in-Some.ensures in
    let after = rw take_rest at c.collection_shares.ensures in
    record {
      within = sym c.is_exceeded.ensures ∙ c.if-is_exceeded.false;
      left = ap (λ (t : Totals). exceed_beside t (map (collected c.args.office.now) (interests (drop (l.index + 1) c.args.records.now)))) (c.with-totals.ensures ∙ ap (with_shares l.totals) after) ∙ sym step ∙ l.invariant.left;
    }
