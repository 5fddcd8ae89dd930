use Rattle.std.proofs.Common.{◌+◌, drop, map, sym, ◌∙◌, arith}
use Rattle.share_rules.specs.Parties.{owned, interests}
use Rattle.share_rules.proofs.lemmas.Exceeding.{beside_over, beside_party}
use Rattle.share_rules.proofs.excess.owns_too_much.Goals as goal

pub returns-then-is_exceeded : goal.returns-then-is_exceeded
returns-then-is_exceeded c =
    let l = c.loop-record in
    let rs = c.args.records.now in
    let step = beside_party owned l.totals rs l.record-index c.record-item.result c.in-Some.party (omega arith) c.record-item.is c.in-Some.ensures in
    let over = beside_over c.with-totals.result (map owned (interests (drop (l.record-index + 1) rs))) (sym c.is_exceeded.ensures ∙ c.if-is_exceeded.true) in
    cc

pub loop-record-preserved : goal.loop-record-preserved
loop-record-preserved c =
    let l = c.loop-record in
    let step = beside_party owned l.totals c.args.records.now l.record-index c.record-item.result c.in-Some.party (omega arith) c.record-item.is c.in-Some.ensures in
    record {
      within = sym c.is_exceeded.ensures ∙ c.if-is_exceeded.false;
      left = cc;
    }
