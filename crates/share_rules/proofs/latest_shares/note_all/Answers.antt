use Rattle.std.proofs.Common.{◌≡◌, arith}
use Rattle.share_rules.proofs.latest_shares.note_all.Goals as goal

pub returns : goal.returns
returns c =
    let e : c.loop-end.end ≡ 0 = omega (arith, c.loop-end-test.false) in
    rw e at c.loop-end.invariant.kept
