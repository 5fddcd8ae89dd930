use Rattle.std.proofs.Common.{arith}
use Rattle.log_reading.specs.Frames.{HasFrame}
use Rattle.log_reading.proofs.Lemmas.{none_read, one_more, follows_from}
use Rattle.log_reading.proofs.ending.end_of.Goals as goal

pub loop-i-init : goal.loop-i-init
loop-i-init g c known = none_read _ _ _ _ c.get_sums-sums.ensures (c.requires.head known)

pub loop-i-preserved : goal.loop-i-preserved
loop-i-preserved g c known =
    let read = c.loop-i.invariant known in
    let frame = c.in_ok-read_frame.ensures.ok known in
    let within : HasFrame c.args.size (g.L.ReadAt.bytes c.args.log.now) c.loop-i.i = omega (arith, c.requires.len known, c.frames_in-count.ensures.within c.loop-i.i (omega arith)) in
    one_more _ _ _ _ _ _ _ _ read (follows_from _ _ _ _ _ _ frame read.summed (c.requires.head known) within (c.follows.ensures.0 c.if-not-follows.false)) frame
    c.get_sums-sums-in-loop-i.ensures c.get_be32-is_whole.ensures
