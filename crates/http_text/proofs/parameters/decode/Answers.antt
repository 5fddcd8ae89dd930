use Rattle.std.proofs.Common.{arith, ap, length, length-append}
use Rattle.percent_encoding.proofs.PercentLemmas.{length-percent_decode}
use Rattle.percent_encoding.specs.Iter.{decoded_bytes}
use Rattle.http_text.proofs.parameters.decode.Goals as goal

pub unwrap-requires : goal.unwrap-requires
unwrap-requires c =
    let kept = c.loop-byte.invariant in
    let vec = c.loop-byte.scratch in
    c.push.ensures.succeeds
    (omega (arith, ap length kept.2, length-append vec.items (decoded_bytes c.loop-byte.byte-iterator), ap length c.in-Some.ensures.steps, (length-percent_decode c.args.raw.now).0, kept.3, vec.ok.0, c.requires))
