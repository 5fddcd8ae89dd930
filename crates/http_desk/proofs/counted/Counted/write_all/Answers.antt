use Rattle.std.proofs.Common.{◌++◌, take}
use Rattle.http_desk.proofs.lemmas.Known.{Appends-join, split_on}
use Rattle.http_desk.proofs.counted.Counted.write_all.Goals as goal

pub loop-rest-preserved : goal.loop-rest-preserved
loop-rest-preserved g c =
    let kept = c.loop-rest.invariant in (
      kept.0 ++ take c.in-Ok.taken c.loop-rest.rest.now,
      split_on _ kept.0 c.loop-rest.rest.now c.in-Ok.taken kept.1,
      Appends-join _ _ _ _ _ kept.2 c.in-Ok.ensures.bytes,
      kept.3,
      kept.4,
    )
