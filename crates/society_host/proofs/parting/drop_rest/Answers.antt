use Rattle.std.proofs.Common.{◌∙◌, ◌++◌, arith}
use Rattle.std.proofs.lemmas.List.{length-append}
use Rattle.society_host.proofs.lemmas.WayLemmas.{consumes_on}
use Rattle.society_host.proofs.parting.drop_rest.Goals as goal

pub loop-allowed-preserved : goal.loop-allowed-preserved
loop-allowed-preserved g c =
    let before = c.loop-allowed.invariant in
    let dropped = c.in-Some-drop_some.ensures.dropped in
    let some = c.in-Some-drop_some.ensures.some in (
      before.0 ++ dropped.0,
      consumes_on (g.S.Stream.remaining c.args.rest.now) (g.S.Stream.remaining c.loop-allowed.rest) (g.S.Stream.remaining c.drop_some.new.rest) before.0 dropped.0 before.1 dropped.1,
      omega (arith, length-append before.0 dropped.0, before.2, dropped.2, some.1),
      c.drop_some.ensures.unwritten ∙ before.3,
    )
