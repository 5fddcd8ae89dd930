use Rattle.std.proofs.Common.{arith, ◌∙◌, refl}
use Rattle.desk_connections.proofs.lemmas.ConnectionLemmas.{serves_more, serves_none}
use Rattle.desk_connections.proofs.connections.serve_connections.Goals as goal

pub loop-number-init : goal.loop-number-init
loop-number-init g c = (serves_none _ g.S.Store.state _ g.W.Write.contents _ _, (omega arith, refl))

pub loop-number-preserved : goal.loop-number-preserved
loop-number-preserved g c =
    let came = c.loop-number.invariant.1 in
    let next = c.in-Ok.ensures.served in (
      serves_more _ g.S.Store.state c.args.desk.now c.loop-number.desk c.serve_next.new.desk g.W.Write.contents c.args.out.now c.loop-number.out c.print_line.new.out c.args.door.now c.loop-number.door c.serve_next.new.door c.loop-number.number c.in-Ok.outcome
          c.loop-number.invariant.0 came.0 next c.print_line.ensures,
      (next.3.0 ∙ (let e = came.0 in omega (arith, e)), next.3.1 ∙ came.1),
    )
