use Rattle.std.proofs.Common.{[], arith, ext_get_or, map, refl}
use Rattle.std.proofs.lemmas.List.{length-map}
use Rattle.book_audit.proofs.alike.are_rows.Goals as goal

pub returns : goal.returns
returns g c =
    let wanted = map g.R.Columns.values c.args.wanted.now in
    let n = length-map c.args.wanted.now g.R.Columns.values in
    (λ _. ext_get_or [] c.args.rows.now wanted (omega (arith, n)) (λ k h. c.loop-at.invariant k (omega (arith, h))), λ _. refl)
