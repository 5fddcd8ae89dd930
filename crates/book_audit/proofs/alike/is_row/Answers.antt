use Rattle.std.proofs.Common.{arith, refl, ext_get_or}
use Rattle.sqlite_value.specs.declared.value.Value.TheVariants.{Null}
use Rattle.book_audit.proofs.alike.is_row.Goals as goal

pub returns : goal.returns
returns g c = (λ _. ext_get_or Null c.args.row.now (g.R.Columns.values c.args.wanted.now) (omega arith) (λ k h. c.loop-at.invariant k (omega arith)), λ _. refl)
