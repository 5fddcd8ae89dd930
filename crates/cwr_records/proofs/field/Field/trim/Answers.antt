use Rattle.std.proofs.Common.{◌∙◌, sym, arith}
use Rattle.cwr_records.proofs.lemmas.Fields.{trimmed-filled, length-trimmed, filled-length}
use Rattle.cwr_records.proofs.field.Field.trim.Goals as goal

pub returns-clause-value : goal.returns-clause-value
returns-clause-value c = rw (← c.self.view_is) (c.trim.ensures ∙ sym (trimmed-filled c.self.inside.present.now _))

pub returns-clause-within : goal.returns-clause-within
returns-clause-within c =
    let p = c.self.inside.present.now in
    rw (c.trim.ensures, ← c.self.view_is) (omega (arith, length-trimmed p, filled-length p c.self.inside.width c.self.invariant))
