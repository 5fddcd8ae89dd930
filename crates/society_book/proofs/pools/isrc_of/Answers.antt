use Rattle.std.proofs.Common.{◌∙◌, Ok, ap, sym}
use Rattle.society_book.proofs.lemmas.shown.CreditParts.{isrc_said}
use Rattle.society_book.proofs.lemmas.shown.CreditRows.{not_dash}
use Rattle.society_book.proofs.pools.isrc_of.Goals as goal

pub returns-in-Ok-Some : goal.returns-in-Ok-Some
returns-in-Ok-Some c = not_dash c.args.text.now c.in-Ok-Some.isrc (isrc_said c.args.text.now c.in-Ok-Some.isrc (sym c.from_field.ensures ∙ c.in-Ok-Some.is ∙ ap Ok c.in-Ok-Some.field-0-is)) (sym c.eq.ensures ∙ c.if-eq.false)
