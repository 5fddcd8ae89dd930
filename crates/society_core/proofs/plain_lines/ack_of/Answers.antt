use Rattle.std.proofs.Common.{◌≡◌, true, ap, sym, ◌∙◌}
use Rattle.std.proofs.lemmas.Bool.{false≢true}
use Rattle.works_core.specs.Numbered.{has_number}
use Rattle.society_core.specs.Book.{is_in_line}
use Rattle.society_core.proofs.lemmas.LineNumbers.{there_in_line}
use Rattle.society_core.proofs.lemmas.Lines.{line_has_own, line_to}
use Rattle.society_core.proofs.plain_lines.ack_of.Goals as goal

pub transmission_of-requires-clause-there : goal.transmission_of-requires-clause-there
transmission_of-requires-clause-there c = there_in_line c.args.book.now c.args.sender.now c.args.number (sym c.is_applied.ensures ∙ c.if-not-is_applied.false)

pub unreachable-requires : goal.unreachable-requires
unreachable-requires c =
    let office = c.args.office.now in
    let book = c.args.book.now in
    let sender = c.args.sender.now in
    let is : is_in_line book sender c.args.number ≡ true = sym c.is_applied.ensures ∙ c.if-not-is_applied.false in
    let line = c.in_ok-line.ensures.line ∙ ap (line_to office book sender) c.value.ensures.value in
    false≢true (sym c.in-None.ensures ∙ ap (has_number c.args.number) line ∙ line_has_own office book sender c.args.number is)
