use Rattle.std.proofs.Common.{Some, length, ap, sym, ◌∙◌}
use Rattle.std.proofs.lemmas.List.{take_rest}
use Rattle.cwr_records.specs.Lines.{line_of_piece}
use Rattle.cwr_files.specs.LineFaults.{is_too_large}
use Rattle.cwr_files.proofs.lemmas.OnePass.{read-room, settles-size}
use Rattle.cwr_files.proofs.progress.read_on.Goals as goal

pub at_next_line-requires : goal.at_next_line-requires
at_next_line-requires c = (read-room _ _ _ c.in-Ok.ensures.read).lines

pub returns-then-is_too_large : goal.returns-then-is_too_large
returns-then-is_too_large c =
    let line = c.line_of.ensures ∙ ap line_of_piece (take_rest c.args.body.now c.in-Ok.at.start) in
    let large = ap (is_too_large (length c.args.body.now)) (sym line) ∙ sym c.is_too_large.ensures ∙ c.if-is_too_large.true in
    λ more. settles-size c.args.sender.now c.args.body.now c.in-Ok.at c.in-Ok.ensures large more ∙ ap Some (sym c.at_next_line.ensures)
