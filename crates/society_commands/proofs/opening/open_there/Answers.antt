use Rattle.std.proofs.Common.{◌∙◌, sym}
use Rattle.std.proofs.lemmas.Bool.{false≢true}
use Rattle.society_commands.proofs.opening.open_there.Goals as goal
use Rattle.society_commands.proofs.opening.open_there.Goals.{else-database, then-database+in-Ok-true}

pub returns-in-Ok-clause-opened : goal.returns-in-Ok-clause-opened
returns-in-Ok-clause-opened g c = record {
  new = c.in-Ok.ensures.new;
  shows = c.in-Ok.ensures.opened;
  there = λ existing. elim c.if-database.branch [
    | then-database+in-Ok-true w ↦ rw w.in-Ok-true.field-0-test at w.in-Ok-true.ensures.found
    | else-database w ↦ absurd (false≢true (sym w.if-database.false ∙ existing))
  ];
}

pub returns-in-Ok-clause-warned : goal.returns-in-Ok-clause-warned
returns-in-Ok-clause-warned g c = (c.in-Ok.others_write, c.in-Ok.ensures.shared, c.warn.ensures)
