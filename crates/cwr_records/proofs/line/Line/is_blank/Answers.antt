use Rattle.cwr_records.specs.Lines.{is_blank}
use Rattle.cwr_records.proofs.line.Line.is_blank.Goals as goal

pub returns : goal.returns
unfolding is_blank
returns c = rw (← c.self.view_is) c.are_blank.ensures
