use Rattle.std.proofs.Common.{sym, ap, arith}
use Rattle.work_ids.specs.Isrc.{without_isrc_marks}
use Rattle.work_ids.proofs.lemmas.Marks.{is_written}
use Rattle.work_ids.proofs.isrc.without_isrc_marks.Goals as goal

pub returns : goal.returns
unfolding without_isrc_marks
returns c = sym (ap without_isrc_marks (is_written 15 c.args.text.now (omega arith)))
