use Rattle.std.proofs.Common.{sym, ap, arith}
use Rattle.work_ids.specs.Iswc.{without_iswc_marks}
use Rattle.work_ids.proofs.lemmas.Marks.{is_written}
use Rattle.work_ids.proofs.iswc.without_iswc_marks.Goals as goal

pub returns : goal.returns
unfolding without_iswc_marks
returns c = sym (ap without_iswc_marks (is_written 15 c.args.text.now (omega arith)))
