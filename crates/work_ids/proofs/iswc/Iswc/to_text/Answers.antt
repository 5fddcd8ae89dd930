use Rattle.std.proofs.Common.{sym, ap}
use Rattle.work_ids.specs.Iswc.{printed}
use Rattle.work_ids.proofs.lemmas.Marks.{is_written, iswc-length, iswc_reads_back}
use Rattle.work_ids.proofs.iswc.Iswc.to_text.Goals as goal

pub returns-clause-text : goal.returns-clause-text
unfolding printed
returns-clause-text c =
    rw (← c.self.view_is) (sym (ap printed (is_written 11 c.self.inside.bytes (iswc-length _ c.self.invariant))))

pub returns-clause-back : goal.returns-clause-back
unfolding printed
returns-clause-back c =
    rw (← c.self.view_is) (iswc_reads_back c.self.inside.bytes _ c.self.invariant (sym (ap printed (is_written 11 c.self.inside.bytes (iswc-length _ c.self.invariant)))))
