use Rattle.std.proofs.Common.{sym, ap}
use Rattle.work_ids.specs.Isrc.{printed_isrc}
use Rattle.work_ids.proofs.lemmas.Capitals.{isrc-length, isrc_reads_back}
use Rattle.work_ids.proofs.lemmas.Marks.{is_written}
use Rattle.work_ids.proofs.isrc.Isrc.to_text.Goals as goal

pub returns-clause-text : goal.returns-clause-text
unfolding printed_isrc
returns-clause-text c =
    rw (← c.self.view_is) (sym (ap printed_isrc (is_written 12 c.self.inside.bytes (isrc-length _ c.self.invariant))))

pub returns-clause-back : goal.returns-clause-back
unfolding printed_isrc
returns-clause-back c =
    rw (← c.self.view_is) (isrc_reads_back c.self.inside.bytes _ c.self.invariant (sym (ap printed_isrc (is_written 12 c.self.inside.bytes (isrc-length _ c.self.invariant)))))
