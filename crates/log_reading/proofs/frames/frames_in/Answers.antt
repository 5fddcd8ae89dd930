use Rattle.std.proofs.Common.{◌+◌, ◌-◌, arith}
use Rattle.sqlite_wal.specs.Recovery.{frames_len}
use Rattle.log_reading.proofs.Lemmas.{fits, fits_no_more, all_fit}
use Rattle.log_reading.proofs.frames.frames_in.Goals as goal

pub returns-clause-within : goal.returns-clause-within
unfolding frames_len
returns-clause-within c i h = omega (arith, fits i (c.args.len - 32) (24 + c.args.size) h)

pub returns-clause-past : goal.returns-clause-past
unfolding frames_len
returns-clause-past c i h = omega (arith, fits_no_more i (c.args.len - 32) (24 + c.args.size) (omega arith) h)

pub returns-clause-end : goal.returns-clause-end
unfolding frames_len
returns-clause-end c long = omega (arith, all_fit (c.args.len - 32) (24 + c.args.size) (omega arith))
