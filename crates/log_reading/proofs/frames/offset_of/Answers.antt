use Rattle.std.proofs.Common.{arith, refl}
use Rattle.sqlite_wal.specs.Recovery.{frames_len}
use Rattle.log_reading.proofs.frames.offset_of.Goals as goal

pub overflow_mul-result : goal.overflow_mul-result
unfolding frames_len
overflow_mul-result c = omega arith

pub overflow_add-result-2 : goal.overflow_add-result-2
unfolding frames_len
overflow_add-result-2 c = omega arith

pub returns : goal.returns
unfolding frames_len
returns c = refl
