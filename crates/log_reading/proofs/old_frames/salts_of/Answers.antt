use Rattle.sqlite_wal.specs.Format.{part}
use Rattle.log_reading.proofs.old_frames.salts_of.Goals as goal

pub returns : goal.returns
unfolding part
returns c = c.copy_from_slice.ensures.after
