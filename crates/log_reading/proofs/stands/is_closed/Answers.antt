use Rattle.log_reading.proofs.Standing.{header_key}
use Rattle.log_reading.proofs.stands.is_closed.Goals as goal

pub is_shut-requires-clause-key : goal.is_shut-requires-clause-key
is_shut-requires-clause-key g c known = header_key _ _ (c.requires.head known)
