use Rattle.std.proofs.Common.{refl}
use Rattle.cwr_records.proofs.lemmas.Lines.{pieces-at, pieces-last}
use Rattle.cwr_records.proofs.line.piece_len.Goals as goal

pub returns-in-Some-clause-piece : goal.returns-in-Some-clause-piece
returns-in-Some-clause-piece c = pieces-at _ _ c.in-Some.ensures

pub returns-in-None-clause-piece : goal.returns-in-None-clause-piece
returns-in-None-clause-piece c = pieces-last _ _ refl c.requires c.in-None.ensures
