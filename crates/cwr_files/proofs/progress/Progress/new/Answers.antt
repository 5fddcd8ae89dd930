use Rattle.cwr_files.proofs.lemmas.OnePass.{read-none}
use Rattle.cwr_files.proofs.progress.Progress.new.Goals as goal

pub returns-clause-read : goal.returns-clause-read
returns-clause-read c = λ sender body. read-none sender body _ c.new.ensures
