use Rattle.cwr_files.proofs.lemmas.Judged.{is_judged}
use Rattle.cwr_files.proofs.reader.one_or_the_other.Goals as goal

pub returns : goal.returns
returns c = is_judged
