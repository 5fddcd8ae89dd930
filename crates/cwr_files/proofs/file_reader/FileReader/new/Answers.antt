use Rattle.cwr_files.proofs.lemmas.Settled.{pending-none}
use Rattle.cwr_files.proofs.file_reader.FileReader.new.Goals as goal

pub invariant_of-result : goal.invariant_of-result
invariant_of-result c = rw c.new.ensures.items (pending-none c.args.sender.now c.new-2.result c.new-2.ensures.start (c.new-2.ensures.read c.args.sender.now _))
