use Rattle.cwr_files.proofs.lemmas.Settled.{settled-now}
use Rattle.cwr_files.proofs.fault_finder.find_fault.Goals as goal

pub returns-in-Err : goal.returns-in-Err
returns-in-Err c = settled-now c.args.sender.now c.args.body.now c.in-Err.fault c.in-Err.ensures
