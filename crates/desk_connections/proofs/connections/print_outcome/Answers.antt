use Rattle.std.proofs.Common.{rules}
use Rattle.desk_connections.proofs.connections.print_outcome.Goals as goal

pub returns-in-Err : goal.returns-in-Err
returns-in-Err g c = rw c.in-Err.is c.print_fault.ensures

pub returns-in-Ok : goal.returns-in-Ok
returns-in-Ok g c = search rules
