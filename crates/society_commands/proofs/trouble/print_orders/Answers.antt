use Rattle.std.proofs.Common.{codes}
use Rattle.desk_connections.specs.Faults.{fault_text}
use Rattle.desk_connections.proofs.lemmas.ConnectionLemmas.{prints_on}
use Rattle.society_commands.proofs.trouble.print_orders.Goals as goal

pub returns : goal.returns
returns g c =
    prints_on g.E.Write.contents c.args.err.now c.print_fault.new.out c.print.new.out (fault_text c.args.fault) (codes " orders") c.print_fault.ensures c.print.ensures
