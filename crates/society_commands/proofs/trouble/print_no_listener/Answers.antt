use Rattle.std.proofs.Common.{codes}
use Rattle.std.specs.Prelude.{decimal}
use Rattle.desk_connections.proofs.lemmas.ConnectionLemmas.{prints_on}
use Rattle.society_commands.proofs.trouble.print_no_listener.Goals as goal

pub returns : goal.returns
returns g c =
    prints_on g.E.Write.contents c.args.err.now c.print.new.out c.print_number.new.out (codes "cannot listen at port ") (decimal c.args.port) c.print.ensures (rw c.from.ensures at c.print_number.ensures)
