use Rattle.std.proofs.Common.{◌++◌, codes}
use Rattle.society_commands.specs.Troubles.{trouble_text}
use Rattle.desk_connections.proofs.lemmas.ConnectionLemmas.{prints_on}
use Rattle.society_commands.proofs.trouble.tell.Goals as goal

pub returns-clause-told : goal.returns-clause-told
returns-clause-told g c =
    let E = g.E.Write.contents in
    let err = c.args.err.now in
    let text = trouble_text c.args.trouble in
    let two = prints_on E err c.print.new.out c.print_trouble.new.err (codes "society: ") text c.print.ensures c.print_trouble.ensures in
    prints_on E err c.print_trouble.new.err c.print-2.new.out (codes "society: " ++ text) (codes "\n") two c.print-2.ensures
