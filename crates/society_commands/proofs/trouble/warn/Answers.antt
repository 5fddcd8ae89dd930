use Rattle.std.proofs.Common.{◌++◌, codes}
use Rattle.desk_connections.proofs.lemmas.ConnectionLemmas.{prints_on}
use Rattle.society_commands.proofs.trouble.warn.Goals as goal

pub returns-then-others_write : goal.returns-then-others_write
returns-then-others_write g c =
    let W = g.E.Write.contents in
    let err = c.args.err.now in
    let path = c.args.path.now in
    let first = c.print.new.out in
    let middle = c.print-then-others_write.new.out in
    let last = c.print-then-others_write-2.new.out in
    let two = prints_on W err first middle (codes "society: others may write ") path c.print.ensures (rw c.as_bytes.ensures.value at c.print-then-others_write.ensures) in
    rw c.if-others_write.true (prints_on W err middle last (codes "society: others may write " ++ path) (codes "\n") two c.print-then-others_write-2.ensures)
