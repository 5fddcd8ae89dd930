use Rattle.std.proofs.Common.{ℕ, ◌++◌, decimal, subst, codes}
use Rattle.desk_connections.specs.Connections.{Prints, outcome_text}
use Rattle.desk_connections.proofs.lemmas.ConnectionLemmas.{prints_on}
use Rattle.desk_connections.proofs.connections.print_line.Goals as goal

pub returns : goal.returns
returns g c =
    let W = g.W.Write.contents in
    let first = c.args.out.now in
    let outcome = outcome_text c.args.outcome.now in
    let number = subst (λ (n : ℕ). Prints W c.print.new.out c.print_number.new.out (decimal n)) c.from.ensures c.print_number.ensures in
    let two = prints_on W first c.print.new.out c.print_number.new.out (codes "connection ") (decimal c.args.number) c.print.ensures number in
    let three = prints_on W first c.print_number.new.out c.print-2.new.out (codes "connection " ++ decimal c.args.number) (codes ": ") two c.print-2.ensures in
    let four = prints_on W first c.print-2.new.out c.print_outcome.new.out (codes "connection " ++ decimal c.args.number ++ codes ": ") outcome three c.print_outcome.ensures in
    prints_on W first c.print_outcome.new.out c.print-3.new.out (codes "connection " ++ decimal c.args.number ++ codes ": " ++ outcome) (codes " requests\n") four c.print-3.ensures
