use Rattle.std.proofs.Common.{◌++◌, codes, decimal, subst, ℕ}
use Rattle.desk_connections.specs.Connections.{Prints}
use Rattle.desk_connections.proofs.lemmas.ConnectionLemmas.{prints_on}
use Rattle.credit_listing.specs.Told.{refusal_words}
use Rattle.credit_listing.proofs.refusal_line.tell_refusal.Goals as goal

pub returns : goal.returns
returns g c =
    let W = g.E.Write.contents in
    let err = c.args.err.now in
    let why = refusal_words c.args.refusal.now in
    let number = subst (λ (n : ℕ). Prints W c.print.new.out c.print_number.new.out (decimal n)) c.from.ensures c.print_number.ensures in
    let two = prints_on W err c.print.new.out c.print_number.new.out (codes "society: order ") (decimal c.args.number) c.print.ensures number in
    let three = prints_on W err c.print_number.new.out c.print-2.new.out (codes "society: order " ++ decimal c.args.number) (codes ": ") two c.print-2.ensures in
    let four = prints_on W err c.print-2.new.out c.print_refusal.new.err (codes "society: order " ++ decimal c.args.number ++ codes ": ") why three c.print_refusal.ensures in
    prints_on W err c.print_refusal.new.err c.print-3.new.out (codes "society: order " ++ decimal c.args.number ++ codes ": " ++ why) (codes "\n") four c.print-3.ensures
