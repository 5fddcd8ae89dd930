use Rattle.std.proofs.Common.{◌++◌, ◌∙◌, codes, decimal, subst, ℕ}
use Rattle.work_ids.specs.Blanks.{without_trailing_blanks}
use Rattle.desk_connections.specs.Connections.{Prints}
use Rattle.desk_connections.proofs.lemmas.ConnectionLemmas.{prints_on}
use Rattle.credit_listing.proofs.refusal_line.print_return.Goals as goal

pub returns : goal.returns
returns g c =
    let W = g.E.Write.contents in
    let err = c.args.err.now in
    let key = c.args.key.now in
    let reporter_text = without_trailing_blanks key.reporter in
    let number = subst (λ (n : ℕ). Prints W c.print-3.new.out c.print_number.new.out (decimal n)) (c.from.ensures ∙ c.value.ensures.value) c.print_number.ensures in
    let reporter = rw c.as_bytes.ensures.bytes at c.print-2.ensures in
    let two = prints_on W err c.print.new.out c.print-2.new.out (codes "no return ") reporter_text c.print.ensures reporter in
    let three = prints_on W err c.print-2.new.out c.print-3.new.out (codes "no return " ++ reporter_text) (codes " ") two c.print-3.ensures in
    prints_on W err c.print-3.new.out c.print_number.new.out (codes "no return " ++ reporter_text ++ codes " ") (decimal key.number) three number
