use Rattle.std.proofs.Common.{◌∙◌, Some, ap, arith, sym}
use Rattle.society_book.proofs.lemmas.shown.NumberRows.{last_of}
use Rattle.society_book.proofs.numbers.last_number.Goals as goal

pub returns-in_ok-number_of-in-len1-up : goal.returns-in_ok-number_of-in-len1-up
returns-in_ok-number_of-in-len1-up c =
    ap Some c.in_ok-number_of-in-len1-up.ensures ∙ sym (last_of c.args.rows.now c.row-item.result _ (omega (arith, c.in-len1-up.len_at_least)) c.row-item.is)
