use Rattle.std.proofs.Common.{◌∙◌, sym}
use Rattle.std.proofs.lemmas.Bool.{false≢true}
use Rattle.book_audit.proofs.lemmas.entries.StatedRows.{all_under, under_all}
use Rattle.book_audit.proofs.entries.senders_under.Goals as goal

pub returns-then-not-are_under_ends-clause-judged : goal.returns-then-not-are_under_ends-clause-judged
returns-then-not-are_under_ends-clause-judged c under =
    false≢true (sym c.if-not-are_under_ends.true ∙ c.are_under_ends.ensures ∙ under_all c.args.lasts.now c.in_ok-ends.ends c.in_ok-ends.ensures.these c.args.keys.now under)

pub returns-clause-fits : goal.returns-clause-fits
returns-clause-fits c = all_under c.args.lasts.now c.in_ok-ends.ends c.in_ok-ends.ensures.these c.args.keys.now (sym c.are_under_ends.ensures ∙ c.if-not-are_under_ends.false)
