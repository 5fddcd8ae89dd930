use Rattle.std.proofs.Common.{ap, sym, ◌∙◌, is_some}
use Rattle.std.proofs.lemmas.Bool.{false≢true}
use Rattle.perf_returns.specs.Returns.{return_fault}
use Rattle.society_core.proofs.lemmas.CreditLemmas.{return_has_no_fault}
use Rattle.society_core.proofs.plain_pools.add_return.Goals as goal

pub unreachable-requires : goal.unreachable-requires
unreachable-requires c = false≢true (ap is_some c.in_default.ensures ∙ c.requires.there)

pub unreachable-requires-in-Err-Csv : goal.unreachable-requires-in-Err-Csv
unreachable-requires-in-Err-Csv c =
    return_has_no_fault c.args.book.now c.args.key.now c.in-Some.body.now.items c.in-Err-Csv.field-0-0 c.requires.sound (sym c.in-Some.ensures)
    (ap return_fault (sym c.deref.ensures.value) ∙ rw c.in-Err-Csv.field-0-is at c.in-Err-Csv.ensures)
