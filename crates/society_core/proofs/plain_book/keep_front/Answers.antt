use Rattle.std.proofs.Common.{sym, ◌∙◌}
use Rattle.society_core.proofs.lemmas.KeptFronts.{zero_kept}
use Rattle.society_core.proofs.plain_book.keep_front.Goals as goal

pub returns-in_ok-insert-clause-same : goal.returns-in_ok-insert-clause-same
returns-in_ok-insert-clause-same c =
    zero_kept c.args.fronts.now c.insert.new.self c.args.sender c.in_ok-insert.ensures.updates.0 (sym c.contains_key.ensures ∙ c.if-not-contains_key.true)
