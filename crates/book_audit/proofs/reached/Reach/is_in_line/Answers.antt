use Rattle.society_core.specs.Keys.{transmission_key}
use Rattle.book_audit.proofs.lemmas.orders.Lines.{line_told}
use Rattle.book_audit.proofs.reached.Reach.is_in_line.Goals as goal

pub returns : goal.returns
returns c db sender its o b holds =
    line_told o b db holds (transmission_key sender c.args.number) _ _ _ its.0 (its.1 o b holds) c.is_in_line.ensures
