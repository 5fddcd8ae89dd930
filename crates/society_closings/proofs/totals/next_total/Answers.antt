use Rattle.std.proofs.Common.{[], ◌∷◌, refl}
use Rattle.society_closings.proofs.lemmas.money.SameTotals.{same_behind, same_itself, same_merged}
use Rattle.society_closings.proofs.totals.next_total.Goals as goal

pub returns-then-is_same : goal.returns-then-is_same
returns-then-is_same c =
    same_behind c.args.totals.now.items c.args.totals.now.items _ (c.args.total ∷ c.args.credit.now ∷ []) (same_itself c.args.totals.now.items)
    (same_merged c.args.total c.args.credit.now _ (c.is_same.ensures c.if-is_same.true) refl c.in-Some.ensures.1)
