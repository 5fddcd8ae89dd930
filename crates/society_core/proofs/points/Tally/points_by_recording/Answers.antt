use Rattle.std.proofs.Common.{◌≡◌, IfOk, rules, subst}
use Rattle.society_core.proofs.lemmas.PointLemmas.{tallied_entries}
use Rattle.society_core.proofs.points.Tally.points_by_recording.Goals as goal

pub returns : goal.returns
returns c rows tallied =
    let listed : IfOk c.collect.result (λ points. points.items ≡ c.args.self.now.totals.entries) = search rules in
    subst (λ es. IfOk c.collect.result (λ points. points.items ≡ es)) (tallied_entries c.args.self.now rows tallied c.iter.ensures.ordered) listed
