use Rattle.std.proofs.Common.{◌≡◌, ◌∙◌, List, ℕ, IfOk, ap, map, rules, sym}
use Rattle.std.proofs.lemmas.Result.{IfOk-weaker}
use Rattle.std.specs.List.{list_any}
use Rattle.std.specs.Str.{bytes_eq}
use Rattle.society_core.specs.Points.{is_tallied, recordings_in}
use Rattle.society_core.proofs.lemmas.PointLemmas.{tallied_keys, tallied_recordings}
use Rattle.society_core.proofs.points.Tally.recordings.Goals as goal

pub returns-clause-tallied : goal.returns-clause-tallied
returns-clause-tallied c =
    let listed : IfOk c.collect.result (λ list. list.items ≡ map (λ e. e.0) c.args.self.now.totals.entries) = search rules in
    IfOk-weaker c.collect.result (λ list. list.items ≡ map (λ e. e.0) c.args.self.now.totals.entries) (λ list. (isrc : List ℕ) → is_tallied c.args.self.now isrc ≡ list_any (bytes_eq isrc) list.items)
    (λ list is isrc. tallied_keys c.args.self.now isrc ∙ ap (list_any (bytes_eq isrc)) (sym is)) listed

pub returns-clause-once : goal.returns-clause-once
returns-clause-once c rows tallied =
    let listed : IfOk c.collect.result (λ list. list.items ≡ map (λ e. e.0) c.args.self.now.totals.entries) = search rules in
    IfOk-weaker c.collect.result (λ list. list.items ≡ map (λ e. e.0) c.args.self.now.totals.entries) (λ list. list.items ≡ recordings_in rows)
    (λ list is. is ∙ tallied_recordings c.args.self.now rows tallied c.keys.ensures.ordered) listed
