use Rattle.std.proofs.Common.{◌≡◌, unwrap_or, rules}
use Rattle.std.specs.BTreeMap as tree
use Rattle.society_core.specs.Keys.{bytes_cmp}
use Rattle.society_core.specs.Points.{points_of}
use Rattle.society_core.proofs.lemmas.PointLemmas.{tallies_more}
use Rattle.society_core.proofs.points.Tally.add.Goals as goal

pub returns : goal.returns
returns c rows few before =
    let known : c.unwrap_or-known.result ≡ unwrap_or (tree.get bytes_cmp c.args.self.now.totals c.args.row.now.isrc) 0 = search rules in
    let points : c.points_of-points.result ≡ points_of c.args.row.now = c.points_of-points.ensures.value in
    tallies_more c.args.self.now (record { totals = c.insert.new.self }) rows c.args.row.now c.saturating_add.result few before c.points_of-points.ensures.played (cc (c.saturating_add.ensures, known, points)) c.in_ok-insert.ensures.updates.0
