use Rattle.std.proofs.Common.{◌∙◌}
use Rattle.society_core.specs.Owners.{cut_work}
use Rattle.society_core.specs.Points.{is_tallied}
use Rattle.society_core.specs.Pools.{holders_of}
use Rattle.society_core.proofs.lemmas.CandidateLemmas.{added_by}
use Rattle.society_core.proofs.candidates.add_candidates.Goals as goal
use Rattle.works_core.specs.Recordings.{isrcs_of}

pub returns : goal.returns
returns c =
    added_by (is_tallied c.args.weighing.now.tally.now) c.args.sender.now c.args.work.now (holders_of c.args.weighing.now.kind c.args.weighing.now.office.now (cut_work c.args.sender.now c.args.transaction.now)) (isrcs_of c.args.transaction.now) c.in_ok-named.named.items c.in_ok-holders.holders c.deref.result.now c.args.candidates.now.items c.append_candidates.new.candidates.items c.append_candidates.result
    (c.in_ok-named.ensures) (c.in_ok-holders.ensures ∙ c.in_ok-list.ensures.weights) c.deref.ensures.value c.append_candidates.ensures
