use Rattle.std.proofs.Common.{[], subst, sym, unwrap_or}
use Rattle.cwr_files.specs.Contents.{transactions_of, transmission_in}
use Rattle.society_closings.proofs.lemmas.cuts.Weighed.{weighed_adds}
use Rattle.society_closings.specs.Weighing.{WeighsMore}
use Rattle.society_core.specs.Points.{is_tallied}
use Rattle.society_closings.proofs.cut_works.add_shown.Goals as goal

pub returns-clause-adds : goal.returns-clause-adds
returns-clause-adds c = λ kept shows.
    let weighing = c.args.weighing.now in
    let of_these = is_tallied weighing.tally.now in
    let ts = transactions_of (transmission_in (unwrap_or kept [])) in
    weighed_adds weighing.kind weighing.office.now of_these c.args.sender.now c.args.chosen.now c.args.number ts c.as_slice.result.now c.args.candidates.now.items c.add_weighed.new.candidates.items
    (subst (WeighsMore weighing.kind weighing.office.now of_these c.args.sender.now 0 ts []) (sym c.as_slice.ensures.value) (c.in_ok-versions.ensures.weighs kept shows))
    c.in_ok-add_weighed.ensures
