use Rattle.std.proofs.Common.{List, flat_map, map, ap, ◌∙◌}
use Rattle.std.proofs.lemmas.Result.{IfOk-weaker}
use Rattle.cwr_files.specs.declared.transmission.Group.{Group}
use Rattle.works_core.specs.Line.{judged, judged_in}
use Rattle.works_core.proofs.sender_line.judge_all.Goals as goal

pub returns : goal.returns
unfolding judged_in
returns c =
    IfOk-weaker c.judged_groups.result _ _
    (λ list e. e ∙ ap (λ (gs : List Group). map (judged c.args.office.now) (flat_map (λ g. g.transactions) gs)) c.as_slice.ensures)
    c.judged_groups.ensures
