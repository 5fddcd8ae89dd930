use Rattle.std.proofs.Common.{◌∙◌, Bool, Some, ap, cond}
use Rattle.std.proofs.lemmas.Map.Text.{is_eq-slice_cmp}
use Rattle.society_closings.specs.CutWorks.{chosen_at}
use Rattle.society_closings.proofs.chosen.Chosen.keep.Goals as goal

pub returns-clause-versions : goal.returns-clause-versions
returns-clause-versions c = λ q.
    c.in_ok-insert.ensures.updates.0 q
    ∙ ap (λ (b : Bool). cond b (Some c.args.version) (chosen_at c.args.self.now q)) (is_eq-slice_cmp c.args.work q)
