use Rattle.std.proofs.Common.{◌∙◌, sym}
use Rattle.society_closings.proofs.lemmas.cuts.CutChoices.{chooses_kept}
use Rattle.society_closings.proofs.chosen.Chosen.choose.Goals as goal

pub returns-in-Some : goal.returns-in-Some
returns-in-Some c = λ office book key known chooses same.
    chooses_kept office book key known c.args.work c.args.self.now c.keep.new.self c.in-Some.version c.keep.result chooses (sym c.in-Some.is ∙ same) c.keep.ensures.versions c.keep.ensures.transmissions
