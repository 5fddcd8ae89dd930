use Rattle.std.proofs.Common.{List, ap, get_or, sym, ◌∙◌, Some}
use Rattle.works_core.proofs.lemmas.NextLemmas.{none_found}
use Rattle.works_core.proofs.lemmas.TrackLemmas.{version_found}
use Rattle.works_core.specs.declared.version.LinkedVersion.{LinkedVersion}
use Rattle.works_core.proofs.works.Works.version_at.Goals as goal

pub returns-in-Some : goal.returns-in-Some
returns-in-Some c = λ past work tracks is.
    let here = c.index.result.now in
    ap (λ (l : LinkedVersion). Some l.version) (c.index.ensures ∙ ap (λ (xs : List LinkedVersion). get_or xs c.in-Some.at here) tracks.versions)
    ∙ sym (version_found work past c.in-Some.at here (sym is ∙ c.in-Some.is))

pub returns-in-None : goal.returns-in-None
returns-in-None c = λ past work tracks is. sym (none_found work past (sym is ∙ c.in-None.is))
