use Rattle.std.proofs.Common.{sym, subst, ◌∙◌}
use Rattle.memory_store.specs.Search.{passes_probe, AllPass, IsCutOnce}
use Rattle.memory_store.proofs.lemmas.SearchLemmas.{cut_before, pass_up_to}
use Rattle.memory_store.proofs.search.Probe.passes_before.Goals as goal

pub returns-in-Some : goal.returns-in-Some
returns-in-Some c = λ is.
    let test = passes_probe c.args.self in
    let rows = rw c.in-Some.is at c.before-2.ensures in
    let cut = subst (IsCutOnce test) rows (cut_before test c.args.pieces.now c.args.place.piece c.args.place.at c.requires.cut) in
    subst (AllPass test) (sym rows) (pass_up_to test _ _ cut (sym c.passes.ensures ∙ is))

pub returns-in-None : goal.returns-in-None
returns-in-None c = λ _. rw (rw c.in-None.is at c.before-2.ensures) tt
