use Rattle.std.proofs.Common.{sym, subst, ◌∙◌}
use Rattle.memory_store.specs.Search.{passes_probe, AllFail, IsCutOnce}
use Rattle.memory_store.proofs.lemmas.SearchLemmas.{cut_behind, fail_from}
use Rattle.memory_store.proofs.lemmas.WriteLemmas.{not_is}
use Rattle.memory_store.proofs.search.Probe.fails_behind.Goals as goal

pub returns-in-Some : goal.returns-in-Some
returns-in-Some c = λ is.
    let test = passes_probe c.args.self in
    let rows = rw c.in-Some.is at c.after.ensures in
    let cut = subst (IsCutOnce test) rows (cut_behind test c.args.pieces.now c.args.place.piece c.args.place.at c.requires.cut) in
    subst (AllFail test) (sym rows) (fail_from test _ _ cut (sym c.passes.ensures ∙ not_is _ is))

pub returns-in-None : goal.returns-in-None
returns-in-None c = λ _. rw (rw c.in-None.is at c.after.ensures) tt
