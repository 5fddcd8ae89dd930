use Rattle.std.proofs.Common.{◌∙◌, ap, is_some, refl, subst, sym}
use Rattle.std.specs.BTreeMap as tree
use Rattle.works_core.proofs.lemmas.EntryLemmas.{entered, none_of}
use Rattle.works_core.specs.Tracks.{HasEntry, number_cmp}
use Rattle.works_core.specs.declared.works.Works.{Works}
use Rattle.works_core.proofs.works.Works.enter.Goals as goal

pub returns-in_ok-insert-clause-keeps : goal.returns-in_ok-insert-clause-keeps
returns-in_ok-insert-clause-keeps c =
    let now = c.args.self.now in
    let new : Works = record { count = now.count; last = c.insert.new.self; versions = now.versions } in
    let none = none_of (tree.get number_cmp now.last c.in-Clean.work) (sym c.contains_key.ensures ∙ c.if-not-contains_key.true) in
    entered now new c.in-Clean.work c.in_ok-insert.ensures.updates none refl refl

pub returns-in_ok-insert-clause-entered : goal.returns-in_ok-insert-clause-entered
returns-in_ok-insert-clause-entered c =
    let now = c.args.self.now in
    let new : Works = record { count = now.count; last = c.insert.new.self; versions = now.versions } in
    subst (HasEntry new) (sym c.in-Clean.is) (ap is_some c.in_ok-insert.ensures.updates.1)

pub returns-else-not-contains_key-clause-entered : goal.returns-else-not-contains_key-clause-entered
returns-else-not-contains_key-clause-entered c = subst (HasEntry c.args.self.now) (sym c.in-Clean.is) (sym c.contains_key.ensures ∙ c.if-not-contains_key.false)
