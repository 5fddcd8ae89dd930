use Rattle.std.proofs.Common.{◌≡◌, ◌∙◌, IfOk, ap, bytes_eq, rules}
use Rattle.std.specs.List.{list_any}
use Rattle.society_closings.specs.CutWorks.{has_work}
use Rattle.society_closings.proofs.lemmas.cuts.CutNotes.{any_bytes}
use Rattle.society_book.proofs.lemmas.together.StepLemmas.{more}
use Rattle.society_closings.proofs.named_works.NamedWorks.works_of.Goals as goal

pub returns-in-Some : goal.returns-in-Some
returns-in-Some c =
    let listed : IfOk c.collect.result (λ list. list.items ≡ c.in-Some.works.now.keys) = search rules in
    more c.collect.result (λ works is w. ap (list_any (bytes_eq w)) is ∙ any_bytes w c.in-Some.works.now.keys ∙ ap (λ o. has_work o w) c.in-Some.ensures.value) listed
