use Rattle.std.proofs.Common.{◌≡◌, ◌∙◌, List, ap, sym, ℕ}
use Rattle.std.proofs.lemmas.Bool.{false≢true}
use Rattle.std.specs.BTreeSet.{contains}
use Rattle.society_core.specs.Keys.{bytes_cmp}
use Rattle.society_closings.proofs.lemmas.cuts.CutLists.{found_isrc}
use Rattle.society_closings.proofs.works_by_recording.wanted_isrc.Goals as goal

pub returns-else-contains : goal.returns-else-contains
returns-else-contains c = λ isrc right is same.
    let its = c.from_field.ensures ∙ found_isrc c.args.text.now isrc right same in
    let one : c.in-Ok-Some.isrc ≡ isrc = cc (its, c.in-Ok-Some.is, c.in-Ok-Some.field-0-is) in
    absurd (false≢true (sym c.if-contains.false ∙ c.contains.ensures ∙ ap (λ (x : List ℕ). contains bytes_cmp c.args.wanted.now x) one ∙ is))
