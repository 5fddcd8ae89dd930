use Rattle.std.proofs.Common.{◌≡◌, Some, None, option_map, slice_get, ap, sym, ◌∙◌, Bor}
use Rattle.std.specs.BTreeMap as tree
use Rattle.society_core.specs.Keys.{bytes_cmp}
use Rattle.society_core.specs.declared.claim_list.Candidate.{Candidate}
use Rattle.society_core.specs.declared.claim_list.Found.TheVariants.{Only, Several}
use Rattle.society_core.proofs.lemmas.ClaimLemmas.{got_item, looked_up, sole_is_looked_up}
use Rattle.society_core.proofs.claim_list.sole_candidate.Goals as goal

pub returns-in-Some-Only : goal.returns-in-Some-Only
returns-in-Some-Only c =
    let found : tree.get bytes_cmp c.args.found.now c.args.isrc.now ≡ Some (Only c.in-Some-Only.place) = cc (c.in-Some-Only.ensures.value, c.in-Some-Only.field-0-is) in
    let place : option_map (λ (r : Bor Candidate). r.now) c.get-in-Some-Only.result ≡ slice_get c.args.candidates.now c.in-Some-Only.place = got_item c.args.candidates.now c.in-Some-Only.place c.get-in-Some-Only.result c.get-in-Some-Only.ensures.lookup in
    place ∙ sym (sole_is_looked_up c.args.candidates.now c.args.isrc.now ∙ ap (looked_up c.args.candidates.now) (sym (c.requires c.args.isrc.now) ∙ found))

pub returns-in-Some-Several : goal.returns-in-Some-Several
returns-in-Some-Several c =
    let found : tree.get bytes_cmp c.args.found.now c.args.isrc.now ≡ Some Several = cc (c.in-Some-Several.ensures.value, c.in-Some-Several.field-0-is) in
    sym (sole_is_looked_up c.args.candidates.now c.args.isrc.now ∙ ap (looked_up c.args.candidates.now) (sym (c.requires c.args.isrc.now) ∙ found))

pub returns-in-None : goal.returns-in-None
returns-in-None c =
    let found : tree.get bytes_cmp c.args.found.now c.args.isrc.now ≡ None = sym c.in-None.ensures.value in
    sym (sole_is_looked_up c.args.candidates.now c.args.isrc.now ∙ ap (looked_up c.args.candidates.now) (sym (c.requires c.args.isrc.now) ∙ found))
