use Rattle.std.proofs.Common.{◌≡◌, ℕ, List, Option, Some, None, option_map, slice_get, subst, sym, ◌∙◌, Bor}
use Rattle.std.specs.BTreeMap as tree
use Rattle.std.specs.List.{filter}
use Rattle.society_core.proofs.lemmas.ClaimLemmas.{got_item}
use Rattle.society_core.specs.Claims.{is_candidate_for}
use Rattle.society_core.specs.Keys.{bytes_cmp}
use Rattle.society_core.specs.declared.claim_list.Candidate.{Candidate}
use Rattle.order_credits.proofs.lemmas.OwnerTables.{sole_kept, sole_of_none, sole_of_several}
use Rattle.order_credits.specs.Looked.{KeptAs}
use Rattle.order_credits.proofs.owners.Owners.owner.Goals as goal

pub returns-in-Some-Some : goal.returns-in-Some-Some
returns-in-Some-Some c =
    let xs = c.args.candidates.now in
    let q = c.args.isrc.now in
    let its = filter (is_candidate_for q) xs in
    let found : tree.get bytes_cmp c.args.self.now.places q ≡ Some (Some c.in-Some-Some.place) = cc (c.in-Some-Some.ensures.value, c.in-Some-Some.field-0-is) in
    let place : option_map (λ (r : Bor Candidate). r.now) c.get-in-Some-Some.result ≡ slice_get xs c.in-Some-Some.place = got_item xs c.in-Some-Some.place c.get-in-Some-Some.result c.get-in-Some-Some.ensures.lookup in
    place ∙ sym (sole_kept xs its c.in-Some-Some.place (subst (λ (k : Option (Option ℕ)). KeptAs xs k its) found (c.requires q)))

pub returns-in-Some-None : goal.returns-in-Some-None
returns-in-Some-None c =
    let xs = c.args.candidates.now in
    let q = c.args.isrc.now in
    let its = filter (is_candidate_for q) xs in
    let found : tree.get bytes_cmp c.args.self.now.places q ≡ Some None = cc (c.in-Some-None.ensures.value, c.in-Some-None.field-0-is) in
    sym (sole_of_several xs its (subst (λ (k : Option (Option ℕ)). KeptAs xs k its) found (c.requires q)))

pub returns-in-None : goal.returns-in-None
returns-in-None c =
    let xs = c.args.candidates.now in
    let q = c.args.isrc.now in
    let its = filter (is_candidate_for q) xs in
    let found : tree.get bytes_cmp c.args.self.now.places q ≡ None = sym c.in-None.ensures.value in
    sym (sole_of_none xs its (subst (λ (k : Option (Option ℕ)). KeptAs xs k its) found (c.requires q)))
