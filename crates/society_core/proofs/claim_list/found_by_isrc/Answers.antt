use Rattle.std.proofs.Common.{◌≡◌, ℕ, ◌<◌, ◌++◌, [], ◌∷◌, List, length, take, ap, sym, subst, ◌∙◌, arith, length-take-le, le_of_lt}
use Rattle.std.proofs.lemmas.List.{take_more}
use Rattle.std.specs.BTreeMap as tree
use Rattle.society_core.specs.Claims.{Indexes}
use Rattle.society_core.specs.Keys.{bytes_cmp}
use Rattle.society_core.specs.declared.claim_list.Candidate.{Candidate}
use Rattle.society_core.proofs.lemmas.ClaimLemmas.{added, added_only, added_several, table_more}
use Rattle.society_core.proofs.claim_list.found_by_isrc.Goals as goal
use Rattle.society_core.proofs.claim_list.found_by_isrc.Goals.{then-contains_key, else-contains_key}

pub loop-place-preserved : goal.loop-place-preserved
loop-place-preserved c =
    let i = c.loop-place.place in
    let xs = c.args.candidates.now in
    let x = c.index-candidates-place.result in
    let within : i < length xs = omega arith in
    let before : length (take i xs) ≡ i = length-take-le i xs (le_of_lt within) in
    let known : c.if-contains_key.known ≡ added i (tree.get bytes_cmp c.loop-place.found x.isrc) =
    elim c.if-contains_key.branch [
      | then-contains_key w ↦ w.known-is ∙ added_several i (tree.get bytes_cmp c.loop-place.found x.isrc) (sym c.contains_key.ensures ∙ w.if-contains_key.true)
      | else-contains_key w ↦ w.known-is ∙ added_only i (tree.get bytes_cmp c.loop-place.found x.isrc) (sym c.contains_key.ensures ∙ w.if-contains_key.false)
    ] in
    let more = table_more c.loop-place.found c.insert.new.self (take i xs) x c.if-contains_key.known c.loop-place.invariant (known ∙ ap (λ (n : ℕ). added n (tree.get bytes_cmp c.loop-place.found x.isrc)) (sym before)) c.in_ok-insert.ensures.updates.0 in
    subst (λ (ys : List Candidate). Indexes c.insert.new.self ys) (sym (take_more xs i x within ∙ ap (λ (y : Candidate). take i xs ++ y ∷ []) (sym c.index-candidates-place.is))) more
