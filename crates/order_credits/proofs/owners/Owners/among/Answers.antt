use Rattle.std.proofs.Common.{◌≡◌, ℕ, ◌<◌, ◌++◌, [], ◌∷◌, List, Option, Some, None, length, take, ap, refl, sym, subst, ◌∙◌, arith, length-take-le, le_of_lt}
use Rattle.std.proofs.lemmas.List.{take_more}
use Rattle.std.specs.BTreeMap as tree
use Rattle.std.specs.List.{filter}
use Rattle.std.specs.Map.{lookup}
use Rattle.society_core.specs.Claims.{is_candidate_for}
use Rattle.society_core.specs.Keys.{bytes_cmp}
use Rattle.society_core.specs.declared.claim_list.Candidate.{Candidate}
use Rattle.order_credits.proofs.lemmas.OwnerTables.{kept_only, kept_several, owners_more}
use Rattle.order_credits.specs.Looked.{KeepsOwners, KeptAs}
use Rattle.order_credits.proofs.owners.Owners.among.Goals as goal
use Rattle.order_credits.proofs.owners.Owners.among.Goals.{then-contains_key, else-contains_key}

pub loop-place-init : goal.loop-place-init
loop-place-init c isrc = subst (λ (es : List (List ℕ × Option ℕ)). KeptAs [] (lookup (tree.is_at (bytes_cmp isrc)) es) []) (sym c.new-places.ensures.empty) refl

pub loop-place-preserved : goal.loop-place-preserved
loop-place-preserved c =
    let i = c.loop-place.place in
    let xs = c.args.candidates.now in
    let x = c.index-candidates-place.result in
    let within : i < length xs = omega arith in
    let before : length (take i xs) ≡ i = length-take-le i xs (le_of_lt within) in
    let was = tree.get bytes_cmp c.loop-place.places x.isrc in
    let its = filter (is_candidate_for x.isrc) (take i xs) in
    let known : KeptAs (take i xs ++ x ∷ []) (Some c.if-contains_key.known) (its ++ x ∷ []) =
    elim c.if-contains_key.branch [
      | then-contains_key w ↦
          subst (λ (k : Option ℕ). KeptAs (take i xs ++ x ∷ []) (Some k) (its ++ x ∷ [])) (sym w.known-is)
          (kept_several (take i xs) its x was (sym c.contains_key.ensures ∙ w.if-contains_key.true) (c.loop-place.invariant x.isrc))
      | else-contains_key w ↦
          subst (λ (k : Option ℕ). KeptAs (take i xs ++ x ∷ []) (Some k) (its ++ x ∷ [])) (ap (λ (n : ℕ). Some n) before ∙ sym w.known-is)
          (kept_only (take i xs) its x was (sym c.contains_key.ensures ∙ w.if-contains_key.false) (c.loop-place.invariant x.isrc))
    ] in
    let more = owners_more c.loop-place.places c.insert.new.self (take i xs) x c.if-contains_key.known c.loop-place.invariant known c.in_ok-insert.ensures.updates.0 in
    subst (λ (ys : List Candidate). KeepsOwners c.insert.new.self ys) (sym (take_more xs i x within ∙ ap (λ (y : Candidate). take i xs ++ y ∷ []) (sym c.index-candidates-place.is))) more
