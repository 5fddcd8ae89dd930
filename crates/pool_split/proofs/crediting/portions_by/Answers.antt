use Rattle.std.proofs.Common.{◌≡◌, ℕ, ◌<◌, ◌∷◌, ◌++◌, [], ◌∙◌, List, ap, sym, arith, get_or, length, map, take}
use Rattle.std.specs.List.{zip}
use Rattle.std.proofs.lemmas.List.{map-append, take_all, take_more}
use Rattle.std.proofs.lemmas.Slice.Zip.{get_or-zip, length-zip}
use Rattle.pool_split.specs.Credits.{claim_credits}
use Rattle.pool_split.specs.declared.claim.Claim.{Claim}
use Rattle.pool_split.specs.declared.claim.Credit.{Credit}
use Rattle.pool_split.proofs.crediting.portions_by.Goals as goal

abbrev paid_to : Claim × ℕ → List Credit
paid_to paid = claim_credits paid.0 paid.1

pub loop-place-preserved : goal.loop-place-preserved
loop-place-preserved c =
    let i = c.loop-place.place in
    let claims = c.args.claims.now in
    let parts = c.args.parts.now in
    let zs = zip claims parts in
    let x : Claim = c.index-claims-place.result in
    let p : ℕ = get_or parts i 0 in
    let d : Claim × ℕ = (x, 0) in
    let low : i < length parts = omega (arith, c.loop-place-test.true, c.requires.as_many) in
    let within : i < length zs = omega (arith, length-zip claims parts, c.loop-place-test.true, low) in
    let pair : get_or zs i d ≡ (x, p) = get_or-zip claims parts i d c.loop-place-test.true low ∙ ap (λ (y : Claim). let z : Claim × ℕ = (y, p) in z) (sym c.index-claims-place.is) in
    c.in_ok-push.ensures.items
    ∙ ap (λ (done : List (List Credit)). done ++ c.in_ok-of_claim.field-0 ∷ []) c.loop-place.invariant
    ∙ ap (λ (one : List Credit). map paid_to (take i zs) ++ one ∷ []) c.in_ok-of_claim.ensures
    ∙ ap (λ (y : Claim × ℕ). map paid_to (take i zs) ++ paid_to y ∷ []) (sym pair)
    ∙ sym (map-append paid_to (take i zs) (get_or zs i d ∷ []))
    ∙ ap (map paid_to) (sym (take_more zs i d within))

pub returns : goal.returns
returns c =
    let zs = zip c.args.claims.now c.args.parts.now in
    let all : take c.loop-place.place zs ≡ zs = take_all c.loop-place.place zs (omega (arith, length-zip c.args.claims.now c.args.parts.now, c.loop-place-test.false)) in
    c.loop-place.invariant ∙ ap (map paid_to) all
