use Rattle.std.proofs.Common.{◌≡◌, ℕ, ◌<◌, ◌∷◌, ◌++◌, [], ◌∙◌, List, ap, sym, arith, length, sum}
use Rattle.std.specs.List.{zip}
use Rattle.std.proofs.lemmas.Bool.Decides.{nat_tests}
use Rattle.std.proofs.lemmas.List.{length-map}
use Rattle.std.proofs.lemmas.List.Folds.{flat_map-map}
use Rattle.pool_split.specs.Credits.{claim_credits, credits_together, paid_credits}
use Rattle.pool_split.specs.Split.{split_of}
use Rattle.pool_split.specs.declared.claim.Claim.{Claim}
use Rattle.pool_split.specs.declared.claim.Credit.{Credit}
use Rattle.pool_split.proofs.lemmas.Parts.{if_ok_both, length-split_of}
use Rattle.pool_split.proofs.lemmas.Units.{no_claims, some_claims, some_points}
use Rattle.pool_split.proofs.crediting.portions.Goals as goal

pub returns-then-is_empty : goal.returns-then-is_empty
returns-then-is_empty c =
    let none : length c.args.claims.now ≡ 0 = grind (arith, nat_tests) in
    ap credits_together (c.in_ok-push.ensures.items ∙ ap (λ (more : List (List Credit)). more ++ c.of_nobody.result ∷ []) c.new-list.ensures.items ∙ ap (λ (one : List Credit). one ∷ []) c.of_nobody.ensures)
    ∙ sym (no_claims c.args.amount c.args.claims.now none)

pub split-requires-clause-some : goal.split-requires-clause-some
split-requires-clause-some c =
    let some : 0 < length c.args.claims.now = grind (arith, nat_tests) in
    let points = ap sum (c.deref.ensures.value ∙ c.in_ok-points.ensures) in
    omega (arith, points, some_points c.args.claims.now some c.requires.payable)

pub portions_by-requires-clause-as_many : goal.portions_by-requires-clause-as_many
portions_by-requires-clause-as_many c =
    ap length (c.deref-2.ensures.value ∙ c.in_ok-parts.ensures.parts) ∙ length-split_of c.args.amount c.deref.result.now
    ∙ ap length (c.deref.ensures.value ∙ c.in_ok-points.ensures) ∙ length-map _ _

pub returns : goal.returns
returns c =
    let some : 0 < length c.args.claims.now = grind (arith, nat_tests) in
    let points = c.deref.ensures.value ∙ c.in_ok-points.ensures in
    let parts = c.deref-2.ensures.value ∙ c.in_ok-parts.ensures.parts ∙ ap (λ (weights : List ℕ). split_of c.args.amount weights) points in
    if_ok_both c.portions_by.result c.portions_by.ensures c.portions_by.ensures
    (λ list is _.
    ap credits_together is
    ∙ flat_map-map (λ (credits : List Credit). credits) (λ (paid : Claim × ℕ). claim_credits paid.0 paid.1) (zip c.args.claims.now c.deref-2.result.now)
    ∙ ap (λ (ps : List ℕ). paid_credits c.args.claims.now ps) parts ∙ sym (some_claims c.args.amount c.args.claims.now some))
