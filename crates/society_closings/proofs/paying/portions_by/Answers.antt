use Rattle.std.proofs.Common.{◌≡◌, refl, ◌∙◌, All, List, ℕ, ap, arith, map, subst, sum, sym}
use Rattle.std.proofs.lemmas.Bool.{false≢true}
use Rattle.std.specs.List.Sorted.{IsStrictlySortedBy}
use Rattle.pool_split.specs.Credits.{ArePayable, Ascend, IsPayable, credits, points_claimed}
use Rattle.pool_split.specs.declared.claim.Claim.{Claim}
use Rattle.society_core.proofs.lemmas.CreditLemmas.{claims_are, claims_payable, isrcs_of_claims, points_of_claims}
use Rattle.society_core.proofs.lemmas.PointLemmas.{all_points_within, recordings_ascend, recordings_have_points, recordings_tallied}
use Rattle.society_core.specs.Claims.{claims_among}
use Rattle.society_core.specs.Keys.{bytes_cmp}
use Rattle.society_core.specs.Points.{is_tallied, points_by_recording, rows_named}
use Rattle.society_core.specs.Pools.{claims_of, credits_of}
use Rattle.society_closings.proofs.paying.portions_by.Goals as goal

pub returns-clause-pays : goal.returns-clause-pays
unfolding credits_of
returns-clause-pays c office book tallied stand =
    let order = c.args.order.now in
    let tally = c.args.tally.now in
    let rows = rows_named book order in
    let ps = points_by_recording rows in
    let same : c.deref-3.result.now ≡ claims_of office book order =
    c.deref-3.ensures.value
    ∙ c.in_ok-claims.ensures
    ∙ ap (λ (xs : List (List ℕ × ℕ)). claims_among xs c.args.candidates.now) (c.deref.ensures.value ∙ c.in_ok-points.ensures rows tallied)
    ∙ claims_are office book order order.kind refl c.args.candidates.now (is_tallied tally) ps (recordings_tallied tally rows tallied) stand in
    c.in_ok-portions.ensures ∙ (ap (λ (n : ℕ). credits n c.deref-3.result.now) c.amount.ensures.value ∙ ap (credits order.amount) same)

pub returns-then-not-are_payable-clause-blames : goal.returns-then-not-are_payable-clause-blames
returns-then-not-are_payable-clause-blames c office book tallied few stand =
    let order = c.args.order.now in
    let tally = c.args.tally.now in
    let rows = rows_named book order in
    let ps = points_by_recording rows in
    let same : c.deref-2.result.now ≡ claims_of office book order =
    c.deref-2.ensures.value
    ∙ c.in_ok-claims.ensures
    ∙ ap (λ (xs : List (List ℕ × ℕ)). claims_among xs c.args.candidates.now) (c.deref.ensures.value ∙ c.in_ok-points.ensures rows tallied)
    ∙ claims_are office book order order.kind refl c.args.candidates.now (is_tallied tally) ps (recordings_tallied tally rows tallied) stand in
    let total : sum (points_claimed c.deref-2.result.now) ≡ sum (map (λ (e : List ℕ × ℕ). e.1) ps) = ap (λ (cs : List Claim). sum (points_claimed cs)) same ∙ ap sum (points_of_claims office book order ps) in
    let within = all_points_within rows tallied.played few in
    let payable : ArePayable c.deref-2.result.now = record {
      ascending = subst Ascend (sym same) (subst (IsStrictlySortedBy bytes_cmp) (sym (isrcs_of_claims office book order ps)) (recordings_ascend rows));
      payable = subst (All IsPayable) (sym same) (claims_payable office book order ps (recordings_have_points rows tallied.played));
      points = omega (arith, total, within);
    } in
    false≢true (sym c.if-not-are_payable.true ∙ c.are_payable.ensures.1 payable)
