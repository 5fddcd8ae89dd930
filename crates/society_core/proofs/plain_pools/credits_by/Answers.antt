use Rattle.std.proofs.Common.{◌≡◌, ◌∙◌, All, List, ℕ, ap, arith, map, subst, sum, sym}
use Rattle.std.specs.Result.{IfOk}
use Rattle.pool_split.specs.declared.claim.Credit.{Credit}
use Rattle.std.specs.List.Sorted.{IsStrictlySortedBy}
use Rattle.pool_split.specs.Credits.{Ascend, IsPayable, credits, points_claimed}
use Rattle.pool_split.specs.declared.claim.Claim.{Claim}
use Rattle.society_core.specs.Claims.{claims_among}
use Rattle.society_core.specs.Keys.{bytes_cmp}
use Rattle.society_core.specs.Points.{is_tallied, points_by_recording, rows_named}
use Rattle.society_core.specs.Pools.{claims_of, credits_of}
use Rattle.society_core.proofs.lemmas.CreditLemmas.{claims_are, claims_payable, isrcs_of_claims, points_of_claims}
use Rattle.society_core.proofs.lemmas.PointLemmas.{all_points_within, recordings_ascend, recordings_have_points, recordings_tallied}
use Rattle.society_core.proofs.plain_pools.credits_by.Goals as goal

pub credits-requires-clause-ascending : goal.credits-requires-clause-ascending
credits-requires-clause-ascending c =
    let office = c.args.office.now in
    let book = c.args.book.now in
    let order = c.args.order.now in
    let rows = rows_named book order in
    let ps = points_by_recording rows in
    let same : c.deref-3.result.now ≡ claims_of office book order =
    c.deref-3.ensures.value
    ∙ c.in_ok-claims.ensures
    ∙ ap (λ (xs : List (List ℕ × ℕ)). claims_among xs c.deref-2.result.now) (c.deref.ensures.value ∙ c.in_ok-points.ensures rows c.in_ok-tally.ensures.tally)
    ∙ ap (claims_among ps) c.deref-2.ensures.value
    ∙ claims_are office book order c.kind.result c.kind.ensures c.in_ok-candidates.candidates.items (is_tallied c.in_ok-tally.tally) ps (recordings_tallied c.in_ok-tally.tally rows c.in_ok-tally.ensures.tally) c.in_ok-candidates.ensures in
    subst Ascend (sym same) (subst (IsStrictlySortedBy bytes_cmp) (sym (isrcs_of_claims office book order ps)) (recordings_ascend rows))

pub credits-requires-clause-payable : goal.credits-requires-clause-payable
credits-requires-clause-payable c =
    let office = c.args.office.now in
    let book = c.args.book.now in
    let order = c.args.order.now in
    let rows = rows_named book order in
    let ps = points_by_recording rows in
    let same : c.deref-3.result.now ≡ claims_of office book order =
    c.deref-3.ensures.value
    ∙ c.in_ok-claims.ensures
    ∙ ap (λ (xs : List (List ℕ × ℕ)). claims_among xs c.deref-2.result.now) (c.deref.ensures.value ∙ c.in_ok-points.ensures rows c.in_ok-tally.ensures.tally)
    ∙ ap (claims_among ps) c.deref-2.ensures.value
    ∙ claims_are office book order c.kind.result c.kind.ensures c.in_ok-candidates.candidates.items (is_tallied c.in_ok-tally.tally) ps (recordings_tallied c.in_ok-tally.tally rows c.in_ok-tally.ensures.tally) c.in_ok-candidates.ensures in
    subst (All IsPayable) (sym same) (claims_payable office book order ps (recordings_have_points rows c.in_ok-tally.ensures.tally.played))

pub credits-requires-clause-points : goal.credits-requires-clause-points
credits-requires-clause-points c =
    let office = c.args.office.now in
    let book = c.args.book.now in
    let order = c.args.order.now in
    let rows = rows_named book order in
    let ps = points_by_recording rows in
    let same : c.deref-3.result.now ≡ claims_of office book order =
    c.deref-3.ensures.value
    ∙ c.in_ok-claims.ensures
    ∙ ap (λ (xs : List (List ℕ × ℕ)). claims_among xs c.deref-2.result.now) (c.deref.ensures.value ∙ c.in_ok-points.ensures rows c.in_ok-tally.ensures.tally)
    ∙ ap (claims_among ps) c.deref-2.ensures.value
    ∙ claims_are office book order c.kind.result c.kind.ensures c.in_ok-candidates.candidates.items (is_tallied c.in_ok-tally.tally) ps (recordings_tallied c.in_ok-tally.tally rows c.in_ok-tally.ensures.tally) c.in_ok-candidates.ensures in
    let total : sum (points_claimed c.deref-3.result.now) ≡ sum (map (λ (e : List ℕ × ℕ). e.1) ps) = ap (λ (cs : List Claim). sum (points_claimed cs)) same ∙ ap sum (points_of_claims office book order ps) in
    let within = all_points_within rows c.in_ok-tally.ensures.tally.played c.in_ok-tally.ensures.limit in
    omega (arith, total, within)

pub returns-clause-credits : goal.returns-clause-credits
unfolding credits_of
returns-clause-credits c =
    let office = c.args.office.now in
    let book = c.args.book.now in
    let order = c.args.order.now in
    let rows = rows_named book order in
    let ps = points_by_recording rows in
    let same : c.deref-3.result.now ≡ claims_of office book order =
    c.deref-3.ensures.value
    ∙ c.in_ok-claims.ensures
    ∙ ap (λ (xs : List (List ℕ × ℕ)). claims_among xs c.deref-2.result.now) (c.deref.ensures.value ∙ c.in_ok-points.ensures rows c.in_ok-tally.ensures.tally)
    ∙ ap (claims_among ps) c.deref-2.ensures.value
    ∙ claims_are office book order c.kind.result c.kind.ensures c.in_ok-candidates.candidates.items (is_tallied c.in_ok-tally.tally) ps (recordings_tallied c.in_ok-tally.tally rows c.in_ok-tally.ensures.tally) c.in_ok-candidates.ensures in
    subst (λ (list : List Credit). IfOk c.credits.result (λ credits. credits.items ≡ list)) (ap (λ (n : ℕ). credits n c.deref-3.result.now) c.amount.ensures.value ∙ ap (credits order.amount) same) c.credits.ensures.credits
