use Rattle.std.proofs.Common.{◌≡◌, ◌∙◌, List, ℕ, Ok, ap, ap₂, bytes_eq, map, option_map, subst, sum, sym, rules}
use Rattle.std.specs.List.{list_any, zip}
use Rattle.sqlite.specs.Held.{state}
use Rattle.pool_split.specs.Split.{split_of}
use Rattle.society_book.proofs.lemmas.together.StepLemmas.{looks_then}
use Rattle.society_core.specs.Candidates.{StandFor}
use Rattle.society_core.specs.Owners.{works_of_cut}
use Rattle.society_core.specs.Pools.{holders_of}
use Rattle.society_core.specs.declared.claim_list.Candidate.{Candidate}
use Rattle.order_credits.proofs.lemmas.ShareLemmas.{shares_of_some, stand_for_wanted}
use Rattle.order_credits.specs.Looked.{StandForWanted, sought}
use Rattle.order_credits.specs.Shares.{Played, points_played, recording_share, shares_wanted}
use Rattle.order_credits.proofs.sharing.shares_by.Goals as goal

pub returns : goal.returns
returns g c = record {
  looks = record {
    same_reference = search rules;
    says =
        let o = c.args.office.now in
        let order = c.args.order.now in
        let played = c.args.played.now in
        let wanted = option_map (λ set. set.now) c.args.wanted in
        let cs = c.in_ok-candidates.candidates.items in
        let total = c.in-Some.total in
        let points = c.in_ok-points.ensures in
        let parts : List ℕ = split_of order.amount (points_played played) in
        let total_is : total ≡ sum (points_played played) = c.in-Some.ensures.0 ∙ ap sum (c.deref.ensures.value ∙ points) in
        let paid_is : c.deref-5.result.now ≡ zip played parts =
        c.deref-5.ensures.value ∙ c.in_ok-paid.ensures ∙ ap (zip played) (c.deref-3.ensures.value ∙ c.in_ok-parts.ensures.parts ∙ ap₂ split_of c.amount.ensures.value (c.deref-2.ensures.value ∙ points)) in
        let sought_is : c.deref-4.result.now ≡ sought wanted played = c.deref-4.ensures.value ∙ c.in_ok-isrcs.ensures in
        looks_then (state g.S.Store c.args.tx.now.conn.now) (state g.S.Store c.candidates_for.new.tx.conn.now) (state g.S.Store c.shares_paid.new.tx.conn.now) c.in_ok-candidates.candidates c.shares_paid.result _ _ _
        c.in_ok-candidates.ensures.looks.says c.shares_paid.ensures.looks.says
        (λ y are shares b holds reached.
        let P : List Candidate → List (Played × ℕ) → ℕ → Type 0 = λ xs ps t. StandForWanted o b order wanted xs ps → y.items ≡ shares_wanted wanted (map (recording_share o b order t) ps) in
        let its : P c.deref-6.result.now c.deref-5.result.now total = shares o b holds reached in
        let moved : P cs (zip played parts) (sum (points_played played)) =
        subst (P cs (zip played parts)) total_is (subst (λ (ps : List (Played × ℕ)). P cs ps total) paid_is (subst (λ (xs : List Candidate). P xs c.deref-5.result.now total) c.deref-6.ensures.value its)) in
        let stand = subst (λ (l : List (List ℕ)). StandFor (holders_of order.kind o) (λ isrc. list_any (bytes_eq isrc) l) (works_of_cut o b order) cs) sought_is (are b holds reached) in
        moved (stand_for_wanted o b order wanted cs (sought wanted played) played parts stand (λ q h. h))
        ∙ ap (shares_wanted wanted) (shares_of_some o b order played (sym c.is_empty.ensures ∙ c.if-is_empty.false)));
  };
}
