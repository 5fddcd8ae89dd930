-- A version of a work is a clean transaction, so that its weights can be paid.
use Rattle.std.proofs.Common.{◌≡◌, ℕ, zero, suc, ◌+◌, ◌<◌, ◌≤◌, Bool, true, false, ◌&&◌, cond, List, [], ◌∷◌, length, map, nat_le, get_or, Option, Some, None, refl, ap, sym, subst, ◌∙◌, arith}
use Rattle.std.proofs.Common.{◌==◌, All, is_some, Result, Ok, Err, is_none, option_map, slice_get, unwrap_or, flat_map}
use Rattle.std.specs.Cmp.{unsigned_Decides}
use Rattle.std.specs.List.{AllByRecursion, enumerate_from, filter, list_all}
use Rattle.std.proofs.lemmas.List.Elements.{All-map}
use Rattle.std.proofs.lemmas.Simd.{map-map}
use Rattle.cwr_files.specs.Contents.{transactions_of, transmission_in}
use Rattle.cwr_files.specs.Transaction.{number_of_work}
use Rattle.cwr_files.specs.declared.transmission.Transaction.{Transaction}
use Rattle.cwr_files.specs.declared.transmission.Transmission.{Transmission}
use Rattle.perf_returns.specs.Returns.{return_fault}
use Rattle.perf_returns.specs.declared.fault.ReturnFault.{ReturnFault}
use Rattle.pool_split.specs.Credits.{HasWeights, IsPayable}
use Rattle.pool_split.specs.declared.claim.Claim.{Claim}
use Rattle.share_rules.specs.Fault.{fault_of}
use Rattle.share_rules.specs.declared.holder.Holder.{Holder}
use Rattle.share_rules.specs.declared.office.Office.{Office}
use Rattle.share_rules.proofs.lemmas.Whole.{clean_is_whole}
use Rattle.work_ids.specs.Numbers.{is_pool_number, is_return_number}
use Rattle.work_ids.specs.declared.fault.IdFault.{IdFault}
use Rattle.works_core.specs.Line.{filled_number, judged, judged_by, judged_in}
use Rattle.works_core.specs.Numbered.{JudgedTransmission}
use Rattle.society_core.specs.Book.{Book, IsSound, body_at, is_applied, is_reporter, numbers_to, order_at, return_at}
use Rattle.society_core.specs.Candidates.{Claimant, HasReturns, ReachesCut, StandFor, claimant_by, claimant_of, transactions_sent}
use Rattle.society_core.specs.Claims.{claims_among, is_candidate_for}
use Rattle.society_core.specs.Orders.{Order}
use Rattle.society_core.specs.Owners.{CutWork, cut_work, is_at, is_version_at, names_recording, owner, sole, versions_at_cut, versions_of_transmission, works_of_cut}
use Rattle.society_core.specs.Pools.{claim_of, holders_of}
use Rattle.society_core.specs.declared.claim_list.Candidate.{Candidate}
use Rattle.society_core.specs.declared.return_key.ReturnKey.{ReturnKey}
use Rattle.society_core.specs.declared.transmission_key.TransmissionKey.{TransmissionKey}
use Rattle.society_core.proofs.lemmas.Lines.{judged_under, line_over, line_to, over_up_to}
use Rattle.std.proofs.lemmas.Bool.{false≢true}
use Rattle.works_core.specs.Verdicts.{concerns, is_accepted}
use Rattle.works_core.specs.Versions.{Placed, work_at, is_version, judged_of, last_version, placed_at, placed_behind, placed_behind_all, placed_line, version_of}
use Rattle.works_core.specs.declared.judged.Judged.{Judged}
use Rattle.works_core.specs.declared.judged.Judged.TheVariants.{Clean, Faulty}
use Rattle.works_core.specs.declared.version.WorkVersion.{WorkVersion}
use Rattle.society_core.proofs.lemmas.CandidateLemmas.{all_append, both, versions_over}
use Rattle.share_rules.specs.declared.kind.Kind.{Kind}

-- whether a transaction is clean
abbrev pub is_clean : Judged → Bool
is_clean (Clean kind number) = true
is_clean (Faulty fault) = false

concerns_clean : (work : List ℕ) (j : Judged) → concerns work j ≡ true → is_clean j ≡ true
concerns_clean work (Clean kind number) h = refl
concerns_clean work (Faulty fault) h = absurd (false≢true h)

module _ (P : Placed → Type 0) where
  stand_behind : (past : List Placed) (n p : ℕ) (js : List Judged) → AllByRecursion P past → ((k : ℕ) → k < length js → P (placed_at n (p + k) (get_or js k (Faulty 0)))) → AllByRecursion P (placed_behind past n p js)
  stand_behind past n p [] all more = all
  stand_behind past n p (j ∷ js) all more =
      let here : p + 0 ≡ p = omega arith in
      stand_behind (placed_at n p j ∷ past) n (p + 1) js
      (subst (λ (k : ℕ). P (placed_at n k j)) here (more 0 (omega arith)), all)
      (λ k h. let next : p + suc k ≡ p + 1 + k = omega arith in subst (λ (i : ℕ). P (placed_at n i (get_or js k (Faulty 0)))) next (more (suc k) (omega arith)))

module _ (office : Office) (book : Book) (sender : List ℕ) where
  -- what is judged of a transaction of a sender by its place in its transmission
  abbrev pub judged_there : ℕ → ℕ → Judged
  judged_there number place = get_or (judged_in office (transmission_in (unwrap_or (body_at book sender number) []))) place (Faulty 0)

  -- a transaction stands where its number and place say
  abbrev Stands : Placed → Type 0
  Stands t = judged_there t.transmission t.place ≡ t.judged

  -- the last version of a work is a clean transaction of the work where it stands
  version_concerns : (work : List ℕ) (past : List Placed) (v : WorkVersion) → AllByRecursion Stands past → last_version work past ≡ Some v → concerns work (judged_there v.transmission v.place) ≡ true
  version_concerns work [] v all e = absurd (cc)
  version_concerns work (t ∷ past) v all e = by_case (is_version work past t) refl e (version_concerns work past v all.1)
    where
      by_case : (b : Bool) → is_version work past t ≡ b → cond b (Some (version_of work past t)) (last_version work past) ≡ Some v → (last_version work past ≡ Some v → concerns work (judged_there v.transmission v.place) ≡ true) → concerns work (judged_there v.transmission v.place) ≡ true
      by_case false is told later = later told
      by_case true is told later =
          let same : version_of work past t ≡ v = cc in
          ap (λ (w : WorkVersion). concerns work (judged_there w.transmission w.place)) (sym same) ∙ ap (concerns work) all.0 ∙ (both (is_accepted (judged_of past) t.judged) (concerns work t.judged) is).1

  -- each transaction of the transmissions under some numbers stands there
  over_stands : (past : List Placed) (ns : List ℕ) → AllByRecursion Stands past → AllByRecursion Stands (placed_behind_all past (line_over office book sender ns))
  over_stands past [] all = all
  over_stands past (n ∷ ns) all =
      let first = judged_under office book sender n in
      over_stands (placed_behind past n 0 first.judged) ns
      (stand_behind Stands past n 0 first.judged all
      (λ k below. let place : 0 + k ≡ k = omega arith in ap (λ (i : ℕ). get_or first.judged i (Faulty 0)) place))

  -- the version of a work at a cut is a clean transaction of the work where it stands
  pub version_at_concerns : (work : List ℕ) (cut : ℕ) (v : WorkVersion) → work_at (line_to office book sender cut) work cut ≡ Some v → concerns work (judged_there v.transmission v.place) ≡ true
  unfolding work_at
  version_at_concerns work cut v e =
      let ns = filter (λ m. nat_le m cut) (numbers_to book sender cut) in
      version_concerns work (placed_line (line_over office book sender ns)) v (over_stands [] ns tt)
      (ap (λ (l : List JudgedTransmission). last_version work (placed_line l)) (sym (over_up_to office book sender cut (numbers_to book sender cut))) ∙ e)

clean_fault : (office : Office) (t : Transaction) → is_clean (judged office t) ≡ true → fault_of office t ≡ None
clean_fault office t e = by_case (fault_of office t) e
  where
    by_case : (f : Option ℕ) → is_clean (judged_by t.kind (filled_number t) f) ≡ true → f ≡ None
    by_case None h = refl
    by_case (Some fault) h = absurd (false≢true h)

get_mapped : (office : Office) (ts : List Transaction) (place : ℕ) (t : Transaction) → slice_get ts place ≡ Some t → get_or (map (judged office) ts) place (Faulty 0) ≡ judged office t
get_mapped office [] place t e = absurd (cc)
get_mapped office (x ∷ ts) zero t e = let same : x ≡ t = cc in ap (judged office) same
get_mapped office (x ∷ ts) (suc place) t e = get_mapped office ts place t e

pub sent_clean : (office : Office) (sent : Transmission) (place : ℕ) (t : Transaction) → slice_get (transactions_of sent) place ≡ Some t → get_or (judged_in office sent) place (Faulty 0) ≡ judged office t
unfolding judged_in
sent_clean office sent place t e = get_mapped office (transactions_of sent) place t e

get_none : (office : Office) (ts : List Transaction) (place : ℕ) → slice_get ts place ≡ None → get_or (map (judged office) ts) place (Faulty 0) ≡ Faulty 0
get_none office [] zero none = refl
get_none office [] (suc place) none = refl
get_none office (x ∷ ts) zero none = absurd (cc)
get_none office (x ∷ ts) (suc place) none = get_none office ts place none

sent_none : (office : Office) (sent : Transmission) (place : ℕ) → slice_get (transactions_of sent) place ≡ None → get_or (judged_in office sent) place (Faulty 0) ≡ Faulty 0
unfolding judged_in
sent_none office sent place none = get_none office (transactions_of sent) place none

-- a version of a work is a transaction that is there
pub version_there : (office : Office) (book : Book) (sender work : List ℕ) (cut : ℕ) (v : WorkVersion) → work_at (line_to office book sender cut) work cut ≡ Some v → slice_get (transactions_sent book sender v.transmission) v.place ≡ None → ⊥
version_there office book sender work cut v its none =
    false≢true
    (sym (ap (concerns work) (sent_none office (transmission_in (unwrap_or (body_at book sender v.transmission) [])) v.place none))
    ∙ version_at_concerns office book sender work cut v its)

pub same_number : (a b : ℕ) → (a == b) ≡ true → a ≡ b
same_number a b e = (unsigned_Decides a b).0 e

-- a transaction that is a version at a cut has no fault
pub version_has_no_fault : (office : Office) (book : Book) (key : TransmissionKey) (n place : ℕ) (t : Transaction) → slice_get (transactions_sent book key.sender n) place ≡ Some t → is_version_at office book key n place (number_of_work t) ≡ true → fault_of office t ≡ None
version_has_no_fault office book key n place t there e = by_work (number_of_work t) e
  where
    by_version : (work : List ℕ) (v : Option WorkVersion) → work_at (line_to office book key.sender key.number) work key.number ≡ v → is_at n place v ≡ true → fault_of office t ≡ None
    by_version work None is h = absurd (false≢true h)
    by_version work (Some v) is h =
        let parts = both (v.transmission == n) (v.place == place) h in
        let number : v.transmission ≡ n = same_number v.transmission n parts.0 in
        let at : v.place ≡ place = same_number v.place place parts.1 in
        let its : judged_there office book key.sender v.transmission v.place ≡ judged office t =
        ap (λ (k : ℕ). judged_there office book key.sender k v.place) number
        ∙ ap (judged_there office book key.sender n) at
        ∙ sent_clean office (transmission_in (unwrap_or (body_at book key.sender n) [])) place t there in
        clean_fault office t (ap is_clean (sym its) ∙ concerns_clean work (judged_there office book key.sender v.transmission v.place) (version_at_concerns office book key.sender work key.number v is))

    by_work : (r : Result (List ℕ) IdFault) → is_version_at office book key n place r ≡ true → fault_of office t ≡ None
    by_work (Ok work) h = by_version work (work_at (line_to office book key.sender key.number) work key.number) refl h
    by_work (Err fault) h = absurd (false≢true h)

-- whether a work of a cut has no fault
abbrev pub HasNoFault : Office → CutWork → Type 0
HasNoFault office work = fault_of office work.transaction ≡ None

placed_clean : (office : Office) (book : Book) (key : TransmissionKey) (number n : ℕ) (ts : List Transaction) →
    ((k : ℕ) (t : Transaction) → slice_get ts k ≡ Some t → is_version_at office book key number (n + k) (number_of_work t) ≡ true → fault_of office t ≡ None) →
    AllByRecursion (HasNoFault office) (map (λ (p : ℕ × Transaction). cut_work key.sender p.1) (filter (λ (p : ℕ × Transaction). is_version_at office book key number p.0 (number_of_work p.1)) (enumerate_from n ts)))
placed_clean office book key number n [] h = tt
placed_clean office book key number n (t ∷ ts) h =
    by_case (is_version_at office book key number n (number_of_work t)) refl
    (placed_clean office book key number (n + 1) ts (λ k x there e. let next : n + 1 + k ≡ n + suc k = omega arith in h (suc k) x there (ap (λ (i : ℕ). is_version_at office book key number i (number_of_work x)) (sym next) ∙ e)))
  where
    rest : List (ℕ × Transaction)
    rest = filter (λ (p : ℕ × Transaction). is_version_at office book key number p.0 (number_of_work p.1)) (enumerate_from (n + 1) ts)

    by_case : (b : Bool) → is_version_at office book key number n (number_of_work t) ≡ b → AllByRecursion (HasNoFault office) (map (λ (p : ℕ × Transaction). cut_work key.sender p.1) rest) → AllByRecursion (HasNoFault office) (map (λ (p : ℕ × Transaction). cut_work key.sender p.1) (cond b ((n, t) ∷ rest) rest))
    by_case false is more = more
    by_case true is more = let here : n + 0 ≡ n = omega arith in (h 0 t refl (ap (λ (i : ℕ). is_version_at office book key number i (number_of_work t)) here ∙ is), more)

sender_clean : (office : Office) (book : Book) (key : TransmissionKey) (ns : List ℕ) → AllByRecursion (HasNoFault office) (versions_over office book key ns)
sender_clean office book key [] = tt
sender_clean office book key (n ∷ ns) =
    let sent = transactions_sent book key.sender n in
    all_append (HasNoFault office) (versions_of_transmission office book key n sent) (versions_over office book key ns)
    (placed_clean office book key n 0 sent (λ k t there e. let same : 0 + k ≡ k = omega arith in version_has_no_fault office book key n k t there (ap (λ (i : ℕ). is_version_at office book key n i (number_of_work t)) (sym same) ∙ e)))
    (sender_clean office book key ns)

-- the works of a cut have no fault
pub works_clean : (office : Office) (book : Book) (keys : List TransmissionKey) → AllByRecursion (HasNoFault office) (flat_map (versions_at_cut office book) keys)
works_clean office book [] = tt
works_clean office book (key ∷ keys) = all_append (HasNoFault office) (versions_at_cut office book key) (flat_map (versions_at_cut office book) keys) (sender_clean office book key (numbers_to book key.sender key.number)) (works_clean office book keys)

pub filter_all : {X : Type 0} (P : X → Type 0) (p : X → Bool) (xs : List X) → AllByRecursion P xs → AllByRecursion P (filter p xs)
filter_all P p [] all = tt
filter_all P p (x ∷ xs) all = by_case (p x) (filter_all P p xs all.1)
  where
    by_case : (b : Bool) → AllByRecursion P (filter p xs) → AllByRecursion P (cond b (x ∷ filter p xs) (filter p xs))
    by_case true more = (all.0, more)
    by_case false more = more

sole_weights : (right : Kind) (office : Office) (works : List CutWork) → AllByRecursion (HasNoFault office) works → HasWeights (option_map (holders_of right office) (sole works))
sole_weights right office [] all = tt
sole_weights right office (w ∷ []) all = let whole = clean_is_whole right w.sender office w.transaction all.0 in (omega (arith, whole.0), omega (arith, whole.1))
sole_weights right office (w ∷ v ∷ more) all = tt

-- the holders of an owner have weights
pub owner_has_weights : (right : Kind) (office : Office) (book : Book) (order : Order) (isrc : List ℕ) → HasWeights (option_map (holders_of right office) (owner office book order isrc))
owner_has_weights right office book order isrc = sole_weights right office (filter (names_recording isrc) (works_of_cut office book order)) (filter_all (HasNoFault office) (names_recording isrc) (works_of_cut office book order) (works_clean office book order.cut))

sole_map : {X Y : Type 0} (f : X → Y) (xs : List X) → option_map f (sole xs) ≡ sole (map f xs)
sole_map f [] = refl
sole_map f (x ∷ []) = refl
sole_map f (x ∷ y ∷ more) = refl

-- a claim with these holders
abbrev pub claim_with : List ℕ × ℕ → Option (List Holder) → Claim
claim_with played holders = record { isrc = played.0; points = played.1; holders = holders }

-- the claims among candidates that stand for the works of a cut are those of the pool
pub claims_are : (office : Office) (book : Book) (order : Order) (right : Kind) → right ≡ order.kind → (candidates : List Candidate) (of_these : List ℕ → Bool) (ps : List (List ℕ × ℕ)) → AllByRecursion (λ p. of_these p.0 ≡ true) ps → StandFor (holders_of right office) of_these (works_of_cut office book order) candidates → claims_among ps candidates ≡ map (claim_of office book order) ps
claims_are office book order right is candidates of_these [] these stand = refl
claims_are office book order right is candidates of_these (p ∷ ps) these stand =
    let same : option_map (λ (c : Candidate). c.holders) (sole (filter (is_candidate_for p.0) candidates)) ≡ option_map (holders_of order.kind office) (owner office book order p.0) =
    sole_map (λ (c : Candidate). c.holders) (filter (is_candidate_for p.0) candidates)
    ∙ ap sole (sym (map-map (λ (c : Claimant). c.holders) claimant_of (filter (is_candidate_for p.0) candidates)))
    ∙ ap (λ (cs : List Claimant). sole (map (λ (c : Claimant). c.holders) cs)) (stand.same p.0 these.0)
    ∙ ap sole (map-map (λ (c : Claimant). c.holders) (claimant_by (holders_of right office)) (filter (names_recording p.0) (works_of_cut office book order)))
    ∙ sym (sole_map (holders_of right office) (filter (names_recording p.0) (works_of_cut office book order)))
    ∙ ap (λ (k : Kind). option_map (holders_of k office) (owner office book order p.0)) is in
    ap (λ (hs : Option (List Holder)). claim_with p hs ∷ claims_among ps candidates) same
    ∙ ap (λ (cs : List Claim). claim_of office book order p ∷ cs) (claims_are office book order right is candidates of_these ps these.1 stand)

-- what is read of each claim
pub isrcs_of_claims : (office : Office) (book : Book) (order : Order) (ps : List (List ℕ × ℕ)) → map (λ (c : Claim). c.isrc) (map (claim_of office book order) ps) ≡ map (λ (e : List ℕ × ℕ). e.0) ps
isrcs_of_claims office book order [] = refl
isrcs_of_claims office book order (p ∷ ps) = ap (λ r. p.0 ∷ r) (isrcs_of_claims office book order ps)

pub points_of_claims : (office : Office) (book : Book) (order : Order) (ps : List (List ℕ × ℕ)) → map (λ (c : Claim). c.points) (map (claim_of office book order) ps) ≡ map (λ (e : List ℕ × ℕ). e.1) ps
points_of_claims office book order [] = refl
points_of_claims office book order (p ∷ ps) = ap (λ r. p.1 ∷ r) (points_of_claims office book order ps)

-- the claims of a pool can be paid
pub claims_payable : (office : Office) (book : Book) (order : Order) (ps : List (List ℕ × ℕ)) → All (λ (e : List ℕ × ℕ). 1 ≤ e.1) ps → All IsPayable (map (claim_of office book order) ps)
claims_payable office book order ps h = All-map IsPayable (claim_of office book order) ps (λ k d low. record { points = h k d low; holders = owner_has_weights order.kind office book order _ })

-- what stands in a sound book of an order
pub order_has_returns : (book : Book) (pool : ℕ) (order : Order) → IsSound book → order_at book pool ≡ Some order → HasReturns book order
order_has_returns book pool order sound there =
    let cuts = list_all (is_applied book) order.cut in
    let returns = list_all (λ (key : ReturnKey). is_some (return_at book key)) order.returns in
    (both (is_pool_number pool && cuts) returns (sound.pools pool order there)).1

pub order_reaches_cut : (book : Book) (pool : ℕ) (order : Order) → IsSound book → order_at book pool ≡ Some order → ReachesCut book order
order_reaches_cut book pool order sound there =
    let cuts = list_all (is_applied book) order.cut in
    let returns = list_all (λ (key : ReturnKey). is_some (return_at book key)) order.returns in
    (both (is_pool_number pool) cuts (both (is_pool_number pool && cuts) returns (sound.pools pool order there)).0).1

-- a return of a sound book has no fault
pub return_has_no_fault : (book : Book) (key : ReturnKey) (body : List ℕ) (fault : ReturnFault) → IsSound book → return_at book key ≡ Some body → return_fault body ≡ Some fault → ⊥
return_has_no_fault book key body fault sound there e =
    false≢true (ap is_none (sym e) ∙ (both (is_reporter key.reporter && is_return_number key.number) (is_none (return_fault body)) (sound.returns key body there)).1)
