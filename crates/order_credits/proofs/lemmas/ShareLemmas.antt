-- Shares of recordings, one after another.
use Rattle.std.proofs.Common.{◌≡◌, ◌∙◌, ◌||◌, ◌==◌, ℕ, zero, suc, Bool, true, false, cond, List, [], ◌∷◌, ◌++◌, length, map, Option, Some, None, refl, ap, sym, sum}
use Rattle.std.proofs.lemmas.List.{map-append}
use Rattle.std.proofs.lemmas.Bool.{false≢true}
use Rattle.std.proofs.lemmas.List.Elements.{filter-append}
use Rattle.std.proofs.lemmas.Slice.Eq.{bytes_eq-Decides}
use Rattle.std.specs.List.{AllByRecursion, filter, list_any, zip}
use Rattle.std.specs.Str.{bytes_eq}
use Rattle.pool_split.specs.Split.{remainder, split_of}
use Rattle.share_rules.specs.declared.office.Office.{Office}
use Rattle.society_core.proofs.lemmas.CreditLemmas.{same_number}
use Rattle.society_core.specs.Book.{Book}
use Rattle.society_core.specs.Candidates.{StandFor}
use Rattle.society_core.specs.Orders.{Order}
use Rattle.society_core.specs.Owners.{works_of_cut}
use Rattle.society_core.specs.Pools.{holders_of}
use Rattle.society_core.specs.declared.claim_list.Candidate.{Candidate}
use Rattle.order_credits.specs.Looked.{Recordings, StandAt, StandForWanted, sought}
use Rattle.order_credits.specs.Shares.{Played, is_wanted, owner_at_cut, parts_owned, points_played, recording_share, recording_shares_by, shares_wanted}
use Rattle.order_credits.specs.declared.share.OwnedVersion.{OwnedVersion}
use Rattle.order_credits.specs.declared.share.RecordingShare.{RecordingShare}

-- a share, by what it is made of
pub share_is : (office : Office) (book : Book) (order : Order) (total : ℕ) (paid : Played × ℕ) (share : RecordingShare) → share.isrc ≡ Some paid.0.0 → share.points ≡ paid.0.1 → share.units ≡ paid.1
    → share.remainder ≡ remainder order.amount total paid.0.1 → share.owner ≡ owner_at_cut office book order paid.0.0 → share.parts ≡ parts_owned paid.1 share.owner → share ≡ recording_share office book order total paid
share_is office book order total paid share isrc points units rest owner parts =
    let its : share.parts ≡ parts_owned paid.1 (owner_at_cut office book order paid.0.0) = parts ∙ ap (parts_owned paid.1) owner in
    let made : RecordingShare = recording_share office book order total paid in
    let make : Option (List ℕ) → ℕ → ℕ → ℕ → Option OwnedVersion → List ℕ → RecordingShare = λ i p u r o ps. record { isrc = i; points = p; units = u; remainder = r; owner = o; parts = ps } in
    ap (λ (i : Option (List ℕ)). make i share.points share.units share.remainder share.owner share.parts) isrc
    ∙ ap (λ (p : ℕ). make made.isrc p share.units share.remainder share.owner share.parts) points
    ∙ ap (λ (u : ℕ). make made.isrc made.points u share.remainder share.owner share.parts) units
    ∙ ap (λ (r : ℕ). make made.isrc made.points made.units r share.owner share.parts) rest
    ∙ ap (λ (o : Option OwnedVersion). make made.isrc made.points made.units made.remainder o share.parts) owner
    ∙ ap (make made.isrc made.points made.units made.remainder made.owner) its

-- one share more
pub wanted_more : (wanted : Recordings) (shares : List RecordingShare) (share : RecordingShare) → shares_wanted wanted (shares ++ share ∷ []) ≡ shares_wanted wanted shares ++ shares_wanted wanted (share ∷ [])
wanted_more wanted shares share = filter-append (λ (s : RecordingShare). is_wanted wanted s.isrc) shares (share ∷ [])

pub shares_more : (office : Office) (book : Book) (order : Order) (total : ℕ) (wanted : Recordings) (paid : List (Played × ℕ)) (p : Played × ℕ)
    → shares_wanted wanted (map (recording_share office book order total) (paid ++ p ∷ [])) ≡ shares_wanted wanted (map (recording_share office book order total) paid) ++ shares_wanted wanted (recording_share office book order total p ∷ [])
shares_more office book order total wanted paid p =
    ap (shares_wanted wanted) (map-append (recording_share office book order total) paid (p ∷ [])) ∙ wanted_more wanted (map (recording_share office book order total) paid) (recording_share office book order total p)

-- what is wanted is kept, and nothing else
pub one_wanted : (wanted : Recordings) (share : RecordingShare) → is_wanted wanted share.isrc ≡ true → share ∷ [] ≡ shares_wanted wanted (share ∷ [])
one_wanted wanted share is = ap (λ (b : Bool). cond b (share ∷ []) []) (sym is)

pub none_wanted : (wanted : Recordings) (share : RecordingShare) → is_wanted wanted share.isrc ≡ false → [] ≡ shares_wanted wanted (share ∷ [])
none_wanted wanted share is = ap (λ (b : Bool). cond b (share ∷ []) []) (sym is)

first_sought : (wanted : Recordings) (p : Played) (ps : List Played) → is_wanted wanted (Some p.0) ≡ true → list_any (bytes_eq p.0) (sought wanted (p ∷ ps)) ≡ true
first_sought wanted p ps is =
    ap (λ (b : Bool). list_any (bytes_eq p.0) (map (λ (q : Played). q.0) (cond b (p ∷ filter (λ (q : Played). is_wanted wanted (Some q.0)) ps) (filter (λ (q : Played). is_wanted wanted (Some q.0)) ps)))) is
    ∙ ap (λ (b : Bool). b || list_any (bytes_eq p.0) (sought wanted ps)) ((bytes_eq-Decides p.0 p.0).1 refl)

later_sought : (wanted : Recordings) (p : Played) (ps : List Played) (q : List ℕ) → list_any (bytes_eq q) (sought wanted ps) ≡ true → list_any (bytes_eq q) (sought wanted (p ∷ ps)) ≡ true
later_sought wanted p ps q is =
    elim (is_wanted wanted (Some p.0)) as (λ b. list_any (bytes_eq q) (map (λ (r : Played). r.0) (cond b (p ∷ filter (λ (r : Played). is_wanted wanted (Some r.0)) ps) (filter (λ (r : Played). is_wanted wanted (Some r.0)) ps))) ≡ true) [
      | true ↦ either (bytes_eq q p.0) (list_any (bytes_eq q) (sought wanted ps)) is
      | false ↦ is
    ]
  where
    either : (a b : Bool) → b ≡ true → (a || b) ≡ true
    either true b h = refl
    either false b h = h

-- where candidates stand for the works that name what is sought, they do so for each of these recordings that is wanted
pub stand_for_wanted : (office : Office) (book : Book) (order : Order) (wanted : Recordings) (candidates : List Candidate) (all : List (List ℕ)) (ps : List Played) (parts : List ℕ)
    → StandFor (holders_of order.kind office) (λ isrc. list_any (bytes_eq isrc) all) (works_of_cut office book order) candidates
    → ((q : List ℕ) → list_any (bytes_eq q) (sought wanted ps) ≡ true → list_any (bytes_eq q) all ≡ true) → StandForWanted office book order wanted candidates (zip ps parts)
stand_for_wanted office book order wanted candidates all [] parts stand among = tt
stand_for_wanted office book order wanted candidates all (p ∷ ps) [] stand among = tt
stand_for_wanted office book order wanted candidates all (p ∷ ps) (part ∷ parts) stand among = (
  λ is. stand.same p.0 (among p.0 (first_sought wanted p ps is)),
  stand_for_wanted office book order wanted candidates all ps parts stand (λ q h. among q (later_sought wanted p ps q h)),
)

-- the shares where nothing was played, and where something was
pub shares_of_none : (office : Office) (book : Book) (order : Order) (ps : List Played) → (length ps == 0) ≡ true → recording_shares_by office book order [] ≡ recording_shares_by office book order ps
shares_of_none office book order [] is = refl
shares_of_none office book order (p ∷ ps) is = absurd (let no : suc (length ps) ≡ 0 = same_number (suc (length ps)) 0 is in cc)

pub shares_of_some : (office : Office) (book : Book) (order : Order) (ps : List Played) → (length ps == 0) ≡ false
    → map (recording_share office book order (sum (points_played ps))) (zip ps (split_of order.amount (points_played ps))) ≡ recording_shares_by office book order ps
shares_of_some office book order [] is = absurd (false≢true (sym is))
shares_of_some office book order (p ∷ ps) is = refl
