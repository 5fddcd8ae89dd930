-- The version that owns a recording, by the candidate that stands for it.
use Rattle.std.proofs.Common.{◌≡◌, ◌∙◌, ◌&&◌, ℕ, Bool, true, false, cond, List, [], ◌∷◌, map, Option, Some, None, Ok, option_map, refl, ap, sym, subst}
use Rattle.std.specs.List.{filter, find, list_all}
use Rattle.std.specs.Str.{bytes_eq}
use Rattle.std.proofs.lemmas.Bool.{false≢true}
use Rattle.share_rules.specs.declared.holder.Holder.{Holder}
use Rattle.share_rules.specs.declared.office.Office.{Office}
use Rattle.society_core.proofs.lemmas.CandidateLemmas.{both}
use Rattle.society_core.specs.Book.{Book, is_applied, version_in}
use Rattle.society_core.specs.Candidates.{Claimant, ReachesCut, claimant_by, claimant_of}
use Rattle.society_core.specs.Claims.{is_candidate_for, sole_candidate}
use Rattle.society_core.specs.Orders.{Order}
use Rattle.society_core.specs.Owners.{CutWork, names_recording, owner, sole, works_of_cut}
use Rattle.society_core.specs.Pools.{holders_of}
use Rattle.society_core.specs.declared.claim_list.Candidate.{Candidate}
use Rattle.society_core.specs.declared.transmission_key.TransmissionKey.{TransmissionKey}
use Rattle.order_credits.specs.Looked.{IsCutOfSender, StandAt}
use Rattle.order_credits.specs.Shares.{revision_at_cut, revision_by, revision_of, version_owned, work_named}
use Rattle.order_credits.specs.declared.share.OwnedVersion.{OwnedVersion}
use Rattle.works_core.specs.declared.version.WorkVersion.{WorkVersion}

-- what is found first of those that pass is so, where all are
pub found_is : {X : Type 0} (p q : X → Bool) (xs : List X) (x : X) → find p xs ≡ Some x → list_all q xs ≡ true → q x ≡ true
found_is p q [] x is all = absurd (cc)
found_is {X = X} p q (y ∷ ys) x is all = by_case (p y) is (λ e. found_is p q ys x e (both (q y) (list_all q ys) all).1)
  where
    by_case : (b : Bool) → cond b (Some y) (find p ys) ≡ Some x → (find p ys ≡ Some x → q x ≡ true) → q x ≡ true
    by_case true e later = (let same : y ≡ x = cc in subst (λ (z : X). q z ≡ true) same (both (q y) (list_all q ys) all).0)
    by_case false e later = later e

-- the only one of what is made of each
pub sole_of_map : {X Y : Type 0} (f : X → Y) (xs : List X) → sole (map f xs) ≡ option_map f (sole xs)
sole_of_map f [] = refl
sole_of_map f (x ∷ []) = refl
sole_of_map f (x ∷ y ∷ more) = refl

-- the only candidate stands for the owner, where the candidates stand for the works that name the recording
pub sole_stands : (office : Office) (book : Book) (order : Order) (candidates : List Candidate) (isrc : List ℕ) → StandAt office book order candidates isrc
    → option_map claimant_of (sole_candidate candidates isrc) ≡ option_map (claimant_by (holders_of order.kind office)) (owner office book order isrc)
sole_stands office book order candidates isrc stand =
    sym (sole_of_map claimant_of (filter (is_candidate_for isrc) candidates))
    ∙ ap (λ (cs : List Claimant). sole cs) stand
    ∙ sole_of_map (claimant_by (holders_of order.kind office)) (filter (names_recording isrc) (works_of_cut office book order))

-- nobody owns what no candidate stands for
pub none_owned : (office : Office) (book : Book) (order : Order) (own : Option CutWork) → None ≡ option_map (claimant_by (holders_of order.kind office)) own → None ≡ option_map (version_owned office book order) own
none_owned office book order None same = refl
none_owned office book order (Some work) same = absurd (cc)

-- the version of the work for which a candidate stands
pub some_owned : (office : Office) (book : Book) (order : Order) (own : Option CutWork) (c : Candidate) (owned : OwnedVersion) → Some (claimant_of c) ≡ option_map (claimant_by (holders_of order.kind office)) own
    → owned.sender ≡ c.sender → owned.work ≡ c.work → owned.holders ≡ c.holders → owned.revision ≡ revision_at_cut office book order c.sender c.work → Some owned ≡ option_map (version_owned office book order) own
some_owned office book order None c owned same sender work holders revision = absurd (cc)
some_owned office book order (Some w) c owned same sender work holders revision =
    let stands : claimant_of c ≡ claimant_by (holders_of order.kind office) w = cc in
    let its_sender = ap (λ (k : Claimant). k.sender) stands in
    let its_work = ap (λ (k : Claimant). work_named k.work) stands in
    let its_holders = ap (λ (k : Claimant). k.holders) stands in
    let made : OwnedVersion = version_owned office book order w in
    let one : owned.sender ≡ made.sender = sender ∙ its_sender in
    let two : owned.work ≡ made.work = work ∙ its_work in
    let three : owned.holders ≡ made.holders = holders ∙ its_holders in
    let four : owned.revision ≡ made.revision = revision ∙ ap (λ (s : List ℕ). revision_at_cut office book order s c.work) its_sender ∙ ap (revision_at_cut office book order w.sender) its_work in
    let make : List ℕ → List ℕ → ℕ → List Holder → OwnedVersion = λ s n r h. record { sender = s; work = n; revision = r; holders = h } in
    let all : owned ≡ made =
    ap (λ (s : List ℕ). make s owned.work owned.revision owned.holders) one
    ∙ ap (λ (n : List ℕ). make made.sender n owned.revision owned.holders) two
    ∙ ap (λ (r : ℕ). make made.sender made.work r owned.holders) four
    ∙ ap (make made.sender made.work made.revision) three in
    ap (λ (o : OwnedVersion). Some o) all

-- the revision where the cut has nothing of the sender
pub revision_none : (office : Office) (book : Book) (order : Order) (sender work : List ℕ) (cut : List TransmissionKey) → cut ≡ order.cut → IsCutOfSender cut sender None → 0 ≡ revision_at_cut office book order sender work
revision_none office book order sender work cut is found = ap (revision_by office book work) (found ∙ ap (find (λ (k : TransmissionKey). bytes_eq k.sender sender)) is)

-- the revision of the version at what the cut has of the sender
pub revision_some : (office : Office) (book : Book) (order : Order) (sender work : List ℕ) (cut : List TransmissionKey) (key : TransmissionKey) (version : Option WorkVersion) → cut ≡ order.cut → IsCutOfSender cut sender (Some key)
    → version ≡ version_in office book key.sender work key.number → revision_of version ≡ revision_at_cut office book order sender work
revision_some office book order sender work cut key version is found its =
    ap revision_of its ∙ ap (revision_by office book work) (found ∙ ap (find (λ (k : TransmissionKey). bytes_eq k.sender sender)) is)

-- what a cut has that is reached is in its sender's line
pub key_reached : (book : Book) (order : Order) (sender : List ℕ) (cut : List TransmissionKey) (key : TransmissionKey) → cut ≡ order.cut → IsCutOfSender cut sender (Some key) → ReachesCut book order → is_applied book key ≡ true
key_reached book order sender cut key is found reached =
    found_is (λ (k : TransmissionKey). bytes_eq k.sender sender) (is_applied book) order.cut key (sym (found ∙ ap (find (λ (k : TransmissionKey). bytes_eq k.sender sender)) is)) reached
