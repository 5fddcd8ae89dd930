-- Representation, not meaning: what the steps that work out an order's shares find in the tables.
use Rattle.std.specs.Prelude.{ℕ, ◌≡◌, ◌++◌, Bool, true, List, [], ◌∷◌, Option, Some, None, bytes_eq, find, map, option_map}
use Rattle.std.specs.BTreeMap as tree
use Rattle.std.specs.BTreeMap.{BTreeMap}
use Rattle.std.specs.BTreeSet.{BTreeSet}
use Rattle.std.specs.List.{AllByRecursion, filter, slice_get}
use Rattle.share_rules.specs.declared.office.Office.{Office}
use Rattle.society_core.specs.Book.{Book}
use Rattle.society_core.specs.Candidates.{ReachesCut, StandFor, claimant_by, claimant_of, claimants_among, claimants_naming}
use Rattle.society_core.specs.Claims.{is_candidate_for}
use Rattle.society_core.specs.Keys.{bytes_cmp}
use Rattle.society_core.specs.Orders.{Order}
use Rattle.society_core.specs.Owners.{owner, works_of_cut}
use Rattle.society_core.specs.Pools.{holders_of}
use Rattle.society_core.specs.declared.claim_list.Candidate.{Candidate}
use Rattle.society_core.specs.declared.transmission_key.TransmissionKey.{TransmissionKey}
use Rattle.society_book.specs.Sources.{HoldsWorks}
use Rattle.sqlite_trees.specs.Tree.{Trees}
use Rattle.order_credits.specs.Shares.{Played, is_wanted, owner_at_cut, revision_at_cut, recording_share, recording_shares_by, recording_shares, shares_wanted}
use Rattle.order_credits.specs.declared.share.OwnedVersion.{OwnedVersion}
use Rattle.order_credits.specs.declared.share.RecordingShare.{RecordingShare}

-- the recordings that are wanted: all, or those that are named
abbrev pub Recordings : Type 0
Recordings = Option (BTreeSet (List ℕ))

-- what is kept of those of some candidates that are one recording's: nothing where there are none, the place of the only one, or that there are several
abbrev pub KeptAs : List Candidate → Option (Option ℕ) → List Candidate → Type 0
KeptAs candidates None its = its ≡ []
KeptAs candidates (Some (Some place)) its = (only : Candidate) × (its ≡ only ∷ []) × (slice_get candidates place ≡ Some only)
KeptAs candidates (Some None) its = (first second : Candidate) × (more : List Candidate) × (its ≡ first ∷ second ∷ more)

-- a table keeps that of each recording
abbrev pub KeepsOwners : BTreeMap (List ℕ) (Option ℕ) → List Candidate → Type 0
KeepsOwners table candidates = (isrc : List ℕ) → KeptAs candidates (tree.get bytes_cmp table isrc) (filter (is_candidate_for isrc) candidates)

-- those of the recordings that are wanted
abbrev pub sought : Recordings → List Played → List (List ℕ)
sought wanted played = map (λ p. p.0) (filter (λ p. is_wanted wanted (Some p.0)) played)

-- it is what the cut has of a sender
abbrev pub IsCutOfSender : List TransmissionKey → List ℕ → Option TransmissionKey → Type 0
IsCutOfSender cut sender key = key ≡ find (λ k. bytes_eq k.sender sender) cut

-- something is said of each book whose works the tables have, and in which the cut of an order is reached
abbrev pub OfReached : Order → (Office → Book → Type 0) → Trees → Type 0
OfReached order Says db = (office : Office) (book : Book) → HoldsWorks office book db → ReachesCut book order → Says office book

-- it is the revision that a work has at the cut of an order
abbrev pub HasRevisionAt : Order → List ℕ → List ℕ → Trees → ℕ → Type 0
HasRevisionAt order sender work db revision = OfReached order (λ office book. revision ≡ revision_at_cut office book order sender work) db

-- by the candidate that stands for the owner of a recording, or none, it is the version that owns it
abbrev pub OwnsBy : Order → Option Candidate → Trees → Option OwnedVersion → Type 0
OwnsBy order candidate db owned =
    (isrc : List ℕ) → OfReached order (λ office book. option_map claimant_of candidate ≡ option_map (claimant_by (holders_of order.kind office)) (owner office book order isrc) → owned ≡ owner_at_cut office book order isrc) db

-- candidates stand for the works of an order's cut that name a recording
abbrev pub StandAt : Office → Book → Order → List Candidate → List ℕ → Type 0
StandAt office book order candidates isrc = claimants_among candidates isrc ≡ claimants_naming (holders_of order.kind office) (works_of_cut office book order) isrc

-- where the candidates stand for the works that name the recording, it is the share that this has of a part, of so many points in all
abbrev pub IsPaidShare : Order → ℕ → Played × ℕ → List Candidate → Trees → RecordingShare → Type 0
IsPaidShare order total paid candidates db share =
    OfReached order (λ office book. StandAt office book order candidates paid.0.0 → share ≡ recording_share office book order total paid) db

-- where they do so if it is wanted, its share is added behind those that there were, if it is wanted
abbrev pub AddsPaidShare : Order → ℕ → Recordings → List Candidate → Played × ℕ → List RecordingShare → List RecordingShare → Trees → Type 0
AddsPaidShare order total wanted candidates paid old new db =
    OfReached order (λ office book. (is_wanted wanted (Some paid.0.0) ≡ true → StandAt office book order candidates paid.0.0) → new ≡ old ++ shares_wanted wanted (recording_share office book order total paid ∷ [])) db

-- the candidates stand so for each of these recordings that is wanted
abbrev pub StandForWanted : Office → Book → Order → Recordings → List Candidate → List (Played × ℕ) → Type 0
StandForWanted office book order wanted candidates paid = AllByRecursion (λ p. is_wanted wanted (Some p.0.0) ≡ true → StandAt office book order candidates p.0.0) paid

-- where they do, they are the shares of those that are wanted
abbrev pub ArePaidShares : Order → ℕ → Recordings → List Candidate → List (Played × ℕ) → Trees → List RecordingShare → Type 0
ArePaidShares order total wanted candidates paid db shares =
    OfReached order (λ office book. StandForWanted office book order wanted candidates paid → shares ≡ shares_wanted wanted (map (recording_share office book order total) paid)) db

-- they are the candidates for these recordings of the works of an order's cut, by each book whose works the tables have
abbrev pub AreOfCut : Office → Order → (List ℕ → Bool) → Trees → List Candidate → Type 0
AreOfCut office order of_these db candidates =
    (book : Book) → HoldsWorks office book db → ReachesCut book order → StandFor (holders_of order.kind office) of_these (works_of_cut office book order) candidates

-- they are the wanted shares of recordings with these points
abbrev pub ArePlayedShares : Office → Order → Recordings → List Played → Trees → List RecordingShare → Type 0
ArePlayedShares office order wanted played db shares =
    (book : Book) → HoldsWorks office book db → ReachesCut book order → shares ≡ shares_wanted wanted (recording_shares_by office book order played)

-- they are the wanted shares of an order, by each book whose works the tables have and out of which it can be paid
abbrev pub AreSharesOf : Office → Order → Recordings → Trees → List RecordingShare → Type 0
AreSharesOf office order wanted db shares =
    (book : Book) → HoldsWorks office book db → ReachesCut book order → shares ≡ shares_wanted wanted (recording_shares office book order)
