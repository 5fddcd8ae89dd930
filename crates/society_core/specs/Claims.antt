-- Representation, not meaning: the claims of a pool, by the candidates for its recordings.
use Rattle.std.specs.Prelude.{ℕ, ◌≡◌, Bool, List, [], ◌∷◌, Option, Some, None, bytes_eq, map, option_map}
use Rattle.std.specs.BTreeMap as tree
use Rattle.std.specs.BTreeMap.{BTreeMap}
use Rattle.std.specs.List.{enumerate_from, filter}
use Rattle.pool_split.specs.declared.claim.Claim.{Claim}
use Rattle.society_core.specs.Keys.{bytes_cmp}
use Rattle.society_core.specs.Owners.{sole}
use Rattle.society_core.specs.declared.claim_list.Candidate.{Candidate}
use Rattle.society_core.specs.declared.claim_list.Found.{Found}
use Rattle.society_core.specs.declared.claim_list.Found.TheVariants.{Only, Several}

-- whether a candidate is one for a recording
abbrev pub is_candidate_for : List ℕ → Candidate → Bool
is_candidate_for isrc candidate = bytes_eq candidate.isrc isrc

-- the only candidate for a recording, none where there is none or more than one (profile)
abbrev pub sole_candidate : List Candidate → List ℕ → Option Candidate
sole_candidate candidates isrc = sole (filter (is_candidate_for isrc) candidates)

-- the claim of a recording with its points: of the only candidate that there is for it, else nobody's (profile)
abbrev pub claim_among : List Candidate → List ℕ × ℕ → Claim
claim_among candidates played = record {
  isrc = played.0;
  points = played.1;
  holders = option_map (λ candidate. candidate.holders) (sole_candidate candidates played.0);
}

-- the claims of recordings with their points, in their order
abbrev pub claims_among : List (List ℕ × ℕ) → List Candidate → List Claim
claims_among points candidates = map (claim_among candidates) points

-- of the table: the places of the candidates for a recording
abbrev pub places_for : List Candidate → List ℕ → List ℕ
places_for candidates isrc = map (λ placed. placed.0) (filter (λ placed. is_candidate_for isrc placed.1) (enumerate_from 0 candidates))

-- of the table: what is kept of some places, the only one or that there are several
abbrev pub found_of : List ℕ → Option Found
found_of [] = None
found_of (place ∷ []) = Some (Only place)
found_of (place ∷ other ∷ more) = Some Several

-- what the table keeps: for each recording what its candidates' places come to
abbrev pub Indexes : BTreeMap (List ℕ) Found → List Candidate → Type 0
Indexes table candidates = (isrc : List ℕ) → tree.get bytes_cmp table isrc ≡ found_of (places_for candidates isrc)
