-- Versions that are weighed make the claimants of whatever is chosen of their transmission.
use Rattle.std.proofs.Common.{◌≡◌, ◌∙◌, ◌+◌, ◌++◌, ℕ, Bool, List, [], append_assoc, ap, length, map, sym}
use Rattle.std.proofs.lemmas.List.{map-append}
use Rattle.std.proofs.lemmas.List.Elements.{filter-append}
use Rattle.std.specs.List.{filter}
use Rattle.cwr_files.specs.Transaction.{number_of_work}
use Rattle.cwr_files.specs.declared.transmission.Transaction.{Transaction}
use Rattle.share_rules.specs.declared.holder.Holder.{Holder}
use Rattle.share_rules.specs.declared.kind.Kind.{Kind}
use Rattle.share_rules.specs.declared.office.Office.{Office}
use Rattle.society_core.proofs.lemmas.CandidateLemmas.{adds_by}
use Rattle.society_core.specs.Candidates.{AddsCandidates, Claimant, claimant_by, claimants_among, claimants_naming}
use Rattle.society_core.specs.Owners.{CutWork, names_recording}
use Rattle.society_core.specs.Pools.{holders_of}
use Rattle.society_core.specs.declared.claim_list.Candidate.{Candidate}
use Rattle.society_closings.proofs.lemmas.cuts.CutCandidates.{where_append}
use Rattle.society_closings.specs.CutWorks.{is_chosen, works_chosen}
use Rattle.society_closings.specs.Weighing.{WeighsMore, claimants_chosen}
use Rattle.society_closings.specs.declared.chosen.Chosen.{Chosen}
use Rattle.society_closings.specs.declared.weighing.WeighedVersion.{WeighedVersion}

-- the works that name a recording behind others
naming_append : (weigh : CutWork → List Holder) (a b : List CutWork) (isrc : List ℕ) → claimants_naming weigh (a ++ b) isrc ≡ claimants_naming weigh a isrc ++ claimants_naming weigh b isrc
naming_append weigh a b isrc = ap (map (claimant_by weigh)) (filter-append (names_recording isrc) a b) ∙ map-append (claimant_by weigh) (filter (names_recording isrc) a) (filter (names_recording isrc) b)

module _ (kind : Kind) (office : Office) (of_these : List ℕ → Bool) (sender : List ℕ) where
  -- transactions, and then others
  pub weighs_then : (place : ℕ) (ts us : List Transaction) (old mid new : List WeighedVersion) → WeighsMore kind office of_these sender place ts old mid → WeighsMore kind office of_these sender (place + length ts) us mid new → WeighsMore kind office of_these sender place (ts ++ us) old new
  weighs_then place ts us old mid new first second = λ chosen number isrc is.
      let weigh = holders_of kind office in
      let before = claimants_chosen chosen number isrc old in
      let one = works_chosen chosen sender number place ts in
      let other = works_chosen chosen sender number (place + length ts) us in
      second chosen number isrc is
      ∙ ap (λ (cs : List Claimant). cs ++ claimants_naming weigh other isrc) (first chosen number isrc is)
      ∙ append_assoc before (claimants_naming weigh one isrc) (claimants_naming weigh other isrc)
      ∙ ap (λ (cs : List Claimant). before ++ cs) (sym (naming_append weigh one other isrc))
      ∙ ap (λ (ws : List CutWork). before ++ claimants_naming weigh ws isrc) (sym (where_append sender (λ place x. is_chosen chosen number place (number_of_work x)) place ts us))

  -- versions of a transmission that are chosen are added as what is chosen of it
  pub weighed_adds : (chosen : Chosen) (number : ℕ) (ts : List Transaction) (versions : List WeighedVersion) (old new : List Candidate) → WeighsMore kind office of_these sender 0 ts [] versions
      → ((isrc : List ℕ) → claimants_among new isrc ≡ claimants_among old isrc ++ claimants_chosen chosen number isrc versions)
      → AddsCandidates (holders_of kind office) of_these (works_chosen chosen sender number 0 ts) old new
  weighed_adds chosen number ts versions old new weighs added =
      adds_by (holders_of kind office) of_these (works_chosen chosen sender number 0 ts) old new
      (λ isrc is. added isrc ∙ ap (λ (cs : List Claimant). claimants_among old isrc ++ cs) (weighs chosen number isrc is))
