use Rattle.std.proofs.Common.{◌≡◌, ◌∙◌, ◌++◌, ◌∷◌, ℕ, Bool, true, false, cond, List, [], Result, Ok, Vec, Global, append-nil, ap, arith, refl, subst, sym}
use Rattle.std.proofs.lemmas.Grind.{flat_map-append}
use Rattle.std.proofs.lemmas.List.{nil_from_length}
use Rattle.std.specs.Cmp.{unsigned_Decides}
use Rattle.cwr_files.specs.Transaction.{number_of_work}
use Rattle.cwr_files.specs.declared.transmission.Transaction.{Transaction}
use Rattle.share_rules.specs.declared.holder.Holder.{Holder}
use Rattle.society_closings.proofs.lemmas.cuts.CutCandidates.{where_more}
use Rattle.society_closings.specs.CutWorks.{chosen_at, is_chosen, works_chosen}
use Rattle.society_closings.specs.Weighing.{WeighsMore, claimants_by, claimants_chosen}
use Rattle.society_closings.specs.declared.chosen.Chosen.{Chosen}
use Rattle.society_closings.specs.declared.weighing.WeighedVersion.{WeighedVersion}
use Rattle.society_core.proofs.lemmas.CandidateLemmas.{as_numbered, number_read}
use Rattle.society_core.specs.Candidates.{AddsCandidates, AddsWork, Claimant, claimants_among, claimants_naming, work_where}
use Rattle.society_core.specs.Owners.{CutWork, cut_work, is_at}
use Rattle.society_core.specs.Points.{is_tallied}
use Rattle.society_core.specs.Pools.{holders_of}
use Rattle.society_core.specs.declared.candidates.Weighing.{Weighing}
use Rattle.society_core.specs.declared.claim_list.Candidate.{Candidate}
use Rattle.work_ids.specs.declared.fault.IdFault.{IdFault}
use Rattle.society_closings.proofs.weighing.weigh_transaction.Goals as goal

module _ (weighing : Weighing) (sender : List ℕ) (place : ℕ) (t : Transaction) (work : List ℕ) (candidates : List Candidate) (numbered : number_of_work t ≡ Ok work) (adds : AddsWork weighing sender work t [] candidates) where
  abbrev weigh : CutWork → List Holder
  weigh = holders_of weighing.kind weighing.office.now

  -- the candidates of a transaction stand for it, where it is chosen
  stand : (chosen : Chosen) (number : ℕ) (isrc : List ℕ) → is_tallied weighing.tally.now isrc ≡ true → cond (is_at number place (chosen_at chosen work)) (claimants_among candidates isrc) [] ≡ claimants_naming weigh (works_chosen chosen sender number place (t ∷ [])) isrc
  stand chosen number isrc is =
      by_case (is_at number place (chosen_at chosen work))
      ∙ ap (λ (n : Result (List ℕ) IdFault). claimants_naming weigh (work_where (is_chosen chosen number place n) sender t) isrc) (sym numbered)
      ∙ ap (λ (ws : List CutWork). claimants_naming weigh ws isrc) (sym (where_more sender (λ p x. is_chosen chosen number p (number_of_work x)) place t [] ∙ append-nil (work_where (is_chosen chosen number place (number_of_work t)) sender t)))
    where
      added : AddsCandidates weigh (is_tallied weighing.tally.now) (cut_work sender t ∷ []) [] candidates
      added = as_numbered {X = Unit {0}} {E = Unit {0}} weigh (is_tallied weighing.tally.now) sender work t [] candidates (Ok tt) numbered adds

      by_case : (b : Bool) → cond b (claimants_among candidates isrc) [] ≡ claimants_naming weigh (work_where b sender t) isrc
      by_case true = (added [] (record { same = λ x one. refl })).same isrc is
      by_case false = refl

  -- they are kept as a version more
  one_more : (kept : Vec Candidate Global) (versions : List WeighedVersion) → kept.items ≡ candidates
      → WeighsMore weighing.kind weighing.office.now (is_tallied weighing.tally.now) sender place (t ∷ []) versions (versions ++ record { place = place; work = work; candidates = kept } ∷ [])
  one_more kept versions same = λ chosen number isrc is.
      let one : WeighedVersion = record { place = place; work = work; candidates = kept } in
      flat_map-append (claimants_by chosen number isrc) versions (one ∷ [])
      ∙ ap (λ (cs : List Claimant). claimants_chosen chosen number isrc versions ++ cs)
      (append-nil (claimants_by chosen number isrc one) ∙ ap (λ (l : List Candidate). cond (is_at number place (chosen_at chosen work)) (claimants_among l isrc) []) same ∙ stand chosen number isrc is)

  -- or there are none
  no_more : (versions : List WeighedVersion) → candidates ≡ [] → WeighsMore weighing.kind weighing.office.now (is_tallied weighing.tally.now) sender place (t ∷ []) versions versions
  no_more versions none = λ chosen number isrc is.
      sym
      (ap (λ (cs : List Claimant). claimants_chosen chosen number isrc versions ++ cs)
      (sym (stand chosen number isrc is) ∙ ap (λ (l : List Candidate). cond (is_at number place (chosen_at chosen work)) (claimants_among l isrc) []) none ∙ nobody isrc (is_at number place (chosen_at chosen work)))
      ∙ append-nil (claimants_chosen chosen number isrc versions))
    where
      nobody : (isrc : List ℕ) (b : Bool) → cond b (claimants_among [] isrc) [] ≡ []
      nobody isrc true = refl
      nobody isrc false = refl

pub returns-then-is_empty : goal.returns-then-is_empty
returns-then-is_empty c =
    let weighing = c.args.weighing.now in
    let t = c.args.transaction.now in
    let work = c.in-Some.work in
    let kept = c.add_candidates.new.candidates in
    let numbered = number_read (number_of_work t) work (sym c.in-Some.is ∙ c.work_number.ensures) in
    let adds = subst (λ (l : List Candidate). AddsWork weighing c.args.sender.now work t l kept.items) c.in_ok-candidates.ensures.items c.in_ok-add_candidates.ensures in
    let long = (unsigned_Decides kept.len 0).0 (sym c.is_empty.ensures ∙ c.if-is_empty.true) in
    no_more weighing c.args.sender.now c.args.place t work kept.items numbered adds c.args.versions.now.items (nil_from_length kept.items (omega (arith, kept.ok.0, long)))

pub returns : goal.returns
returns c =
    let weighing = c.args.weighing.now in
    let t = c.args.transaction.now in
    let work = c.in-Some.work in
    let kept = c.add_candidates.new.candidates in
    let old = c.args.versions.now.items in
    let numbered = number_read (number_of_work t) work (sym c.in-Some.is ∙ c.work_number.ensures) in
    let adds = subst (λ (l : List Candidate). AddsWork weighing c.args.sender.now work t l kept.items) c.in_ok-candidates.ensures.items c.in_ok-add_candidates.ensures in
    subst (λ (l : List WeighedVersion). WeighsMore weighing.kind weighing.office.now (is_tallied weighing.tally.now) c.args.sender.now c.args.place (t ∷ []) old l) (sym c.in_ok-push.ensures.items)
    (one_more weighing c.args.sender.now c.args.place t work kept.items numbered adds kept old refl)
