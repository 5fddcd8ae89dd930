-- The verdict of the next transaction by what is known of its work.
use Rattle.std.proofs.Common.{◌≡◌, ℕ, ◌+◌, Bool, true, false, cond, List, [], ◌∷◌, Option, Some, None, is_some, refl, ap, sym, ◌∙◌, ⊎_elim, IfSome, ◌<◌, ◌≤◌, arith}
use Rattle.std.proofs.lemmas.Bool.{cases_Bool}
use Rattle.cwr_records.specs.declared.work.TransactionKind.TheVariants.{Nwr, Rev}
use Rattle.works_core.proofs.lemmas.TrackLemmas.{last_registered, none_is_none, versions_of-le}
use Rattle.works_core.specs.Tracks.{accepted_in, last_index, number_in}
use Rattle.works_core.specs.Verdicts.{is_registered, ordinal_of, verdict_of, versions_of, works_in}
use Rattle.works_core.specs.Versions.{Placed, is_version, judged_of, last_version, next_verdict, version_of}
use Rattle.works_core.specs.declared.judged.Judged.{Judged}
use Rattle.works_core.specs.declared.judged.Judged.TheVariants.{Clean, Faulty}
use Rattle.works_core.specs.declared.verdict.Verdict.TheVariants.{Accepted, Rejected}
use Rattle.works_core.specs.declared.version.WorkVersion.{WorkVersion}

either_there : {A B : Type 0} (b : Bool) (x : A) (y : B) (o : Option A) (p : Option B) → is_some o ≡ is_some p → is_some (cond b (Some x) o) ≡ is_some (cond b (Some y) p)
either_there true x y o p e = refl
either_there false x y o p e = e

indexed : (w : List ℕ) (past : List Placed) → is_some (last_version w past) ≡ is_some (last_index w past)
indexed w [] = refl
indexed w (t ∷ past) = either_there (is_version w past t) (version_of w past t) (accepted_in past) (last_version w past) (last_index w past) (indexed w past)

-- a work has a version exactly where it is registered
pub version_there : (w : List ℕ) (past : List Placed) → is_some (last_version w past) ≡ is_registered w (judged_of past)
version_there w past = indexed w past ∙ last_registered w past

same_version : (v u : WorkVersion) → ◌≡◌ {A = Option WorkVersion} (Some v) (Some u) → v ≡ u
same_version v u e = cc

-- the last version tells the work's ordinal, and how many versions there are
pub version_tells : (w : List ℕ) (past : List Placed) (v : WorkVersion) → last_version w past ≡ Some v → (v.ordinal ≡ ordinal_of w (judged_of past)) × (v.revision + 1 ≡ versions_of w (judged_of past))
version_tells w [] v e = absurd (none_is_none v e)
version_tells w (t ∷ past) v e =
    ⊎_elim
    (λ (here : is_version w past t ≡ true).
    let same : version_of w past t ≡ v = same_version (version_of w past t) v (sym (ap (λ (b : Bool). cond b (Some (version_of w past t)) (last_version w past)) here) ∙ e) in
    let count : versions_of w (judged_of (t ∷ past)) ≡ versions_of w (judged_of past) + 1 = ap (λ (b : Bool). cond b (versions_of w (judged_of past) + 1) (versions_of w (judged_of past))) here in
    (ap (λ (u : WorkVersion). u.ordinal) (sym same), ap (λ (u : WorkVersion). u.revision + 1) (sym same) ∙ sym count))
    (λ (before : is_version w past t ≡ false).
    let there : last_version w past ≡ Some v = sym (ap (λ (b : Bool). cond b (Some (version_of w past t)) (last_version w past)) before) ∙ e in
    let told = version_tells w past v there in
    let registered : is_registered w (judged_of past) ≡ true = sym (version_there w past) ∙ ap is_some there in (
      told.0 ∙ sym (ap (λ (b : Bool). cond b (ordinal_of w (judged_of past)) (works_in (judged_of (t ∷ past)))) registered),
      told.1 ∙ sym (ap (λ (b : Bool). cond b (versions_of w (judged_of past) + 1) (versions_of w (judged_of past))) before),
    ))
    (cases_Bool (is_version w past t))

nothing : (o : Option WorkVersion) → is_some o ≡ false → o ≡ None
nothing None e = refl
nothing (Some v) e = absurd cc

-- where none is kept there is none
pub none_found : (w : List ℕ) (past : List Placed) → last_index w past ≡ None → last_version w past ≡ None
none_found w past e = nothing (last_version w past) (indexed w past ∙ ap is_some e)

registration : (w : List ℕ) (past : List Placed) (o : Option WorkVersion) → last_version w past ≡ o → verdict_of (judged_of past) (Clean Nwr w) ≡ next_verdict (Clean Nwr w) o (works_in (judged_of past))
registration w past None e = ap (λ (b : Bool). cond b (Rejected 20) (Accepted (works_in (judged_of past) + 1) 0)) (sym (version_there w past) ∙ ap is_some e)
registration w past (Some v) e = ap (λ (b : Bool). cond b (Rejected 20) (Accepted (works_in (judged_of past) + 1) 0)) (sym (version_there w past) ∙ ap is_some e)

revision : (w : List ℕ) (past : List Placed) (o : Option WorkVersion) → last_version w past ≡ o → verdict_of (judged_of past) (Clean Rev w) ≡ next_verdict (Clean Rev w) o (works_in (judged_of past))
revision w past None e = ap (λ (b : Bool). cond b (Accepted (ordinal_of w (judged_of past)) (versions_of w (judged_of past))) (Rejected 21)) (sym (version_there w past) ∙ ap is_some e)
revision w past (Some v) e =
    let told = version_tells w past v e in
    ap (λ (b : Bool). cond b (Accepted (ordinal_of w (judged_of past)) (versions_of w (judged_of past))) (Rejected 21)) (sym (version_there w past) ∙ ap is_some e)
    ∙ ap (λ n. Accepted n (versions_of w (judged_of past))) (sym told.0) ∙ ap (Accepted v.ordinal) (sym told.1)

-- what is known of a transaction's work tells its verdict
pub next_is : (past : List Placed) (x : Judged) → verdict_of (judged_of past) x ≡ next_verdict x (last_version (number_in x) past) (works_in (judged_of past))
next_is past (Faulty fault) = refl
next_is past (Clean Nwr w) = registration w past (last_version w past) refl
next_is past (Clean Rev w) = revision w past (last_version w past) refl

-- a last version has a revision below the number of accepted transactions
pub revision_within : (o : Option WorkVersion) (w : List ℕ) (past : List Placed) (most : ℕ) → o ≡ last_version w past → accepted_in past ≤ most → IfSome o (λ v. v.revision < most)
revision_within None w past most e h = tt
revision_within (Some v) w past most e h =
    let told = (version_tells w past v (sym e)).1 in
    let le = versions_of-le w past in
    omega arith
