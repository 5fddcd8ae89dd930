-- The end of a line behind one more transaction.
use Rattle.std.proofs.Common.{◌≡◌, ℕ, ◌+◌, Bool, true, false, cond, not, List, ◌∷◌, Option, Some, None, refl, ap, sym, ◌∙◌, ◌&&◌, ◌||◌}
use Rattle.std.specs.Str.{bytes_eq}
use Rattle.cwr_records.specs.declared.work.TransactionKind.{TransactionKind}
use Rattle.cwr_records.specs.declared.work.TransactionKind.TheVariants.{Nwr, Rev}
use Rattle.works_core.proofs.lemmas.NextLemmas.{next_is}
use Rattle.works_core.proofs.lemmas.TrackLemmas.{no_versions, same_bytes, none_is_none, works_in-begun}
use Rattle.works_core.specs.Ends.{EndsAt, KnowsWork, known_version, last_after, last_in, works_after}
use Rattle.works_core.specs.Tracks.{last_index, linked_version, number_in}
use Rattle.works_core.specs.Verdicts.{concerns, is_accepted, is_registered, ordinal_of, verdict_of, versions_of, works_in}
use Rattle.works_core.specs.Versions.{Placed, judged_of, last_version, next_verdict, placed_at, version_of}
use Rattle.works_core.specs.declared.judged.Judged.{Judged}
use Rattle.works_core.specs.declared.judged.Judged.TheVariants.{Clean, Faulty}
use Rattle.works_core.specs.declared.line_end.LineEnd.{LineEnd}
use Rattle.works_core.specs.declared.verdict.Verdict.{Verdict}
use Rattle.works_core.specs.declared.verdict.Verdict.TheVariants.{Accepted, Rejected}
use Rattle.works_core.specs.declared.version.LinkedVersion.{LinkedVersion}
use Rattle.works_core.specs.declared.version.WorkVersion.{WorkVersion}

-- an accepted verdict is no rejected one
differ : (o r f : ℕ) → ◌≡◌ {A = Verdict} (Rejected f) (Accepted o r) → ⊥
differ o r f e = cc

same_ordinal : (o r o2 r2 : ℕ) → ◌≡◌ {A = Verdict} (Accepted o r) (Accepted o2 r2) → (o ≡ o2) × (r ≡ r2)
same_ordinal o r o2 r2 e = (cc, cc)

-- what an accepted verdict says of its transaction
pub record IsTaken (past : List Judged) (x : Judged) (o r : ℕ) : Type 0 where
  pub accepted : is_accepted past x ≡ true
  pub ordinal : ordinal_of (number_in x) (x ∷ past) ≡ o
  pub revision : versions_of (number_in x) past ≡ r

registered : (past : List Judged) (n : List ℕ) (o r : ℕ) (b : Bool) → is_registered n past ≡ b → cond b (Rejected 20) (Accepted (works_in past + 1) 0) ≡ Accepted o r → IsTaken past (Clean Nwr n) o r
registered past n o r true there e = absurd (differ o r 20 e)
registered past n o r false free e =
    let same = same_ordinal (works_in past + 1) 0 o r e in
    record {
      accepted = ap not free;
      ordinal = ap (λ (b : Bool). cond b (ordinal_of n past) (works_in (Clean Nwr n ∷ past))) free ∙ works_in-begun past n free ∙ same.0;
      revision = no_versions n past free ∙ same.1;
    }

revised : (past : List Judged) (n : List ℕ) (o r : ℕ) (b : Bool) → is_registered n past ≡ b → cond b (Accepted (ordinal_of n past) (versions_of n past)) (Rejected 21) ≡ Accepted o r → IsTaken past (Clean Rev n) o r
revised past n o r true there e =
    let same = same_ordinal (ordinal_of n past) (versions_of n past) o r e in
    record {
      accepted = there;
      ordinal = ap (λ (b : Bool). cond b (ordinal_of n past) (works_in (Clean Rev n ∷ past))) there ∙ same.0;
      revision = same.1;
    }
revised past n o r false free e = absurd (differ o r 21 e)

pub taken : (past : List Judged) (x : Judged) (o r : ℕ) → verdict_of past x ≡ Accepted o r → IsTaken past x o r
taken past (Faulty f) o r e = absurd (differ o r f e)
taken past (Clean Nwr n) o r e = registered past n o r (is_registered n past) refl e
taken past (Clean Rev n) o r e = revised past n o r (is_registered n past) refl e

not_registered : (past : List Judged) (n : List ℕ) (f : ℕ) (b : Bool) → is_registered n past ≡ b → cond b (Rejected 20) (Accepted (works_in past + 1) 0) ≡ Rejected f → is_accepted past (Clean Nwr n) ≡ false
not_registered past n f true there e = ap not there
not_registered past n f false free e = absurd (differ (works_in past + 1) 0 f (sym e))

not_revised : (past : List Judged) (n : List ℕ) (f : ℕ) (b : Bool) → is_registered n past ≡ b → cond b (Accepted (ordinal_of n past) (versions_of n past)) (Rejected 21) ≡ Rejected f → is_accepted past (Clean Rev n) ≡ false
not_revised past n f true there e = absurd (differ (ordinal_of n past) (versions_of n past) f (sym e))
not_revised past n f false free e = free

pub refused : (past : List Judged) (x : Judged) (f : ℕ) → verdict_of past x ≡ Rejected f → is_accepted past x ≡ false
refused past (Faulty g) f e = refl
refused past (Clean Nwr n) f e = not_registered past n f (is_registered n past) refl e
refused past (Clean Rev n) f e = not_revised past n f (is_registered n past) refl e

-- the number of works behind an accepted transaction, and behind one that is not
pub works-taken : (past : List Judged) (x : Judged) → is_accepted past x ≡ true → works_after x (works_in past) ≡ works_in (x ∷ past)
works-taken past (Faulty f) e = refl
works-taken past (Clean Nwr n) e = sym (ap (λ (b : Bool). cond b (works_in past + 1) (works_in past)) e)
works-taken past (Clean Rev n) e = refl

pub works-refused : (past : List Judged) (x : Judged) → is_accepted past x ≡ false → works_in (x ∷ past) ≡ works_in past
works-refused past (Faulty f) e = refl
works-refused past (Clean Nwr n) e = ap (λ (b : Bool). cond b (works_in past + 1) (works_in past)) e
works-refused past (Clean Rev n) e = refl

-- a version by its parts
version_is : (t p o r o2 r2 : ℕ) → o ≡ o2 → r ≡ r2 → ◌≡◌ {A = WorkVersion} (record { transmission = t; place = p; ordinal = o; revision = r }) (record { transmission = t; place = p; ordinal = o2; revision = r2 })
version_is t p o r o2 r2 a b = cc

-- the last version of a work behind an accepted transaction
last-clean : (kind : TransactionKind) (n : List ℕ) (past : List Placed) (t p o r : ℕ) (w : List ℕ) → IsTaken (judged_of past) (Clean kind n) o r →
    last_version w (placed_at t p (Clean kind n) ∷ past) ≡ cond (bytes_eq n w) (Some (record { transmission = t; place = p; ordinal = o; revision = r })) (last_version w past)
last-clean kind n past t p o r w is =
    let here = placed_at t p (Clean kind n) in
    ap (λ (b : Bool). cond (b && bytes_eq n w) (Some (version_of w past here)) (last_version w past)) is.accepted
    ∙ by_case (bytes_eq n w) refl
  where
    by_case : (b : Bool) → bytes_eq n w ≡ b → cond b (Some (version_of w past (placed_at t p (Clean kind n)))) (last_version w past) ≡ cond b (Some (record { transmission = t; place = p; ordinal = o; revision = r })) (last_version w past)
    by_case true e =
        ap (λ (z : List ℕ). Some (version_of z past (placed_at t p (Clean kind n)))) (sym (same_bytes n w e))
        ∙ ap (λ (v : WorkVersion). Some v) (version_is t p _ _ o r is.ordinal is.revision)
    by_case false e = refl

-- no work has another last version behind a transaction that is not accepted
pub last-refused : (past : List Placed) (t : Placed) (w : List ℕ) → is_accepted (judged_of past) t.judged ≡ false → last_version w (t ∷ past) ≡ last_version w past
last-refused past t w e = ap (λ (b : Bool). cond (b && concerns w t.judged) (Some (version_of w past t)) (last_version w past)) e

-- the end behind a transaction that is not accepted
pub ends-refused : (known : List ℕ → Bool) (past : List Placed) (end : LineEnd) (t : Placed) (f : ℕ) → EndsAt known past end → verdict_of (judged_of past) t.judged ≡ Rejected f → EndsAt known (t ∷ past) end
ends-refused known past end t f at e =
    let no_more = refused (judged_of past) t.judged f e in
    record {
      works = at.works ∙ sym (works-refused (judged_of past) t.judged no_more);
      last = λ w there. at.last w there ∙ sym (last-refused past t w no_more);
      right = λ w v is. last-refused past t w no_more ∙ at.right w v is;
    }

-- the end behind an accepted transaction
pub ends-taken : (known : List ℕ → Bool) (past : List Placed) (old new : LineEnd) (x : Judged) (t p o r : ℕ) → EndsAt known past old → verdict_of (judged_of past) x ≡ Accepted o r → new.works ≡ works_after x old.works →
    ((w : List ℕ) → last_in new w ≡ last_after x (record { transmission = t; place = p; ordinal = o; revision = r }) (last_in old) w) → EndsAt known (placed_at t p x ∷ past) new
ends-taken known past old new (Faulty f) t p o r at e works last = absurd (differ o r f e)
ends-taken known past old new (Clean kind n) t p o r at e works last =
    let is = taken (judged_of past) (Clean kind n) o r e in
    let now = λ (w : List ℕ). last-clean kind n past t p o r w is in
    let version : WorkVersion = record { transmission = t; place = p; ordinal = o; revision = r } in
    record {
      works = works ∙ ap (works_after (Clean kind n)) at.works ∙ works-taken (judged_of past) (Clean kind n) is.accepted;
      last = λ w there. last w ∙ ap (cond (bytes_eq n w) (Some version)) (at.last w there) ∙ sym (now w);
      right = λ w v found. now w ∙ right_by (bytes_eq n w) w v version (at.right w v) (sym (last w) ∙ found);
    }
  where
    right_by : (b : Bool) (w : List ℕ) (v version : WorkVersion) → (last_in old w ≡ Some v → last_version w past ≡ Some v) → cond b (Some version) (last_in old w) ≡ Some v → cond b (Some version) (last_version w past) ≡ Some v
    right_by true w v version h e = e
    right_by false w v version h e = h e

-- the verdict by what is known
pub told : (known : List ℕ → Bool) (past : List Placed) (end : LineEnd) (x : Judged) → EndsAt known past end → KnowsWork known x → next_verdict x (known_version end x) end.works ≡ verdict_of (judged_of past) x
told known past end (Faulty f) at there = refl
told known past end (Clean kind n) at there =
    ap (λ (o : Option WorkVersion). next_verdict (Clean kind n) o end.works) (at.last n there)
    ∙ ap (next_verdict (Clean kind n) (last_version n past)) at.works
    ∙ sym (next_is past (Clean kind n))

before : (b : Bool) → (b || false) ≡ true → b ≡ true
before true e = refl
before false e = e

-- a work is learnt
pub learns : (known : List ℕ → Bool) (past : List Placed) (old new : LineEnd) (work : List ℕ) (v : WorkVersion) → EndsAt known past old → ◌≡◌ {A = Option WorkVersion} (Some v) (last_version work past) → new.works ≡ old.works →
    ((w : List ℕ) → last_in new w ≡ cond (bytes_eq work w) (Some v) (last_in old w)) → EndsAt (λ w. known w || bytes_eq work w) past new
learns known past old new work v at is works last = record {
  works = works ∙ at.works;
  last = λ w there. last w ∙ by_case (bytes_eq work w) w refl there;
  right = λ w u found. right_by (bytes_eq work w) w u refl (sym (last w) ∙ found);
}
  where
    by_case : (b : Bool) (w : List ℕ) → bytes_eq work w ≡ b → (known w || b) ≡ true → cond b (Some v) (last_in old w) ≡ last_version w past
    by_case true w e there = is ∙ ap (λ (z : List ℕ). last_version z past) (same_bytes work w e)
    by_case false w e there = at.last w (before (known w) there)

    right_by : (b : Bool) (w : List ℕ) (u : WorkVersion) → bytes_eq work w ≡ b → cond b (Some v) (last_in old w) ≡ Some u → last_version w past ≡ Some u
    right_by true w u e found = ap (λ (z : List ℕ). last_version z past) (sym (same_bytes work w e)) ∙ sym is ∙ found
    right_by false w u e found = at.right w u found

-- a work without a version is learnt
pub learns-none : (known : List ℕ → Bool) (past : List Placed) (end : LineEnd) (work : List ℕ) → EndsAt known past end → ◌≡◌ {A = Option WorkVersion} None (last_version work past) → EndsAt (λ w. known w || bytes_eq work w) past end
learns-none known past end work at is = record {
  works = at.works;
  last = λ w there. by_case (bytes_eq work w) w refl there;
  right = at.right;
}
  where
    none_kept : (o : Option WorkVersion) → last_in end work ≡ o → last_in end work ≡ None
    none_kept None e = e
    none_kept (Some v) e = absurd (none_is_none v (is ∙ at.right work v e))

    by_case : (b : Bool) (w : List ℕ) → bytes_eq work w ≡ b → (known w || b) ≡ true → last_in end w ≡ last_version w past
    by_case true w e there =
        let same = same_bytes work w e in
        ap (last_in end) (sym same) ∙ none_kept (last_in end work) refl ∙ is ∙ ap (λ (z : List ℕ). last_version z past) same
    by_case false w e there = at.last w (before (known w) there)

-- an accepted transaction as a version, by what its verdict says
pub linked_is : (kind : TransactionKind) (n : List ℕ) (past : List Placed) (t p o r : ℕ) (before : Option ℕ) → IsTaken (judged_of past) (Clean kind n) o r → before ≡ last_index n past →
    ◌≡◌ {A = LinkedVersion} (record { version = record { transmission = t; place = p; ordinal = o; revision = r }; before = before }) (linked_version past (placed_at t p (Clean kind n)))
linked_is kind n past t p o r before is last =
    sym (made t p (ordinal_of n (Clean kind n ∷ judged_of past)) (versions_of n (judged_of past)) o r (last_index n past) before is.ordinal is.revision (sym last))
  where
    made : (t p o r o2 r2 : ℕ) (b b2 : Option ℕ) → o ≡ o2 → r ≡ r2 → b ≡ b2 → ◌≡◌ {A = LinkedVersion} (record { version = record { transmission = t; place = p; ordinal = o; revision = r }; before = b }) (record { version = record { transmission = t; place = p; ordinal = o2; revision = r2 }; before = b2 })
    made t p o r o2 r2 b b2 e1 e2 e3 = cc
