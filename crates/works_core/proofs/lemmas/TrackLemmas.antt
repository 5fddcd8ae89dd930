-- What is kept of the works after one more transaction, and what is kept of a work's last version.
use Rattle.std.proofs.Common.{◌≡◌, ℕ, ◌+◌, ◌<◌, ◌≤◌, Bool, true, false, cond, not, ◌&&◌, ◌||◌, List, [], ◌∷◌, ◌++◌, length, get_or, Option, Some, None, is_some, refl, sym, ap, subst, ◌∙◌, arith, if◌then◌else◌, nat_lt, add-zero, ⊎_elim, IfSome}
use Rattle.std.specs.Str.{bytes_eq}
use Rattle.std.proofs.lemmas.Bool.{cases_Bool, false≢true}
use Rattle.std.proofs.lemmas.List.{get_or_append_left, get_or_push, length_push}
use Rattle.std.proofs.lemmas.Slice.Eq.{bytes_eq-Decides}
use Rattle.cwr_records.specs.declared.work.TransactionKind.{TransactionKind}
use Rattle.cwr_records.specs.declared.work.TransactionKind.TheVariants.{Nwr, Rev}
use Rattle.works_core.specs.Verdicts.{registers, concerns, is_registered, is_accepted, works_in, versions_of, ordinal_of}
use Rattle.works_core.specs.Versions.{Placed, judged_of, is_version, last_version, version_of}
use Rattle.works_core.specs.Tracks.{number_in, accepted_in, last_index, linked_version, linked_versions}
use Rattle.works_core.specs.declared.judged.Judged.{Judged}
use Rattle.works_core.specs.declared.judged.Judged.TheVariants.{Clean, Faulty}
use Rattle.works_core.specs.declared.version.LinkedVersion.{LinkedVersion}
use Rattle.works_core.specs.declared.version.WorkVersion.{WorkVersion}

-- work numbers that compare alike are one
pub same_bytes : (v w : List ℕ) → bytes_eq v w ≡ true → v ≡ w
same_bytes v w e = (bytes_eq-Decides v w).0 e

-- the work that a transaction concerns is its own
pub concerned : (w : List ℕ) (x : Judged) → concerns w x ≡ true → number_in x ≡ w
concerned w (Clean kind u) e = same_bytes u w e
concerned w (Faulty fault) e = absurd (false≢true e)

none_of : (a b : Bool) → (a || b) ≡ false → (a ≡ false) × (b ≡ false)
none_of true b e = absurd (false≢true (sym e))
none_of false b e = (refl, e)

pub both_of : (a b : Bool) → (a && b) ≡ true → (a ≡ true) × (b ≡ true)
both_of true b e = (refl, e)
both_of false b e = absurd (false≢true e)

chosen_not : (a c : Bool) (n m : ℕ) → (a && c) ≡ false → (if a && c then n else m) ≡ m
chosen_not a c n m e = ap (λ (b : Bool). if b then n else m) e

and_false : (a c : Bool) → (c ≡ true → a ≡ false) → (a && c) ≡ false
and_false true true h = h refl
and_false true false h = refl
and_false false c h = refl

-- a work that is not registered has no version
pub no_versions : (w : List ℕ) (past : List Judged) → is_registered w past ≡ false → versions_of w past ≡ 0
no_versions w [] h = refl
no_versions w (Faulty f ∷ past) h = no_versions w past h
no_versions w (Clean Nwr u ∷ past) h =
    let parts = none_of (bytes_eq u w) (is_registered w past) h in
    chosen_not (not (is_registered u past)) (bytes_eq u w) (versions_of w past + 1) (versions_of w past) (and_false (not (is_registered u past)) (bytes_eq u w) (λ t. absurd (false≢true (sym parts.0 ∙ t))))
    ∙ no_versions w past parts.1
no_versions w (Clean Rev u ∷ past) h =
    chosen_not (is_registered u past) (bytes_eq u w) (versions_of w past + 1) (versions_of w past) (and_false (is_registered u past) (bytes_eq u w) (λ t. subst (λ (z : List ℕ). is_registered z past ≡ false) (sym (same_bytes u w t)) h))
    ∙ no_versions w past h

registering : (a b r : Bool) (n : ℕ) (before : Option ℕ) → (b ≡ true → a ≡ r) → is_some before ≡ r → is_some (if not a && b then Some n else before) ≡ (b || r)
registering true true r n before same h = h ∙ sym (same refl)
registering false true r n before same h = refl
registering true false r n before same h = h
registering false false r n before same h = h

revising : (a b r : Bool) (n : ℕ) (before : Option ℕ) → (b ≡ true → a ≡ r) → is_some before ≡ r → is_some (if a && b then Some n else before) ≡ r
revising true true r n before same h = same refl
revising true false r n before same h = h
revising false b r n before same h = h

one_more : (x : Judged) (past : List Judged) (w : List ℕ) (n : ℕ) (before : Option ℕ) → is_some before ≡ is_registered w past → is_some (if is_accepted past x && concerns w x then Some n else before) ≡ (registers w x || is_registered w past)
one_more (Faulty f) past w n before h = h
one_more (Clean Nwr u) past w n before h =
    registering (is_registered u past) (bytes_eq u w) (is_registered w past) n before (λ e. ap (λ (z : List ℕ). is_registered z past) (same_bytes u w e)) h
one_more (Clean Rev u) past w n before h =
    revising (is_registered u past) (bytes_eq u w) (is_registered w past) n before (λ e. ap (λ (z : List ℕ). is_registered z past) (same_bytes u w e)) h

-- a work has a last version where it is registered
pub last_registered : (w : List ℕ) (past : List Placed) → is_some (last_index w past) ≡ is_registered w (judged_of past)
last_registered w [] = refl
last_registered w (t ∷ past) = one_more t.judged (judged_of past) w (accepted_in past) (last_index w past) (last_registered w past)

pub none_is_none : {A : Type 0} (k : A) → ◌≡◌ {A = Option A} None (Some k) → ⊥
none_is_none k e = cc

-- there are so many versions as transactions are accepted
pub length-linked_versions : (past : List Placed) → length (linked_versions past) ≡ accepted_in past
length-linked_versions [] = refl
length-linked_versions (t ∷ past) = more (is_accepted (judged_of past) t.judged) (length-linked_versions past)
  where
    more : (b : Bool) → length (linked_versions past) ≡ accepted_in past → length (if b then linked_versions past ++ linked_version past t ∷ [] else linked_versions past) ≡ (if b then accepted_in past + 1 else accepted_in past)
    more true h = length_push (linked_versions past) (linked_version past t) ∙ ap (λ (n : ℕ). n + 1) h
    more false h = h

-- a work has at most so many versions as transactions are accepted
pub versions_of-le : (w : List ℕ) (past : List Placed) → versions_of w (judged_of past) ≤ accepted_in past
versions_of-le w [] = omega arith
versions_of-le w (t ∷ past) = more (is_accepted (judged_of past) t.judged) (concerns w t.judged) (versions_of-le w past)
  where
    more : (a c : Bool) → versions_of w (judged_of past) ≤ accepted_in past → (if a && c then versions_of w (judged_of past) + 1 else versions_of w (judged_of past)) ≤ (if a then accepted_in past + 1 else accepted_in past)
    more true true h = omega arith
    more true false h = omega arith
    more false c h = h

-- there are at most so many works as transactions are accepted
pub works_in-le : (past : List Placed) → works_in (judged_of past) ≤ accepted_in past
works_in-le [] = omega arith
works_in-le (t ∷ past) = by_kind t.judged (works_in-le past)
  where
    by_kind : (x : Judged) → works_in (judged_of past) ≤ accepted_in past → works_in (x ∷ judged_of past) ≤ (if is_accepted (judged_of past) x then accepted_in past + 1 else accepted_in past)
    by_kind (Faulty f) h = h
    by_kind (Clean Nwr n) h = begun (is_registered n (judged_of past)) h
      where
        begun : (b : Bool) → works_in (judged_of past) ≤ accepted_in past → (if not b then works_in (judged_of past) + 1 else works_in (judged_of past)) ≤ (if not b then accepted_in past + 1 else accepted_in past)
        begun true h = h
        begun false h = omega arith
    by_kind (Clean Rev n) h = revised (is_registered n (judged_of past)) h
      where
        revised : (b : Bool) → works_in (judged_of past) ≤ accepted_in past → works_in (judged_of past) ≤ (if b then accepted_in past + 1 else accepted_in past)
        revised true h = omega arith
        revised false h = h

-- one that is accepted becomes the last version of its work
pub last_index-accepted : (past : List Placed) (t : Placed) (w : List ℕ) → is_accepted (judged_of past) t.judged ≡ true → last_index w (t ∷ past) ≡ cond (concerns w t.judged) (Some (accepted_in past)) (last_index w past)
last_index-accepted past t w e = ap (λ (b : Bool). if b && concerns w t.judged then Some (accepted_in past) else last_index w past) e

pub linked_versions-accepted : (past : List Placed) (t : Placed) → is_accepted (judged_of past) t.judged ≡ true → linked_versions (t ∷ past) ≡ linked_versions past ++ linked_version past t ∷ []
linked_versions-accepted past t e = ap (λ (b : Bool). if b then linked_versions past ++ linked_version past t ∷ [] else linked_versions past) e

-- how many works there are after a registration
pub works_in-begun : (past : List Judged) (u : List ℕ) → is_registered u past ≡ false → works_in (Clean Nwr u ∷ past) ≡ works_in past + 1
works_in-begun past u free = ap (λ (z : Bool). if not z then works_in past + 1 else works_in past) free

-- the last of the accepted transactions of a work with a transmission's number up to a cut, looking back
abbrev pub last_upto : ℕ → List ℕ → List Placed → Option WorkVersion
last_upto cut work [] = None
last_upto cut work (t ∷ past) = if is_version work past t && not (nat_lt cut t.transmission) then Some (version_of work past t) else last_upto cut work past

-- where the last version of a work stands, and what is kept of it
pub record LastAt (w : List ℕ) (past : List Placed) (i : ℕ) : Type 0 where
  pub before : List Placed
  pub last : Placed
  pub is : is_version w before last ≡ true
  pub index : i ≡ accepted_in before
  pub within : i < accepted_in past
  pub found : (d : LinkedVersion) → get_or (linked_versions past) i d ≡ record { version = version_of w before last; before = last_index w before }
  pub ordinal : ordinal_of w (judged_of past) ≡ ordinal_of w (judged_of (last ∷ before))
  pub versions : versions_of w (judged_of past) ≡ versions_of w (judged_of before) + 1
  pub upto : (cut : ℕ) → last_upto cut w past ≡ last_upto cut w (last ∷ before)
  pub front : (j : ℕ) (d : LinkedVersion) → j < i → get_or (linked_versions past) j d ≡ get_or (linked_versions before) j d

front_kept : (past : List Placed) (t : Placed) (j : ℕ) (d : LinkedVersion) → j < accepted_in past → get_or (linked_versions (t ∷ past)) j d ≡ get_or (linked_versions past) j d
front_kept past t j d h = more (is_accepted (judged_of past) t.judged)
  where
    more : (b : Bool) → get_or (if b then linked_versions past ++ linked_version past t ∷ [] else linked_versions past) j d ≡ get_or (linked_versions past) j d
    more true = get_or_append_left (linked_versions past) (linked_version past t ∷ []) d j (omega (arith, length-linked_versions past))
    more false = refl

accepted_in-more : (past : List Placed) (t : Placed) → accepted_in past ≤ accepted_in (t ∷ past)
accepted_in-more past t = more (is_accepted (judged_of past) t.judged)
  where
    more : (b : Bool) → accepted_in past ≤ (if b then accepted_in past + 1 else accepted_in past)
    more true = omega arith
    more false = omega arith

last_here : (w : List ℕ) (t : Placed) (past : List Placed) (i : ℕ) → is_version w past t ≡ true → last_index w (t ∷ past) ≡ Some i → LastAt w (t ∷ past) i
last_here w t past i is e =
    let parts = both_of (is_accepted (judged_of past) t.judged) (concerns w t.judged) is in
    let found_here : last_index w (t ∷ past) ≡ Some (accepted_in past) = ap (λ (b : Bool). if b then Some (accepted_in past) else last_index w past) is in
    let index : i ≡ accepted_in past = cc in
    let more : accepted_in (t ∷ past) ≡ accepted_in past + 1 = ap (λ (b : Bool). if b then accepted_in past + 1 else accepted_in past) parts.0 in
    let line = linked_versions-accepted past t parts.0 in
    let work = concerned w t.judged parts.1 in
    let count = length-linked_versions past in
    record {
      before = past;
      last = t;
      is = is;
      index = index;
      within = omega arith;
      found = λ d.
          ap (λ (xs : List LinkedVersion). get_or xs i d) line
          ∙ get_or_push (linked_versions past) (linked_version past t) d i (count ∙ sym index)
          ∙ ap (λ (z : List ℕ). record { version = version_of z past t; before = last_index z past }) work;
      ordinal = refl;
      versions = ap (λ (b : Bool). if b then versions_of w (judged_of past) + 1 else versions_of w (judged_of past)) is;
      upto = λ cut. refl;
      front = λ j d h. front_kept past t j d (omega arith);
    }

last_before : (w : List ℕ) (t : Placed) (past : List Placed) (i : ℕ) → is_version w past t ≡ false → is_registered w (judged_of past) ≡ true → LastAt w past i → LastAt w (t ∷ past) i
last_before w t past i not_this there at = record {
  before = at.before;
  last = at.last;
  is = at.is;
  index = at.index;
  within = (let more = accepted_in-more past t in let h = at.within in omega arith);
  found = λ d. front_kept past t i d at.within ∙ at.found d;
  ordinal = ap (λ (b : Bool). if b then ordinal_of w (judged_of past) else works_in (judged_of (t ∷ past))) there ∙ at.ordinal;
  versions = ap (λ (b : Bool). if b then versions_of w (judged_of past) + 1 else versions_of w (judged_of past)) not_this ∙ at.versions;
  upto = λ cut. ap (λ (b : Bool). if b && not (nat_lt cut t.transmission) then Some (version_of w past t) else last_upto cut w past) not_this ∙ at.upto cut;
  front = λ j d h. (let k = at.within in front_kept past t j d (omega arith)) ∙ at.front j d h;
}

-- a work's last version stands where the map says
pub last_at : (w : List ℕ) (past : List Placed) (i : ℕ) → last_index w past ≡ Some i → LastAt w past i
last_at w [] i e = absurd (none_is_none i e)
last_at w (t ∷ past) i e = at_case (is_version w past t) refl (last_at w past i)
  where
    at_case : (b : Bool) → is_version w past t ≡ b → (last_index w past ≡ Some i → LastAt w past i) → LastAt w (t ∷ past) i
    at_case true is recur = last_here w t past i is e
    at_case false is recur =
        let further : last_index w past ≡ Some i = sym (ap (λ (b : Bool). if b then Some (accepted_in past) else last_index w past) is) ∙ e in
        let there : is_registered w (judged_of past) ≡ true = sym (last_registered w past) ∙ ap is_some further in
        last_before w t past i is there (recur further)

-- the version that stands where the last one is kept is the last version
pub version_found : (w : List ℕ) (past : List Placed) (i : ℕ) (d : LinkedVersion) → last_index w past ≡ Some i → last_version w past ≡ Some (get_or (linked_versions past) i d).version
unfolding last_here
version_found w [] i d e = absurd (none_is_none i e)
version_found w (t ∷ past) i d e =
    ⊎_elim
    (λ (here : is_version w past t ≡ true).
    let found = (last_here w t past i here e).found d in
    ap (λ (b : Bool). cond b (Some (version_of w past t)) (last_version w past)) here ∙ ap (λ (l : LinkedVersion). Some l.version) (sym found))
    (λ (before : is_version w past t ≡ false).
    let there : last_index w past ≡ Some i = sym (ap (λ (b : Bool). cond b (Some (accepted_in past)) (last_index w past)) before) ∙ e in
    ap (λ (b : Bool). cond b (Some (version_of w past t)) (last_version w past)) before
    ∙ version_found w past i d there
    ∙ ap (λ (l : LinkedVersion). Some l.version) (sym (front_kept past t i d (last_at w past i there).within)))
    (cases_Bool (is_version w past t))

-- how many works there are once an accepted transaction has come
pub works_in-taken : (past : List Judged) (kind : TransactionKind) (u : List ℕ) (last : Option ℕ) → is_accepted past (Clean kind u) ≡ true → is_some last ≡ is_registered u past → works_in past + (if is_some last then 0 else 1) ≡ works_in (Clean kind u ∷ past)
works_in-taken past Nwr u last accepted same =
    let free : is_registered u past ≡ false = not-true (is_registered u past) accepted in
    ap (λ (b : Bool). works_in past + (if b then 0 else 1)) (same ∙ free) ∙ sym (works_in-begun past u free)
  where
    not-true : (b : Bool) → not b ≡ true → b ≡ false
    not-true true e = sym e
    not-true false e = refl
works_in-taken past Rev u last accepted same = ap (λ (b : Bool). works_in past + (if b then 0 else 1)) (same ∙ accepted) ∙ add-zero (works_in past)

-- where the last version of a work is kept, there is one
pub last_within : (o : Option ℕ) (w : List ℕ) (past : List Placed) (versions : List LinkedVersion) → o ≡ last_index w past → versions ≡ linked_versions past → IfSome o (λ at. at < length versions)
last_within None w past versions e is = tt
last_within (Some i) w past versions e is =
    let within = (last_at w past i (sym e)).within in
    let count = ap (λ (xs : List LinkedVersion). length xs) is ∙ length-linked_versions past in
    omega arith
