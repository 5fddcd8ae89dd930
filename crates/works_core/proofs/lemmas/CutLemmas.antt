-- A work's version at a cut: what the links from its last version lead to.
use Rattle.std.proofs.Common.{◌≡◌, ℕ, ◌+◌, ◌<◌, ◌≤◌, Bool, true, false, not, ◌&&◌, List, [], ◌∷◌, Option, Some, None, length, get_or, nat_le, nat_lt, ⊎_elim, refl, sym, ap, ◌∙◌, arith, if◌then◌else◌}
use Rattle.std.proofs.lemmas.Bool.{cases_lt, le-ltb, lt-ltb}
use Rattle.std.proofs.lemmas.Bool.Decides.{nat_tests}
use Rattle.works_core.specs.Numbered.{IsRising, JudgedTransmission, up_to}
use Rattle.works_core.specs.Tracks.{accepted_in, last_index, linked_versions}
use Rattle.works_core.specs.Versions.{Placed, placed_at, placed_behind, placed_behind_all, placed_line, is_version, version_of, last_version, work_at}
use Rattle.works_core.specs.declared.judged.Judged.{Judged}
use Rattle.works_core.specs.declared.version.LinkedVersion.{LinkedVersion}
use Rattle.works_core.specs.declared.version.WorkVersion.{WorkVersion}
use Rattle.works_core.proofs.lemmas.TrackLemmas.{last_at, last_upto, none_is_none, length-linked_versions}

-- all transactions are of transmissions up to a number
abbrev AllUpto : ℕ → List Placed → Type 0
AllUpto cut [] = Unit {0}
AllUpto cut (t ∷ past) = (t.transmission ≤ cut) × AllUpto cut past

all_upto-behind : (cut : ℕ) (past : List Placed) (n p : ℕ) (judged : List Judged) → n ≤ cut → AllUpto cut past → AllUpto cut (placed_behind past n p judged)
all_upto-behind cut past n p [] h all = all
all_upto-behind cut past n p (j ∷ more) h all = all_upto-behind cut (placed_at n p j ∷ past) n (p + 1) more h (h, all)

-- where no transmission is above the cut, the cut takes nothing away
upto_all : (cut : ℕ) (w : List ℕ) (past : List Placed) → AllUpto cut past → last_upto cut w past ≡ last_version w past
upto_all cut w [] all = refl
upto_all cut w (t ∷ past) all =
    let first = all.0 in
    let below : nat_lt cut t.transmission ≡ false = le-ltb cut t.transmission first in
    ap (λ (b : Bool). if is_version w past t && not b then Some (version_of w past t) else last_upto cut w past) below
    ∙ open_test (is_version w past t)
    ∙ ap (λ (v : Option WorkVersion). if is_version w past t then Some (version_of w past t) else v) (upto_all cut w past all.1)
  where
    open_test : (b : Bool) → (if b && true then Some (version_of w past t) else last_upto cut w past) ≡ (if b then Some (version_of w past t) else last_upto cut w past)
    open_test true = refl
    open_test false = refl

-- a transaction above the cut is passed over
upto_above : (cut : ℕ) (w : List ℕ) (t : Placed) (past : List Placed) → cut < t.transmission → last_upto cut w (t ∷ past) ≡ last_upto cut w past
upto_above cut w t past h =
    let above : nat_lt cut t.transmission ≡ true = lt-ltb cut t.transmission h in
    ap (λ (b : Bool). if is_version w past t && not b then Some (version_of w past t) else last_upto cut w past) above
    ∙ closed_test (is_version w past t)
  where
    closed_test : (b : Bool) → (if b && false then Some (version_of w past t) else last_upto cut w past) ≡ last_upto cut w past
    closed_test true = refl
    closed_test false = refl

upto_behind : (cut : ℕ) (w : List ℕ) (past : List Placed) (n p : ℕ) (judged : List Judged) → cut < n → last_upto cut w (placed_behind past n p judged) ≡ last_upto cut w past
upto_behind cut w past n p [] h = refl
upto_behind cut w past n p (j ∷ more) h = upto_behind cut w (placed_at n p j ∷ past) n (p + 1) more h ∙ upto_above cut w (placed_at n p j) past h

upto_behind_all : (low cut : ℕ) (w : List ℕ) (past : List Placed) (line : List JudgedTransmission) → IsRising low line → cut ≤ low → last_upto cut w (placed_behind_all past line) ≡ last_upto cut w past
upto_behind_all low cut w past [] rising le = refl
upto_behind_all low cut w past (x ∷ line) rising le =
    let first = rising.0 in
    upto_behind_all x.number cut w (placed_behind past x.number 0 x.judged) line rising.1 (omega (arith, first, le)) ∙ upto_behind cut w past x.number 0 x.judged (omega (arith, first, le))

-- none above a cut is up to it
none_up_to : (low cut : ℕ) (line : List JudgedTransmission) → IsRising low line → cut ≤ low → up_to cut line ≡ []
none_up_to low cut [] rising le = refl
none_up_to low cut (x ∷ line) rising le =
    let first = rising.0 in
    ap (λ (b : Bool). if b then x ∷ up_to cut line else up_to cut line) (le-ltb_not cut x.number (omega (arith, first, le)))
    ∙ none_up_to x.number cut line rising.1 (omega (arith, first, le))
  where
    le-ltb_not : (cut n : ℕ) → cut < n → nat_le n cut ≡ false
    le-ltb_not cut n h = grind (arith, nat_tests, h)

upto_rising : (w : List ℕ) (line : List JudgedTransmission) (low cut : ℕ) (past : List Placed) → IsRising low line → AllUpto cut past → last_upto cut w (placed_behind_all past line) ≡ last_version w (placed_behind_all past (up_to cut line))
upto_rising w [] low cut past rising all = upto_all cut w past all
upto_rising w (x ∷ line) low cut past rising all =
    ⊎_elim
    (λ (above : cut < x.number).
    let stops : nat_le x.number cut ≡ false = grind (arith, nat_tests, above) in
    upto_behind_all x.number cut w (placed_behind past x.number 0 x.judged) line rising.1 (omega (arith, above))
    ∙ upto_behind cut w past x.number 0 x.judged above ∙ upto_all cut w past all
    ∙ ap (λ (l : List JudgedTransmission). last_version w (placed_behind_all past l)) (sym (ap (λ (b : Bool). if b then x ∷ up_to cut line else up_to cut line) stops ∙ none_up_to x.number cut line rising.1 (omega (arith, above)))))
    (λ (up : x.number ≤ cut).
    let passes : nat_le x.number cut ≡ true = grind (arith, nat_tests, up) in
    upto_rising w line x.number cut (placed_behind past x.number 0 x.judged) rising.1 (all_upto-behind cut past x.number 0 x.judged up all)
    ∙ ap (λ (l : List JudgedTransmission). last_version w (placed_behind_all past l)) (sym (ap (λ (b : Bool). if b then x ∷ up_to cut line else up_to cut line) passes)))
    (cases_lt cut x.number)

-- the version at a cut is the last one with a transmission up to the cut among those of the whole line
pub work_at_upto : (line : List JudgedTransmission) (w : List ℕ) (cut : ℕ) → IsRising 0 line → work_at line w cut ≡ last_upto cut w (placed_line line)
unfolding work_at
work_at_upto line w cut rising = sym (upto_rising w line 0 cut [] rising tt)

-- a walk along the links of a work: what is still looked at ends in the answer
pub record Walks (cut : ℕ) (w : List ℕ) (answer : Option WorkVersion) (versions : List LinkedVersion) (index : Option ℕ) : Type 0 where
  pub past : List Placed
  pub stands : index ≡ last_index w past
  pub ends : answer ≡ last_upto cut w past
  pub within : accepted_in past ≤ length versions
  pub front : (j : ℕ) (d : LinkedVersion) → j < accepted_in past → get_or versions j d ≡ get_or (linked_versions past) j d

-- how far a walk has to go at most
abbrev pub ahead : Option ℕ → ℕ
ahead None = 0
ahead (Some i) = i + 1

pub walks_start : (line : List JudgedTransmission) (w : List ℕ) (cut : ℕ) (versions : List LinkedVersion) (index : Option ℕ) → IsRising 0 line → versions ≡ linked_versions (placed_line line) → index ≡ last_index w (placed_line line) → Walks cut w (work_at line w cut) versions index
walks_start line w cut versions index rising all stands = record {
  past = placed_line line;
  stands = stands;
  ends = work_at_upto line w cut rising;
  within = (let count = length-linked_versions (placed_line line) in let same = ap (λ (xs : List LinkedVersion). length xs) all in omega arith);
  front = λ j d h. ap (λ (xs : List LinkedVersion). get_or xs j d) all;
}

pub walks_within : (cut : ℕ) (w : List ℕ) (answer : Option WorkVersion) (versions : List LinkedVersion) (i : ℕ) → Walks cut w answer versions (Some i) → i < length versions
walks_within cut w answer versions i walk =
    let at = (last_at w walk.past i (sym walk.stands)).within in
    let most = walk.within in
    omega arith

found_at : (cut : ℕ) (w : List ℕ) (answer : Option WorkVersion) (versions : List LinkedVersion) (i : ℕ) (d : LinkedVersion) (walk : Walks cut w answer versions (Some i)) → d ≡ get_or versions i d →
    d ≡ record { version = version_of w (last_at w walk.past i (sym walk.stands)).before (last_at w walk.past i (sym walk.stands)).last; before = last_index w (last_at w walk.past i (sym walk.stands)).before }
found_at cut w answer versions i d walk is =
    let at = last_at w walk.past i (sym walk.stands) in
    is ∙ walk.front i d at.within ∙ at.found d

-- the version that the walk is at is the answer where its transmission is up to the cut
pub walks_found : (cut : ℕ) (w : List ℕ) (answer : Option WorkVersion) (versions : List LinkedVersion) (i : ℕ) (d : LinkedVersion) → Walks cut w answer versions (Some i) → d ≡ get_or versions i d → d.version.transmission ≤ cut → answer ≡ Some d.version
walks_found cut w answer versions i d walk is h =
    let at = last_at w walk.past i (sym walk.stands) in
    let found = found_at cut w answer versions i d walk is in
    let same : d.version.transmission ≡ at.last.transmission = ap (λ (l : LinkedVersion). l.version.transmission) found in
    let up : at.last.transmission ≤ cut = omega arith in
    let below : nat_lt cut at.last.transmission ≡ false = le-ltb cut at.last.transmission up in
    walk.ends ∙ at.upto cut
    ∙ ap (λ (b : Bool). if b && not (nat_lt cut at.last.transmission) then Some (version_of w at.before at.last) else last_upto cut w at.before) at.is
    ∙ ap (λ (b : Bool). if not b then Some (version_of w at.before at.last) else last_upto cut w at.before) below
    ∙ ap (λ (l : LinkedVersion). Some l.version) (sym found)

-- a walk goes on behind a version above the cut
pub walks_next : (cut : ℕ) (w : List ℕ) (answer : Option WorkVersion) (versions : List LinkedVersion) (i : ℕ) (d : LinkedVersion) → Walks cut w answer versions (Some i) → d ≡ get_or versions i d → cut < d.version.transmission → Walks cut w answer versions d.before
walks_next cut w answer versions i d walk is h =
    let at = last_at w walk.past i (sym walk.stands) in
    let found = found_at cut w answer versions i d walk is in
    let same : d.version.transmission ≡ at.last.transmission = ap (λ (l : LinkedVersion). l.version.transmission) found in
    let above : cut < at.last.transmission = omega arith in
    let index = at.index in
    let inner = at.within in
    let most = walk.within in
    record {
      past = at.before;
      stands = ap (λ (l : LinkedVersion). l.before) found;
      ends = walk.ends ∙ at.upto cut ∙ upto_above cut w at.last at.before above;
      within = omega arith;
      front = λ j e k. (walk.front j e (omega arith) ∙ at.front j e (omega arith));
    }

-- it comes nearer to its end
pub walks_nearer : (cut : ℕ) (w : List ℕ) (answer : Option WorkVersion) (versions : List LinkedVersion) (i : ℕ) (d : LinkedVersion) → Walks cut w answer versions (Some i) → d ≡ get_or versions i d → ahead d.before < i + 1
walks_nearer cut w answer versions i d walk is =
    let at = last_at w walk.past i (sym walk.stands) in
    let found = found_at cut w answer versions i d walk is in
    nearer at.before i at.index d.before (ap (λ (l : LinkedVersion). l.before) found)
  where
    nearer : (past : List Placed) (n : ℕ) → n ≡ accepted_in past → (o : Option ℕ) → o ≡ last_index w past → ahead o < n + 1
    nearer past n e None same = omega arith
    nearer past n e (Some j) same = (let inner = (last_at w past j (sym same)).within in omega arith)

no_version : (cut : ℕ) (w : List ℕ) (past : List Placed) → last_index w past ≡ None → last_upto cut w past ≡ None
no_version cut w [] e = refl
no_version cut w (t ∷ past) e = by_case (is_version w past t) refl (no_version cut w past)
  where
    by_case : (b : Bool) → is_version w past t ≡ b → (last_index w past ≡ None → last_upto cut w past ≡ None) → last_upto cut w (t ∷ past) ≡ None
    by_case true is recur = absurd (none_is_none (accepted_in past) (sym e ∙ ap (λ (b : Bool). if b then Some (accepted_in past) else last_index w past) is))
    by_case false is recur =
        let further : last_index w past ≡ None = sym (ap (λ (b : Bool). if b then Some (accepted_in past) else last_index w past) is) ∙ e in
        ap (λ (b : Bool). if b && not (nat_lt cut t.transmission) then Some (version_of w past t) else last_upto cut w past) is ∙ recur further

-- a walk that has come to its end has no answer
pub walks_end : (cut : ℕ) (w : List ℕ) (answer : Option WorkVersion) (versions : List LinkedVersion) → Walks cut w answer versions None → answer ≡ None
walks_end cut w answer versions walk = walk.ends ∙ no_version cut w walk.past (sym walk.stands)
