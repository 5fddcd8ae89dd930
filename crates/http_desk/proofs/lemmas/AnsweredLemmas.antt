-- Lemmas on requests that were answered in turn: one after another, what follows for the book, and what no later failure takes away.
use Rattle.std.proofs.Common.{◌≡◌, ◌≤◌, ⊎_elim, inl, inr, true, false, Some, ℕ, suc, List, [], ◌∷◌, ◌++◌, length, refl, sym, ◌∙◌, ap, subst, arith}
use Rattle.std.specs.Prelude.{IsTrue}
use Rattle.std.proofs.lemmas.List.{length-map, map-append}
use Rattle.share_rules.specs.declared.office.Office.{Office}
use Rattle.society_core.specs.Answers.{answer, next}
use Rattle.society_core.specs.Book.{Book}
use Rattle.society_core.specs.Entries.{Accepts, Entry, IsAccepted, IsIn, entry_of, is_acceptance}
use Rattle.society_core.specs.Requests.{AsksElsewhere, Closes, ClosesFaulty, Inquires, Puts, PutsReturn, Query, Reply, States, StatesFaulty}
use Rattle.society_core.specs.Runs.{Proceeds, Run, asks_store}
use Rattle.society_core.specs.State.{IsState, State, StaysClean}
use Rattle.society_core.proofs.lemmas.CleanStores.{stays_through}
use Rattle.society_core.proofs.lemmas.HeadlineLemmas.{holds_what_came, step_keeps, step_there}
use Rattle.http_text.specs.Part.{Part}
use Rattle.http_text.specs.Path.{request_of}
use Rattle.http_desk.specs.Serves.{Answered, AnsweredThrough, AreAnswered, Steps, queries_of}

-- ---- one after another

-- what was answered goes on by what was answered
pub answered_append : {S : Type 0} (state : S → State) (qs ps : List Query) (rs ss : List Reply) (a b c : S)
    → Answered state qs rs a b → Answered state ps ss b c → Answered state (qs ++ ps) (rs ++ ss) a c
answered_append {S} state [] ps [] ss a b c same more = subst (λ (d : S). Answered state ps ss d c) same more
answered_append state (q ∷ qs) ps (r ∷ rs) ss a b c first more = (first.0, first.1, answered_append state qs ps rs ss first.0 b c first.2 more)
answered_append state [] ps (r ∷ rs) ss a b c first more = absurd first
answered_append state (q ∷ qs) ps [] ss a b c first more = absurd first

-- as many answers as requests
answered_each : {S : Type 0} (state : S → State) (qs : List Query) (rs : List Reply) (a b : S) → Answered state qs rs a b → length rs ≡ length qs
answered_each state [] [] a b same = refl
answered_each state (q ∷ qs) (r ∷ rs) a b first = ap (λ (n : ℕ). suc n) (answered_each state qs rs first.0 b first.2)
answered_each state [] (r ∷ rs) a b first = absurd first
answered_each state (q ∷ qs) [] a b first = absurd first

-- the office stays
answered_office : {S : Type 0} (state : S → State) (qs : List Query) (rs : List Reply) (a b : S) → Answered state qs rs a b → (state b).office ≡ (state a).office
answered_office {S} state [] [] a b same = ap (λ (d : S). (state d).office) same
answered_office state (q ∷ qs) (r ∷ rs) a b first = answered_office state qs rs first.0 b first.2 ∙ first.1.proceeds.goes.office
answered_office state [] (r ∷ rs) a b first = absurd first
answered_office state (q ∷ qs) [] a b first = absurd first

-- a store that is clean was clean
pub answered_clean : {S : Type 0} (state : S → State) (qs : List Query) (rs : List Reply) (a b : S) → Answered state qs rs a b
    → IsTrue (state b).is_clean → IsTrue (state a).is_clean
answered_clean {S} state [] [] a b same clean = subst (λ (d : S). IsTrue (state d).is_clean) same clean
answered_clean state (q ∷ qs) (r ∷ rs) a b first clean = first.1.proceeds.goes.clean (answered_clean state qs rs first.0 b first.2 clean)
answered_clean state [] (r ∷ rs) a b first clean = absurd first
answered_clean state (q ∷ qs) [] a b first clean = absurd first

-- a medium that told the truth told it before
answered_honest : {S : Type 0} (state : S → State) (qs : List Query) (rs : List Reply) (a b : S) → Answered state qs rs a b
    → IsTrue (state b).is_honest → IsTrue (state a).is_honest
answered_honest {S} state [] [] a b same honest = subst (λ (d : S). IsTrue (state d).is_honest) same honest
answered_honest state (q ∷ qs) (r ∷ rs) a b first honest = first.1.proceeds.goes.honest (answered_honest state qs rs first.0 b first.2 honest)
answered_honest state [] (r ∷ rs) a b first honest = absurd first
answered_honest state (q ∷ qs) [] a b first honest = absurd first

-- no fault of it is forgotten
answered_faults : {S : Type 0} (state : S → State) (qs : List Query) (rs : List Reply) (a b : S) → Answered state qs rs a b
    → (state a).faults ≤ (state b).faults
answered_faults {S} state [] [] a b same = let e : (state b).faults ≡ (state a).faults = ap (λ (d : S). (state d).faults) same in omega arith
answered_faults state (q ∷ qs) (r ∷ rs) a b first =
    omega (arith, first.1.proceeds.goes.faults, answered_faults state qs rs first.0 b first.2)
answered_faults state [] (r ∷ rs) a b first = absurd first
answered_faults state (q ∷ qs) [] a b first = absurd first

-- a store that is clean stays clean, unless its medium fails
answered_stays : {S : Type 0} (state : S → State) (qs : List Query) (rs : List Reply) (a b : S) → Answered state qs rs a b → StaysClean (state a) (state b)
answered_stays {S} state [] [] a b same = λ honest clean. inl (subst (λ (d : S). IsTrue (state d).is_clean) (sym same) clean)
answered_stays state (q ∷ qs) (r ∷ rs) a b first =
    stays_through (state a) (state first.0) (state b) first.1.proceeds.goes.stays (answered_stays state qs rs first.0 b first.2)
    (answered_honest state qs rs first.0 b first.2) first.1.proceeds.goes.faults (answered_faults state qs rs first.0 b first.2)
answered_stays state [] (r ∷ rs) a b first = absurd first
answered_stays state (q ∷ qs) [] a b first = absurd first

-- a clean store's book is that of a run
answered_run : {S : Type 0} (state : S → State) (qs : List Query) (rs : List Reply) (a b : S) → Answered state qs rs a b
    → IsTrue (state b).is_clean → Run (state a).office (state a).book qs rs (state b).book
answered_run {S} state [] [] a b same clean = ap (λ (d : S). (state d).book) same
answered_run state (q ∷ qs) (r ∷ rs) a b first clean = (
  (state first.0).book,
  first.1.proceeds.step (answered_clean state qs rs first.0 b first.2 clean),
  subst (λ (o : Office). Run o (state first.0).book qs rs (state b).book) first.1.proceeds.goes.office (answered_run state qs rs first.0 b first.2 clean),
)
answered_run state [] (r ∷ rs) a b first clean = absurd first
answered_run state (q ∷ qs) [] a b first clean = absurd first

-- ---- what no later failure takes away

-- these entries stand in the book where the store is clean, and in each that a crash may leave where its medium told the truth
record Keeps (store : State) (Entries : Entry → Type 0) : Type 0 where
  there : IsTrue store.is_clean → (entry : Entry) → Entries entry → IsIn store.book entry
  left : IsTrue store.is_honest → (book : Book) → store.left book → (entry : Entry) → Entries entry → IsIn book entry

-- a store that is clean keeps what stands in its book
keeps_own : (store : State) → IsState store → IsTrue store.is_clean → Keeps store (IsIn store.book)
keeps_own store law clean = record {
  there = λ _ entry is. is;
  left = λ honest book left entry is. subst (λ (b : Book). IsIn b entry) (sym (law.at_rest clean book left)) is;
}

-- a call keeps it
call_keeps : (old new : State) (query : Query) (reply : Reply) (Entries : Entry → Type 0) → Proceeds old new query reply → Keeps old Entries → Keeps new Entries
call_keeps old new query reply Entries call kept = record {
  there = λ clean entry is. step_keeps old.office old.book query reply new.book (call.step clean) entry (kept.there (call.goes.clean clean) entry is);
  left = λ honest book left entry is.
      ⊎_elim
      (λ (before : old.left book). kept.left (call.goes.honest honest) book before entry is)
      (λ (commits : IsTrue old.is_clean × (book ≡ next old.book query)).
      subst (λ (b : Book). IsIn b entry) (sym commits.1)
      (step_keeps old.office old.book query (answer old.office old.book query) (next old.book query) (inl (refl, refl)) entry (kept.there commits.0 entry is)))
      (call.goes.crash honest book left);
}

-- and so do all that come later
answered_keeps : {S : Type 0} (state : S → State) (qs : List Query) (rs : List Reply) (a b : S) (Entries : Entry → Type 0) → Answered state qs rs a b
    → Keeps (state a) Entries → Keeps (state b) Entries
answered_keeps {S} state [] [] a b Entries same kept = subst (λ (d : S). Keeps (state d) Entries) (sym same) kept
answered_keeps state (q ∷ qs) (r ∷ rs) a b Entries first kept =
    answered_keeps state qs rs first.0 b Entries first.2 (call_keeps (state a) (state first.0) q r Entries first.1.proceeds kept)
answered_keeps state [] (r ∷ rs) a b Entries first kept = absurd first
answered_keeps state (q ∷ qs) [] a b Entries first kept = absurd first

-- ---- what was accepted

-- a request that is to make an entry asks the store
makes_asks : (query : Query) (entry : Entry) → entry_of query ≡ Some entry → asks_store query ≡ true
makes_asks (Puts sender number body) entry e = refl
makes_asks (States sender stated) entry e = refl
makes_asks (StatesFaulty fault) entry e = absurd cc
makes_asks (PutsReturn key body) entry e = refl
makes_asks (Closes pool order) entry e = refl
makes_asks (ClosesFaulty fault) entry e = absurd cc
makes_asks (Inquires inquiry) entry e = absurd cc
makes_asks AsksElsewhere entry e = absurd cc

-- the entry of a request that was accepted over a medium that told the truth
accepted_kept : (old new : State) (query : Query) (reply : Reply) (entry : Entry) → Proceeds old new query reply → IsTrue new.is_honest → Accepts query reply entry → Keeps new (λ e. entry ≡ e)
accepted_kept old new query reply entry call honest accepts =
    elim (call.told (makes_asks query entry accepts.0) honest) [
      | inl busy ↦ absurd (let clash : false ≡ true = ap is_acceptance (sym busy) ∙ accepts.1 in cc)
      | inr truth ↦
          let due : Accepts query (answer old.office old.book query) entry = subst (λ (r : Reply). Accepts query r entry) truth.says accepts in
          let next_has = step_there old.office old.book query (answer old.office old.book query) (next old.book query) (inl (refl, refl)) entry due in
          record {
            there = λ clean e is. subst (IsIn new.book) is (step_there old.office old.book query reply new.book (call.step clean) entry accepts);
            left = λ _ book left e is. subst (IsIn book) is (subst (λ (b : Book). IsIn b entry) (sym (truth.lasts book left)) next_has);
          }
    ]

accepted_lasts : {S : Type 0} (state : S → State) (qs : List Query) (rs : List Reply) (a b : S) → Answered state qs rs a b
    → IsTrue (state b).is_honest → (entry : Entry) → IsAccepted qs rs entry → Keeps (state b) (λ e. entry ≡ e)
accepted_lasts state [] rs a b answered honest entry accepted = absurd accepted
accepted_lasts state (q ∷ qs) [] a b answered honest entry accepted = absurd accepted
accepted_lasts state (q ∷ qs) (r ∷ rs) a b first honest entry (inl now) =
    answered_keeps state qs rs first.0 b (λ e. entry ≡ e) first.2
    (accepted_kept (state a) (state first.0) q r entry first.1.proceeds (answered_honest state qs rs first.0 b first.2 honest) now)
accepted_lasts state (q ∷ qs) (r ∷ rs) a b first honest entry (inr later) = accepted_lasts state qs rs first.0 b first.2 honest entry later

-- ---- the requests of a connection

-- all that is told of them follows from the steps
answered_so : {S : Type 0} (state : S → State) (parts : List Part) (replies : List Reply) (desk new_desk : S) → Answered state (queries_of (state desk).office parts) replies desk new_desk
    → AreAnswered state parts replies desk new_desk
answered_so state parts replies desk new_desk steps = record {
  each = answered_each state (queries_of (state desk).office parts) replies desk new_desk steps ∙ length-map parts (request_of (state desk).office.society);
  office = answered_office state (queries_of (state desk).office parts) replies desk new_desk steps;
  steps = steps;
  stays = answered_stays state (queries_of (state desk).office parts) replies desk new_desk steps;
  run = answered_run state (queries_of (state desk).office parts) replies desk new_desk steps;
  came = λ clean. holds_what_came _ _ (queries_of (state desk).office parts) replies _ (answered_run state (queries_of (state desk).office parts) replies desk new_desk steps clean);
  lasts = λ honest entry accepted book left.
      (accepted_lasts state (queries_of (state desk).office parts) replies desk new_desk steps honest entry accepted).left honest book left entry refl;
}

pub none_answered : {S : Type 0} (state : S → State) (desk : S) → AreAnswered state [] [] desk desk
none_answered state desk = answered_so state [] [] desk desk refl

-- behind some requests more were answered
pub answered_on : {S : Type 0} (state : S → State) (ps qs : List Part) (rs ss : List Reply) (old mid new : S)
    → AreAnswered state ps rs old mid → AreAnswered state qs ss mid new → AreAnswered state (ps ++ qs) (rs ++ ss) old new
answered_on state ps qs rs ss old mid new first more =
    let behind = subst (λ (o : Office). Answered state (queries_of o qs) ss mid new) first.office more.steps in
    answered_so state (ps ++ qs) (rs ++ ss) old new
    (subst (λ (queries : List Query). Answered state queries (rs ++ ss) old new) (sym (map-append (request_of (state old).office.society) ps qs))
    (answered_append state (queries_of (state old).office ps) (queries_of (state old).office qs) rs ss old mid new first.steps behind))

-- behind some requests one more was answered
pub one_answered_on : {S : Type 0} (state : S → State) (parts : List Part) (replies : List Reply) (old mid new : S) (part : Part) (reply : Reply)
    → AreAnswered state parts replies old mid → Steps state mid new part reply → AreAnswered state (parts ++ part ∷ []) (replies ++ reply ∷ []) old new
one_answered_on state parts replies old mid new part reply first step =
    answered_on state parts (part ∷ []) replies (reply ∷ []) old mid new first (answered_so state (part ∷ []) (reply ∷ []) mid new (new, step, refl))

-- ---- the store in between

-- the store between the first requests and those behind them
record Between {S : Type 0} (state : S → State) (queries more : List Query) (replies : List Reply) (desk new_desk : S) : Type 0 where
  middle : S
  first : List Reply
  later : List Reply
  whole : replies ≡ first ++ later
  before : Answered state queries first desk middle
  after : Answered state more later middle new_desk

parted : {S : Type 0} (state : S → State) (queries more : List Query) (replies : List Reply) (desk new_desk : S) → Answered state (queries ++ more) replies desk new_desk
    → Between state queries more replies desk new_desk
parted state [] more replies desk new_desk answered = record { middle = desk; first = []; later = replies; whole = refl; before = refl; after = answered }
parted state (q ∷ qs) more (r ∷ replies) desk new_desk answered =
    let b = parted state qs more replies answered.0 new_desk answered.2 in
    record {
      middle = b.middle;
      first = r ∷ b.first;
      later = b.later;
      whole = ap (λ (v : List Reply). r ∷ v) b.whole;
      before = (answered.0, answered.1, b.before);
      after = b.after;
    }
parted state (q ∷ qs) more [] desk new_desk answered = absurd answered

pub answered_through : {S : Type 0} (state : S → State) → ((desk : S) → IsState (state desk)) → (queries more : List Query) (replies : List Reply) (desk new_desk : S)
    → Answered state (queries ++ more) replies desk new_desk → AnsweredThrough state queries more replies desk new_desk
answered_through state laws queries more replies desk new_desk answered =
    let b = parted state queries more replies desk new_desk answered in
    let kept = λ (clean : IsTrue (state b.middle).is_clean).
    answered_keeps state more b.later b.middle new_desk (IsIn (state b.middle).book) b.after (keeps_own (state b.middle) (laws b.middle) clean) in
    record {
      middle = b.middle;
      first = b.first;
      later = b.later;
      whole = b.whole;
      before = b.before;
      after = b.after;
      run = answered_run state queries b.first desk b.middle b.before;
      came = λ clean. holds_what_came _ _ queries b.first _ (answered_run state queries b.first desk b.middle b.before clean);
      stays = λ clean still. (kept clean).there still;
      left = λ clean honest. (kept clean).left honest;
    }
