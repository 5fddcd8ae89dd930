-- What a store tells over a medium that told the truth, behind questions and behind an addition.
use Rattle.std.proofs.Common.{◌≡◌, ◌⊎◌, ◌∙◌, IsTrue, Ok, ⊎_elim, arith, inl, inr, sym}
use Rattle.society_core.specs.Answers.{answer, next}
use Rattle.society_core.specs.Book.{Book}
use Rattle.society_core.specs.Requests.{Inquires, Query, Refused, Reply}
use Rattle.society_core.specs.Runs.{LooksUp, Proceeds}
use Rattle.society_core.specs.State.{Addition, ChangesNothing, Goes, IsState, State}
use Rattle.society_core.specs.declared.inquiry.Inquiry.{Inquiry}
use Rattle.society_core.specs.declared.refusal.Refusal.TheVariants.{Unavailable}
use Rattle.society_core.proofs.lemmas.CleanStores.{stays_through}

-- a call that changes nothing goes on whatever it might commit
pub goes_still : (old new : State) (Commits : Book → Type 0) → ChangesNothing old new → Goes old new Commits
goes_still old new Commits asks = record {
  office = asks.goes.office;
  clean = asks.goes.clean;
  honest = asks.goes.honest;
  failures = asks.goes.failures;
  faults = asks.goes.faults;
  stays = asks.goes.stays;
  crash = λ honest book left. ⊎_elim (λ (before : old.left book). inl before) (λ (none : IsTrue old.is_clean × ⊥). absurd none.1) (asks.goes.crash honest book left);
}

-- questions one after another change nothing
pub asks_on : (a b c : State) → ChangesNothing a b → ChangesNothing b c → ChangesNothing a c
asks_on a b c first later = record {
  goes = record {
    office = later.goes.office ∙ first.goes.office;
    clean = λ clean. first.goes.clean (later.goes.clean clean);
    honest = λ honest. first.goes.honest (later.goes.honest honest);
    failures = omega (arith, first.goes.failures, later.goes.failures);
    faults = omega (arith, first.goes.faults, later.goes.faults);
    stays = stays_through a b c first.goes.stays later.goes.stays later.goes.honest first.goes.faults later.goes.faults;
    crash = λ honest book left.
        ⊎_elim (λ (before : b.left book). first.goes.crash (later.goes.honest honest) book before) (λ (none : IsTrue b.is_clean × ⊥). absurd none.1)
        (later.goes.crash honest book left);
  };
  same = λ clean. later.same clean ∙ first.same (later.goes.clean clean);
}

module _ (old new : State) (was : IsState old) (is : IsState new) where
  -- behind a question a crash leaves what a store that was clean showed
  left_still : ChangesNothing old new → IsTrue new.is_honest → IsTrue old.is_clean → (book : Book) → new.left book → book ≡ old.book
  left_still asks honest clean book left =
      ⊎_elim (λ (before : old.left book). was.at_rest clean book before) (λ (none : IsTrue old.is_clean × ⊥). absurd none.1) (asks.goes.crash honest book left)

  module _ (asks : ChangesNothing old new) (clean : IsTrue new.is_honest → IsTrue old.is_clean) where
    -- a request by which nothing goes on
    pub told_known : (query : Query) (reply : Reply) → (IsTrue new.is_honest → (reply ≡ answer old.office old.book query) × (next old.book query ≡ old.book)) → Proceeds old new query reply
    told_known query reply fact = record {
      step = λ still. let says = fact (is.honest still) in inl (says.0, asks.same still ∙ sym says.1);
      goes = goes_still old new (λ book. book ≡ next old.book query) asks;
      told = λ _ honest.
          let says = fact honest in
          inr (record { clean = clean honest; says = says.0; lasts = λ book left. left_still asks honest (clean honest) book left ∙ sym says.1 });
    }

    -- the same, or the office is unavailable
    pub told_or_busy : (query : Query) (reply : Reply) → (IsTrue new.is_honest → (reply ≡ Refused Unavailable) ⊎ ((reply ≡ answer old.office old.book query) × (next old.book query ≡ old.book))) → Proceeds old new query reply
    told_or_busy query reply fact = record {
      step = λ still. elim (fact (is.honest still)) [ inl busy ↦ inr (busy, asks.same still) | inr says ↦ inl (says.0, asks.same still ∙ sym says.1) ];
      goes = goes_still old new (λ book. book ≡ next old.book query) asks;
      told = λ _ honest.
          elim (fact honest) [
            | inl busy ↦ inl busy
            | inr says ↦ inr (record { clean = clean honest; says = says.0; lasts = λ book left. left_still asks honest (clean honest) book left ∙ sym says.1 })
          ];
    }

    -- a question
    pub told_shown : (inquiry : Inquiry) (reply : Reply) → (IsTrue new.is_honest → reply ≡ answer old.office old.book (Inquires inquiry)) → LooksUp old new inquiry reply
    told_shown inquiry reply fact = record {
      step = λ still. inl (fact (is.honest still), asks.same still);
      asks = asks;
      told = λ honest. inr (record { clean = clean honest; says = fact honest; lasts = λ book left. left_still asks honest (clean honest) book left });
    }

-- an addition behind questions
module _ (old mid new : State) (was : IsState old) (is : IsState new) (asks : ChangesNothing old mid) where
  module _ (query : Query) {T : Type 0} (next_mid : Book) (IsAnswer : T → Type 0) (x : T) (adds : Addition {T = T} mid new next_mid (Ok x) IsAnswer) (same : IsTrue mid.is_clean → next_mid ≡ next old.book query) where
    goes_on : Goes old new (λ book. book ≡ next old.book query)
    goes_on = record {
      office = adds.goes.office ∙ asks.goes.office;
      clean = λ clean. asks.goes.clean (adds.goes.clean clean);
      honest = λ honest. asks.goes.honest (adds.goes.honest honest);
      failures = omega (arith, asks.goes.failures, adds.goes.failures);
      faults = omega (arith, asks.goes.faults, adds.goes.faults);
      stays = stays_through old mid new asks.goes.stays adds.goes.stays adds.goes.honest asks.goes.faults adds.goes.faults;
      crash = λ honest book left.
          ⊎_elim
          (λ (before : mid.left book).
          ⊎_elim (λ (first : old.left book). inl first) (λ (none : IsTrue old.is_clean × ⊥). absurd none.1) (asks.goes.crash (adds.goes.honest honest) book before))
          (λ (commits : IsTrue mid.is_clean × (book ≡ next_mid)). inr (asks.goes.clean commits.0, commits.1 ∙ same commits.0))
          (adds.goes.crash honest book left);
    }

    pub told_added : (reply : Reply) → (IsTrue mid.is_clean → IsAnswer x → reply ≡ answer old.office old.book query) → Proceeds old new query reply
    told_added reply fact = record {
      step = λ clean. inl (fact (adds.goes.clean clean) (adds.answer clean), adds.added clean ∙ same (adds.goes.clean clean));
      goes = goes_on;
      told = λ _ honest.
          let clean = adds.lasting honest in
          inr (record {
            clean = asks.goes.clean (adds.goes.clean clean);
            says = fact (adds.goes.clean clean) (adds.answer clean);
            lasts = λ book left. is.at_rest clean book left ∙ adds.added clean ∙ same (adds.goes.clean clean);
          });
    }
