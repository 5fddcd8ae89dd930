-- What is refused over a medium that fails is a question and an addition as any store's.
use Rattle.std.proofs.Common.{Bool, Err, IsTrue, Result, false, inl, inr, refl, subst, sym, ◌≡◌, ◌∙◌}
use Rattle.std.proofs.lemmas.Bool.{false≢true}
use Rattle.society_core.specs.Book.{Book}
use Rattle.society_core.specs.State.{Addition, Goes, Question, State}
use Rattle.society_core.specs.declared.store.StoreFault.{StoreFault}
use Rattle.society_core.specs.declared.store.StoreFault.TheVariants.{Refused}
use Rattle.test_store.specs.Failing.{MediumFails}

never : {X : Type 0} (b : Bool) → b ≡ false → IsTrue b → X
never b is is_true = absurd (false≢true (sym is ∙ is_true))

goes_on : (old new : State) (Commits : Book → Type 0) → MediumFails old new → Goes old new Commits
goes_on old new Commits fails = record {
  office = fails.office;
  clean = never new.is_clean fails.unclean;
  honest = λ honest. subst IsTrue fails.honest honest;
  failures = fails.failures;
  faults = fails.faults;
  stays = λ _ _. inr fails.failed;
  crash = λ _ book left. inl (fails.left book left);
}

pub question_refused : {T : Type 0} (old new : State) (result : Result T StoreFault) (IsAnswer : T → Type 0) → MediumFails old new → result ≡ Err Refused → Question old new result IsAnswer
question_refused old new result IsAnswer fails refused = rw refused record {
  answer = never new.is_clean fails.unclean;
  truth = λ _. tt;
  answered = λ _. tt;
  asks = record { goes = goes_on old new (λ _. ⊥) fails; same = never new.is_clean fails.unclean };
  cause = fails.refused;
  refuses = λ _. refl;
}

pub addition_refused : {T : Type 0} (old new : State) (next : Book) (result : Result T StoreFault) (IsAnswer : T → Type 0) → MediumFails old new → result ≡ Err Refused → Addition old new next result IsAnswer
addition_refused old new next result IsAnswer fails refused = rw refused record {
  added = never new.is_clean fails.unclean;
  lasting = λ _. tt;
  answer = never new.is_clean fails.unclean;
  unchanged = never new.is_clean fails.unclean;
  goes = goes_on old new (λ book. book ≡ next) fails;
  cause = fails.refused;
  refuses = λ _. refl;
}
