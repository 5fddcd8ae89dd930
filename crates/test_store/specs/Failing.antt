-- What a store shows of itself whose medium fails at every call, and what a call of it does.
use Rattle.std.specs.Prelude.{ℕ, Bool, ◌≡◌, ◌≤◌, false, true}
use Rattle.share_rules.specs.declared.office.Office.{Office}
use Rattle.society_core.specs.Book.{Book, empty_book}
use Rattle.society_core.specs.State.{HasFailed, Rises, State}

-- an empty book, what it refused, what its medium counted, and whether that still works; a crash leaves the empty book
abbrev pub failing_state : Office → ℕ → ℕ → Bool → State
failing_state office refusals faults is_clean = record {
  office = office;
  book = empty_book;
  failures = refusals;
  faults = faults;
  is_clean = is_clean;
  is_honest = true;
  left = λ book. book ≡ empty_book;
}

-- a call over a medium that fails: it is counted by both, nothing else changes, and the store is not clean any more
pub record MediumFails (old new : State) : Type 0 where
  pub office : new.office ≡ old.office
  pub unclean : new.is_clean ≡ false
  pub honest : new.is_honest ≡ old.is_honest
  pub refused : Rises old.failures new.failures
  pub failures : old.failures ≤ new.failures
  pub failed : HasFailed old.faults new.faults
  pub faults : old.faults ≤ new.faults
  pub left : (book : Book) → new.left book → old.left book
