-- Representation, not meaning: what a store in memory, which keeps the maps of the book alone, shows of itself.
use Rattle.std.specs.Prelude.{Result, true}
use Rattle.share_rules.specs.declared.office.Office.{Office}
use Rattle.society_core.specs.Book.{Book}
use Rattle.society_core.specs.State.{Question, State}
use Rattle.society_core.specs.declared.store.StoreFault.{StoreFault}

-- a store in memory never fails, and a crash leaves nothing of it
abbrev pub plain_state : Office → Book → State
plain_state office book = record {
  office = office;
  book = book;
  failures = 0;
  faults = 0;
  is_clean = true;
  is_honest = true;
  left = λ _. ⊥;
}

-- a question of a store in memory, answered by what it shows
abbrev pub AsksPlain : {T : Type 0} → Office → Book → Office → Book → Result T StoreFault → (State → T → Type 0) → Type 0
AsksPlain office book new_office new_book result IsAnswer =
    Question (plain_state office book) (plain_state new_office new_book) result (IsAnswer (plain_state office book))
