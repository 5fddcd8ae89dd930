-- What a store shows of itself: whose it is, its book, and what a crash may leave.
use Rattle.std.specs.Prelude.{ℕ, ◌≡◌, ◌≤◌, ◌<◌, ◌+◌, ◌-◌, ◌^◌, ◌⊎◌, min, Bool, IsTrue, Result, Err, IfErr, IfOk, OnErr, OnOk}
use Rattle.share_rules.specs.declared.office.Office.{Office}
use Rattle.society_core.specs.Book.{Book, IsSound}
use Rattle.society_core.specs.declared.store.StoreFault.{StoreFault}
use Rattle.society_core.specs.declared.store.StoreFault.TheVariants.{Memory, Refused}

-- a store: its office and book, how often it refused, how often its medium failed or refused by the medium's own count, whether the
-- medium still works and has told the truth, and the books that a crash may leave; contents that stand for no book leave every book, so
-- none of them goes unseen
pub record State : Type 1 where
  pub office : Office
  pub book : Book
  pub failures : ℕ
  pub faults : ℕ
  pub is_clean : Bool
  pub is_honest : Bool
  pub left : Book → Type 0

-- what holds of every store: a clean one is honest, a crash at rest leaves its book, and its book is sound
pub record IsState (s : State) : Type 0 where
  pub honest : IsTrue s.is_clean → IsTrue s.is_honest
  pub at_rest : IsTrue s.is_clean → (book : Book) → s.left book → book ≡ s.book
  pub sound : IsTrue s.is_clean → IsSound s.book

-- a medium failed or refused between two counts of its faults: the count rose, or it stands at the greatest number of 64 bits
abbrev pub HasFailed : ℕ → ℕ → Type 0
HasFailed old new = min (old + 1) (2 ^ 64 - 1) ≤ new

-- a clean store stays clean, unless its medium failed or did not tell the truth
abbrev pub StaysClean : State → State → Type 0
StaysClean old new = IsTrue new.is_honest → IsTrue old.is_clean → IsTrue new.is_clean ⊎ HasFailed old.faults new.faults

-- a call keeps the office; clean and honest only fall, and clean only by a failure; both counts only rise, and a crash may leave what it
-- could before or what the call commits
pub record Goes (old new : State) (Commits : Book → Type 0) : Type 0 where
  pub office : new.office ≡ old.office
  pub clean : IsTrue new.is_clean → IsTrue old.is_clean
  pub honest : IsTrue new.is_honest → IsTrue old.is_honest
  pub failures : old.failures ≤ new.failures
  pub faults : old.faults ≤ new.faults
  pub stays : StaysClean old new
  pub crash : IsTrue new.is_honest → (book : Book) → new.left book → old.left book ⊎ (IsTrue old.is_clean × Commits book)

-- a question changes nothing
pub record ChangesNothing (old new : State) : Type 0 where
  pub goes : Goes old new (λ _. ⊥)
  pub same : IsTrue new.is_clean → new.book ≡ old.book

-- a count of failures rose, or stood at the greatest number of 64 bits and stays there
abbrev pub Rises : ℕ → ℕ → Type 0
Rises old new = (old < new) ⊎ ((old ≡ 2 ^ 64 - 1) × (new ≡ old))

-- a store refuses only where its medium failed in that call
abbrev pub HasCause : State → State → StoreFault → Type 0
HasCause old new Memory = Unit {0}
HasCause old new Refused = Rises old.failures new.failures

-- What every question promises: an answer by the office and the book, and where the medium told the truth none but by a store that was
-- clean; nothing changed, a cause for a refusal, and refusal once the count of failures is at its greatest.
pub record Question {T : Type 0} (old new : State) (result : Result T StoreFault) (IsAnswer : T → Type 0) : Type 0 where
  pub answer : IsTrue new.is_clean → IfOk result IsAnswer
  pub truth : IsTrue new.is_honest → IfOk result IsAnswer
  pub answered : IsTrue new.is_honest → OnOk result (IsTrue old.is_clean)
  pub asks : ChangesNothing old new
  pub cause : IfErr result (HasCause old new)
  pub refuses : old.failures ≡ 2 ^ 64 - 1 → result ≡ Err Refused

-- What every addition promises: the next book where it was added and the old one where it was not, at most the next one left by a crash;
-- where the medium told the truth the store is clean behind what it added, so that a crash leaves that; and the rest as a question.
pub record Addition {T : Type 0} (old new : State) (next : Book) (result : Result T StoreFault) (IsAnswer : T → Type 0) : Type 0 where
  pub added : IsTrue new.is_clean → OnOk result (new.book ≡ next)
  pub lasting : IsTrue new.is_honest → OnOk result (IsTrue new.is_clean)
  pub answer : IsTrue new.is_clean → IfOk result IsAnswer
  pub unchanged : IsTrue new.is_clean → OnErr result (new.book ≡ old.book)
  pub goes : Goes old new (λ book. book ≡ next)
  pub cause : IfErr result (HasCause old new)
  pub refuses : old.failures ≡ 2 ^ 64 - 1 → result ≡ Err Refused
