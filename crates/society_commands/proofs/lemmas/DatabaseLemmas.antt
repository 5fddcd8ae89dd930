-- What a store shows that is opened over a database.
use Rattle.std.proofs.Common.{◌≡◌, ◌⊎◌, ◌&&◌, ℕ, IsTrue, Result, Ok, Err, ap, inl, inr, false, refl, subst, true}
use Rattle.std.specs.Prelude.{IfErr, IfOk, IsErrAnd, MatchResult}
use Rattle.std.proofs.lemmas.Bool.{false≢true}
use Rattle.share_rules.specs.declared.office.Office.{Office}
use Rattle.sqlite.specs.Effect.{Database}
use Rattle.sqlite.specs.State as connection
use Rattle.sqlite_trees.specs.Tree.{Trees}
use Rattle.society_core.specs.Book.{empty_book}
use Rattle.society_rows.specs.Effects.{MayFail}
use Rattle.society_rows.specs.NewBook.{IsBare}
use Rattle.society_rows.specs.Stored.{HasLayout}
use Rattle.society_book.proofs.lemmas.shown.AskLemmas.{clean_is, first_true, second_true, still_open}
use Rattle.society_book.specs.BookRows.{book_of}
use Rattle.society_book.specs.Kept.{tables_state}
use Rattle.society_rows.specs.Layouts.{HasOlder}
use Rattle.society_rows.specs.declared.older.OlderLayout.{OlderLayout}
use Rattle.society_opening.proofs.lemmas.opened.OpenTold.{older_apart, older_once}
use Rattle.society_opening.specs.Existing.{FindsNewest, FindsOffice, SurvivesTaking, WhenOpen}
use Rattle.society_opening.specs.Older.{HoldsOne, IsTakenOver}
use Rattle.society_opening.specs.Opening.{HasAnyLayout, IsOpenable, ShowsAs, SurvivesOpening, TellsDatabase}
use Rattle.society_opening.specs.declared.open_fault.OpenFault.{OpenFault}
use Rattle.society_opening.specs.declared.open_fault.OpenFault.TheVariants.{Empty, Store}
use Rattle.society_commands.specs.Connections.{IsNotOpened, IsOver, IsTakenBook}

-- what older tables were taken over into is the book that is shown
taken_book : {office : Office} {layout : OlderLayout} {old : Database} {s : connection.State} → IsTakenOver office layout old s → IsTakenBook office layout old.trees (book_of s.now.trees)
taken_book {s = s} taken = (s.now.trees, taken.takes, refl)

-- tables that were opened are those of the office, over what the connection was found with
is_over : {Commits : Trees → Type 0} (office held : Office) (found begun : connection.State) (failures : ℕ) → connection.Survives found begun Commits → held ≡ office → failures ≡ 0
    → (connection.HasCleanDisk begun → IsTrue found.is_open → IsOpenable found.committed)
    → (connection.HasCleanDisk begun → IsTrue found.is_open → IsBare found.committed → book_of begun.now.trees ≡ empty_book)
    → (connection.HasCleanDisk begun → IsTrue found.is_open → HasLayout found.committed → HoldsOne office found.committed.trees × ShowsAs found.committed begun)
    → (connection.HasCleanDisk begun → IsTrue found.is_open → (layout : OlderLayout) → HasOlder layout found.committed → IsTakenOver office layout found.committed begun)
    → IsOver office false found (tables_state held begun failures)
is_over office held found begun failures survives same none known bare kept taken = record {
  office_is = same;
  uncounted = none;
  faults = survives.counts;
  clean = still_open found begun survives;
  there = λ existing opened clean. absurd (false≢true existing);
  known = λ opened clean. known (clean_is begun.is_clean (first_true begun.is_clean begun.is_open clean)) opened;
  bare = λ opened clean. bare (clean_is begun.is_clean (first_true begun.is_clean begun.is_open clean)) opened;
  kept = λ opened clean layout.
      let both = kept (clean_is begun.is_clean (first_true begun.is_clean begun.is_open clean)) opened layout in
      (both.0, ap (λ db. book_of db.trees) (both.1 (second_true begun.is_clean begun.is_open clean)).0);
  taken = λ opened clean layout was. taken_book (taken (clean_is begun.is_clean (first_true begun.is_clean begun.is_open clean)) opened layout was);
}

-- and tables that were there already
is_over_there : {Commits : Trees → Type 0} (office held : Office) (found begun : connection.State) (failures : ℕ) → connection.Survives found begun Commits → held ≡ office → failures ≡ 0
    → (IsTrue found.is_open → IsBare found.committed → ⊥)
    → FindsOffice office found begun
    → IsOver office true found (tables_state held begun failures)
is_over_there office held found begun failures survives same none empty finds = record {
  office_is = same;
  uncounted = none;
  faults = survives.counts;
  clean = still_open found begun survives;
  there = λ existing opened clean. any_layout (finds (tells clean) opened);
  known = λ opened clean. inr (any_layout (finds (tells clean) opened));
  bare = λ opened clean none. absurd (empty opened none);
  kept = λ opened clean layout. elim (finds (tells clean) opened) [
    | inl newest ↦ (newest.1, ap (λ db. book_of db.trees) (newest.2 (second_true begun.is_clean begun.is_open clean)).0)
    | inr older ↦ absurd (older_apart older.0 found.committed older.1 layout)
  ];
  taken = λ opened clean layout was. elim (finds (tells clean) opened) [
    | inl newest ↦ absurd (older_apart layout found.committed was newest.0)
    | inr older ↦ subst (λ (l : OlderLayout). IsTakenBook office l found.committed.trees (book_of begun.now.trees)) (older_once older.0 layout found.committed older.1 was) (taken_book older.2)
  ];
}
  where
    tells : IsTrue (begun.is_clean && begun.is_open) → connection.HasCleanDisk begun
    tells clean = clean_is begun.is_clean (first_true begun.is_clean begun.is_open clean)

    any_layout : FindsNewest office found begun ⊎ ((layout : OlderLayout) × HasOlder layout found.committed × IsTakenOver office layout found.committed begun) → HasAnyLayout found.committed
    any_layout (inl newest) = inl newest.0
    any_layout (inr older) = inr (older.0, older.1)

-- what leaves nothing new leaves what an opening may
pub crash_there : (office : Office) (found left : connection.State) → connection.Survives found left (λ db. ⊥) → SurvivesTaking office found left
crash_there office found left s = record {
  clean = s.clean;
  shield = s.shield;
  counts = s.counts;
  limit = s.limit;
  closes = s.closes;
  crash = λ clean db may. elim (s.crash clean db may) [ inl before ↦ inl before | inr never ↦ absurd never ];
}

module _ {T C : Type 0} (office : Office) (found : connection.State) (held : T → Office) (shown : T → connection.State) (failures : T → ℕ) (left : C → connection.State) where
  -- what was opened, where a book may begin
  pub over_any : (r : Result T (OpenFault × C)) → IfOk r (λ t. held t ≡ office) → IfOk r (λ t. failures t ≡ 0)
      → IfOk r (λ t. connection.HasCleanDisk (shown t) → IsTrue found.is_open → IsOpenable found.committed)
      → IfOk r (λ t. connection.HasCleanDisk (shown t) → IsTrue found.is_open → IsBare found.committed → book_of (shown t).now.trees ≡ empty_book)
      → IfOk r (λ t. connection.HasCleanDisk (shown t) → IsTrue found.is_open → HasLayout found.committed → HoldsOne office found.committed.trees × ShowsAs found.committed (shown t))
      → IfOk r (λ t. connection.HasCleanDisk (shown t) → IsTrue found.is_open → (layout : OlderLayout) → HasOlder layout found.committed → IsTakenOver office layout found.committed (shown t))
      → MatchResult r (λ t. SurvivesOpening office found (shown t)) (λ e. SurvivesOpening office found (left e.1))
      → IfOk r (λ t. IsOver office false found (tables_state (held t) (shown t) (failures t)))
  over_any (Ok t) same none known bare kept taken crash = is_over office (held t) found (shown t) (failures t) crash same none known bare kept taken
  over_any (Err e) same none known bare kept taken crash = tt

  -- and where none may
  pub over_existing : (P : OpenFault × C → Type 0) (r : Result T (OpenFault × C)) → IfOk r (λ t. held t ≡ office) → IfOk r (λ t. failures t ≡ 0)
      → (IsTrue found.is_open → IsBare found.committed → IsErrAnd r P)
      → IfOk r (λ t. FindsOffice office found (shown t))
      → MatchResult r (λ t. SurvivesTaking office found (shown t)) (λ e. SurvivesTaking office found (left e.1))
      → IfOk r (λ t. IsOver office true found (tables_state (held t) (shown t) (failures t)))
  over_existing P (Ok t) same zero empty kept crash = is_over_there office (held t) found (shown t) (failures t) crash same zero (λ opened none. empty opened none) kept
  over_existing P (Err e) same zero empty kept crash = tt

  -- what was not opened, where a book may begin
  pub not_any : (r : Result T (OpenFault × C)) → IfErr r (λ e. connection.HasCleanDisk (left e.1) → IsTrue found.is_open → TellsDatabase office found.committed e.0)
      → IfErr r (λ e. WhenOpen found (left e.1) (e.0 ≡ Store → MayFail found (left e.1)))
      → IfErr r (λ e. connection.HasCleanDisk (left e.1) → ShowsAs found.committed (left e.1))
      → MatchResult r (λ t. SurvivesOpening office found (shown t)) (λ e. SurvivesOpening office found (left e.1))
      → IfErr r (λ e. IsNotOpened office false e.0 found (left e.1))
  not_any (Ok t) told failed unchanged crash = tt
  not_any (Err e) told failed unchanged crash = record { told = told; empty = λ existing. absurd (false≢true existing); failed = failed; unchanged = unchanged; crash = crash }

  -- and where none may
  pub not_existing : (X : OpenFault × C → Type 0) (r : Result T (OpenFault × C)) → IfErr r (λ e. connection.HasCleanDisk (left e.1) → IsTrue found.is_open → TellsDatabase office found.committed e.0)
      → (IsTrue found.is_open → IsBare found.committed → IsErrAnd r (λ e. (e.0 ≡ Empty) × X e))
      → IfErr r (λ e. WhenOpen found (left e.1) (e.0 ≡ Store → MayFail found (left e.1)))
      → IfErr r (λ e. connection.HasCleanDisk (left e.1) → ShowsAs found.committed (left e.1))
      → MatchResult r (λ t. SurvivesTaking office found (shown t)) (λ e. SurvivesTaking office found (left e.1))
      → IfErr r (λ e. IsNotOpened office true e.0 found (left e.1))
  not_existing X (Ok t) told empty failed unchanged crash = tt
  not_existing X (Err e) told empty failed unchanged crash = record { told = told; empty = λ existing opened none. (empty opened none).0; failed = failed; unchanged = unchanged; crash = crash }
