-- A question on a connection is a question on the store over it.
use Rattle.std.proofs.Common.{◌≡◌, ◌≤◌, ◌⊎◌, inl, inr, ℕ, Bool, true, false, ◌&&◌, IsTrue, ⊎_elim, refl, ap, subst, sym, ◌∙◌, arith}
use Rattle.std.proofs.lemmas.Bool.{false≢true}
use Rattle.share_rules.specs.declared.office.Office.{Office}
use Rattle.society_core.specs.Book.{Book}
use Rattle.society_core.specs.State.{ChangesNothing, Goes, HasFailed}
use Rattle.society_book.specs.BookRows.{book_of}
use Rattle.society_book.specs.Kept.{AsksOf, HoldsOwnBook, IsOfficeBook, LeftBy, Rests, tables_state}
use Rattle.sqlite.specs.State.{State, Survives}
use Rattle.sqlite.specs.Effect.{Database}
use Rattle.sqlite_trees.specs.Tree.{Trees}
use Rattle.sqlite_trees.specs.View.{doubt}

-- a clean disk, in numbers and as a truth
pub clean_is : (b : Bool) → IsTrue b → doubt b ≡ 0
unfolding doubt
clean_is true h = refl
clean_is false h = absurd (false≢true h)

pub is_clean : (b : Bool) → doubt b ≡ 0 → IsTrue b
unfolding doubt
is_clean true h = refl
is_clean false h = absurd (omega (h, arith))

-- a disk that is clean was so
pub was_clean : (a b : Bool) → doubt a ≤ doubt b → IsTrue b → IsTrue a
was_clean a b fell h =
    let now : doubt b ≡ 0 = clean_is b h in
    is_clean a (omega arith)

pub both_true : (a b : Bool) → IsTrue a → IsTrue b → IsTrue (a && b)
both_true true b h k = k
both_true false b h k = h

pub first_true : (a b : Bool) → IsTrue (a && b) → IsTrue a
first_true true b h = refl
first_true false b h = h

pub second_true : (a b : Bool) → IsTrue (a && b) → IsTrue b
second_true true b h = h
second_true false b h = absurd (false≢true h)

-- only a fault of its disk shuts a connection, where the disk told the truth
pub still_open : {Commits : Trees → Type 0} (old new : State) → Survives old new Commits → IsTrue new.is_clean → IsTrue old.is_open → IsTrue (new.is_clean && new.is_open) ⊎ HasFailed old.faults new.faults
still_open old new survives honest opened =
    ⊎_elim (λ (still : IsTrue new.is_open). inl (both_true new.is_clean new.is_open honest still)) (λ (failed : HasFailed old.faults new.faults). inr failed)
    (survives.closes (clean_is new.is_clean honest) opened)

-- what a crash may leave of the connection is left of the store
pub left_still : (o : Office) (old new : State) (Commits : Trees → Type 0) (Next : Book → Type 0) → Survives old new Commits → ((db : Trees) → Commits db → (book : Book) → (HoldsOwnBook o db → book ≡ book_of db) → Next book) → IsTrue new.is_clean → (book : Book) → LeftBy o new book → LeftBy o old book ⊎ Next book
left_still o old new Commits Next survives shows clean book left =
    ⊎_elim (λ (before : old.may_leave left.0). inl (left.0, before, left.2)) (λ (commits : Commits left.0). inr (shows left.0 commits book left.2)) (survives.crash (clean_is new.is_clean clean) left.0 left.1)

module _ (o : Office) (old new : State) (asks_of : AsksOf old new) where
  -- an open connection over a clean disk was one before
  pub clean_before : IsTrue (new.is_clean && new.is_open) → IsTrue (old.is_clean && old.is_open)
  clean_before h =
      both_true old.is_clean old.is_open (was_clean old.is_clean new.is_clean asks_of.survives.clean (first_true new.is_clean new.is_open h))
      (asks_of.was_open (clean_is new.is_clean (first_true new.is_clean new.is_open h)) (second_true new.is_clean new.is_open h))

  shows : IsTrue (new.is_clean && new.is_open) → (new.now ≡ old.committed) × (new.committed ≡ old.committed)
  shows h = asks_of.undone (clean_is new.is_clean (first_true new.is_clean new.is_open h)) (second_true new.is_clean new.is_open h)

  -- it shows what it showed
  pub same_now : Rests o old → IsTrue (new.is_clean && new.is_open) → new.now ≡ old.now
  same_now rests h = (shows h).0 ∙ sym (rests (clean_before h)).same

  -- a store at rest rests on
  pub rests_on : Rests o old → Rests o new
  rests_on rests h = record {
    same = (shows h).0 ∙ sym (shows h).1;
    kept = subst (λ (db : Database). IsOfficeBook o db) (sym (same_now rests h)) (rests (clean_before h)).kept;
  }

  -- what every question of a store promises of it
  pub goes : (f g : ℕ) → f ≤ g → Goes (tables_state o old f) (tables_state o new g) (λ _. ⊥)
  goes f g more = record {
    office = refl;
    clean = clean_before;
    honest = was_clean old.is_clean new.is_clean asks_of.survives.clean;
    failures = more;
    faults = asks_of.survives.counts;
    stays = λ honest clean. still_open old new asks_of.survives honest (second_true old.is_clean old.is_open clean);
    crash = λ clean book left. ⊎_elim (λ (before : LeftBy o old book). inl before) (λ (never : ⊥). absurd never) (left_still o old new (λ _. ⊥) (λ _. ⊥) asks_of.survives (λ db never book holds. never) clean book left);
  }

  pub asks : (f g : ℕ) → f ≤ g → Rests o old → ChangesNothing (tables_state o old f) (tables_state o new g)
  asks f g more rests = record { goes = goes f g more; same = λ clean. ap (λ (db : Database). book_of db.trees) (same_now rests clean) }
