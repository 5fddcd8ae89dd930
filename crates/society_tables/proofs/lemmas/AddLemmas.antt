-- What every addition of a store promises, by what became of its connection.
use Rattle.std.proofs.Common.{◌≡◌, ⊎_elim, ◌<◌, ◌-◌, ◌^◌, ◌⊎◌, inl, inr, ℕ, ◌&&◌, IsTrue, Result, Ok, Err, IfOk, OnOk, OnErr, refl, ap, subst, sym, ◌∙◌, arith}
use Rattle.std.specs.Bool.{⊤}
use Rattle.std.specs.Coded.{Coded-set}
use Rattle.std.proofs.Math.Logic.{∥∥₁_elim}
use Rattle.share_rules.specs.declared.office.Office.{Office}
use Rattle.society_core.specs.Book.{Book}
use Rattle.society_core.specs.State.{Addition}
use Rattle.society_core.specs.declared.store.StoreFault.{StoreFault}
use Rattle.society_rows.specs.declared.fault.RowFault.{RowFault}
use Rattle.society_rows.specs.Stored.{HasLayout}
use Rattle.society_book.specs.BookRows.{book_of}
use Rattle.society_tables.specs.Faults.{Told}
use Rattle.society_book.specs.Kept.{HoldsOwnBook, HoldsBook, IsAtRest, IsOfficeBook, LeftBy, Rests, tables_state}
use Rattle.society_book.specs.Shown.{AddsAlone}
use Rattle.society_book.proofs.lemmas.shown.AskLemmas.{both_true, clean_is, first_true, second_true, still_open, was_clean}
use Rattle.society_book.proofs.lemmas.rows_alike.BookLemmas.{the_book}
use Rattle.society_tables.proofs.lemmas.StoreQuestions.{IsAlone, coded_book, ok_alone, told_answer, told_cause, told_on, told_open}
use Rattle.sqlite.specs.Effect.{Database}
use Rattle.sqlite.specs.State.{HasCleanDisk, State}
use Rattle.sqlite_trees.specs.Tree.{Trees}

-- tables that hold a book stand for it
pub stands : (o : Office) (b : Book) (db : Trees) → HoldsBook o b db → book_of db ≡ b
stands o b db holds = the_book b db holds.sound holds.kept

-- and hold the book that they stand for
pub holds_own : (o : Office) (b : Book) (db : Trees) → HoldsBook o b db → HoldsOwnBook o db
holds_own o b db holds = subst (λ (x : Book). HoldsBook o x db) (sym (stands o b db holds)) holds

module _ (o : Office) (old new : State) {X : Type 0} (Change : Trees → Trees → Type 0) (Says : Trees → X → Type 0) (next : Book) (answer : Result X RowFault) (adds : AddsAlone Change Says old new answer) (grows : IsTrue (old.is_clean && old.is_open) → HoldsOwnBook o old.now.trees → (db : Trees) → Change old.now.trees db → HoldsBook o next db) where
  clean_then : IsTrue new.is_clean → IsTrue old.is_clean
  clean_then = was_clean old.is_clean new.is_clean adds.survives.clean

  clean_before : IsTrue (new.is_clean && new.is_open) → IsTrue (old.is_clean && old.is_open)
  clean_before h =
      both_true old.is_clean old.is_open (clean_then (first_true new.is_clean new.is_open h))
      (adds.was_open (clean_is new.is_clean (first_true new.is_clean new.is_open h)) (second_true new.is_clean new.is_open h))

  -- once it was added, the tables hold the next book
  holds_next : Rests o old → IsTrue new.is_clean → (x : X) → answer ≡ Ok x → HoldsBook o next new.now.trees × HasLayout new.now × (new.now ≡ new.committed)
  holds_next rests clean x is =
      let on : HasCleanDisk new = clean_is new.is_clean clean in
      let settled = subst (λ r. OnOk r (IsTrue old.is_open × IsTrue new.is_open × (new.now ≡ new.committed))) is (adds.settled on) in
      let at_rest = rests (both_true old.is_clean old.is_open (clean_then clean) settled.0) in
      let changed = subst (λ r. OnOk r (Change old.now.trees new.now.trees × HasLayout new.now)) is (adds.changed on at_rest.kept.layout) in
      (grows (both_true old.is_clean old.is_open (clean_then clean) settled.0) at_rest.kept.holds new.now.trees changed.0, changed.1, settled.2)

  -- once it was refused, they show what they showed
  same_after : Rests o old → IsTrue (new.is_clean && new.is_open) → (e : RowFault) → answer ≡ Err e → (new.now ≡ old.now) × (new.committed ≡ old.committed)
  same_after rests h e is =
      let undone = subst (λ r. OnErr r ((new.now ≡ old.committed) × (new.committed ≡ old.committed))) is (adds.neither (clean_is new.is_clean (first_true new.is_clean new.is_open h)) (second_true new.is_clean new.is_open h)) in
      (undone.0 ∙ sym (rests (clean_before h)).same, undone.1)

  -- the store rests on
  pub rests_after : Rests o old → Rests o new
  rests_after rests h = by_answer answer refl
    where
      by_answer : (r : Result X RowFault) → answer ≡ r → IsAtRest o new
      by_answer (Ok x) is =
          let held = holds_next rests (first_true new.is_clean new.is_open h) x is in
          record { same = held.2; kept = record { layout = held.1; holds = holds_own o next new.now.trees held.0 } }
      by_answer (Err e) is =
          let same = same_after rests h e is in
          record { same = same.0 ∙ (rests (clean_before h)).same ∙ sym same.1; kept = subst (λ (db : Database). IsOfficeBook o db) (sym same.0) (rests (clean_before h)).kept }

  book_after : Rests o old → IsTrue (new.is_clean && new.is_open) → (x : X) → answer ≡ Ok x → book_of new.now.trees ≡ next
  book_after rests h x is = stands o next new.now.trees (holds_next rests (first_true new.is_clean new.is_open h) x is).0

  -- what a crash leaves beside what it left before is the next book
  left_after : ∥ Rests o old ∥₁ → IsTrue new.is_clean → (book : Book) → LeftBy o new book → LeftBy o old book ⊎ (IsTrue (old.is_clean && old.is_open) × (book ≡ next))
  left_after rests clean book left =
      ⊎_elim
      (λ (before : old.may_leave left.0). inl (left.0, before, left.2))
      (λ (commits : IsTrue old.is_open × (HasLayout old.now → Change old.now.trees left.0)).
      let live = both_true old.is_clean old.is_open (clean_then clean) commits.0 in
      inr (
        live,
        ∥∥₁_elim rests (Coded-set coded_book book next) (λ r.
            let held = grows live (r live).kept.holds left.0 (commits.1 (r live).kept.layout) in
            left.2 (holds_own o next left.0 held) ∙ stands o next left.0 held),
      ))
      (adds.survives.crash (clean_is new.is_clean clean) left.0 left.1)

  -- what is told once it was added, where the tables hold the book that they stand for
  said : (IsAnswer : X → Type 0) → (HoldsOwnBook o old.now.trees → (x : X) → Says old.now.trees x → IsAnswer x) → Rests o old → IsTrue (new.is_clean && new.is_open) → IfOk answer IsAnswer
  said IsAnswer tells rests clean =
      let kept = (rests (clean_before clean)).kept in
      weaker answer (adds.says (clean_is new.is_clean (first_true new.is_clean new.is_open clean)) kept.layout)
    where
      weaker : (r : Result X RowFault) → IfOk r (Says old.now.trees) → IfOk r IsAnswer
      weaker (Ok x) h = tells (rests (clean_before clean)).kept.holds x h
      weaker (Err e) h = tt

  pub addition : (IsAnswer : X → Type 0) → ((x : X) → IsAlone (IsAnswer x)) → (IsTrue (old.is_clean && old.is_open) → HoldsOwnBook o old.now.trees → (x : X) → Says old.now.trees x → IsAnswer x) → (f g : ℕ) (result : Result X StoreFault) → ∥ Rests o old ∥₁ → f < 2 ^ 64 - 1 → Told answer result f g → Addition (tables_state o old f) (tables_state o new g) next result IsAnswer
  addition IsAnswer alone tells f g result rests below told = record {
    added = λ clean. added_by answer refl result told clean;
    lasting = λ honest. told_open answer result f g (IsTrue (new.is_clean && new.is_open)) told (stays_open honest answer (adds.settled (clean_is new.is_clean honest)));
    answer = λ clean. told_answer answer result f g IsAnswer told (∥∥₁_elim rests (ok_alone answer IsAnswer alone) (λ r. said IsAnswer (tells (clean_before clean)) r clean));
    unchanged = λ clean. kept_by answer refl result told clean;
    goes = record {
      office = refl;
      clean = clean_before;
      honest = clean_then;
      failures = told_on answer result f g told;
      faults = adds.survives.counts;
      stays = λ honest clean. still_open old new adds.survives honest (second_true old.is_clean old.is_open clean);
      crash = λ clean book left. left_after rests clean book left;
    };
    cause = told_cause o old new answer result f g told;
    refuses = λ full. absurd (let e = full in omega (e, below, arith));
  }
    where
      stays_open : IsTrue new.is_clean → (r : Result X RowFault) → OnOk r (IsTrue old.is_open × IsTrue new.is_open × (new.now ≡ new.committed)) → OnOk r (IsTrue (new.is_clean && new.is_open))
      stays_open honest (Ok x) settled = both_true new.is_clean new.is_open honest settled.1
      stays_open honest (Err e) settled = tt

      added_by : (r : Result X RowFault) → answer ≡ r → (s : Result X StoreFault) → Told r s f g → IsTrue (new.is_clean && new.is_open) → OnOk s (book_of new.now.trees ≡ next)
      added_by (Ok x) is s t clean = subst (λ z. OnOk z (book_of new.now.trees ≡ next)) (sym t.0) (∥∥₁_elim rests (Coded-set coded_book _ _) (λ r. book_after r clean x is))
      added_by (Err e) is s t clean = subst (λ z. OnOk z (book_of new.now.trees ≡ next)) (sym t.0) tt

      kept_by : (r : Result X RowFault) → answer ≡ r → (s : Result X StoreFault) → Told r s f g → IsTrue (new.is_clean && new.is_open) → OnErr s (book_of new.now.trees ≡ book_of old.now.trees)
      kept_by (Ok x) is s t clean = subst (λ z. OnErr z (book_of new.now.trees ≡ book_of old.now.trees)) (sym t.0) tt
      kept_by (Err e) is s t clean =
          subst (λ z. OnErr z (book_of new.now.trees ≡ book_of old.now.trees)) (sym t.0) (∥∥₁_elim rests (Coded-set coded_book _ _) (λ r. ap (λ (db : Database). book_of db.trees) (same_after r clean e is).0))

-- an answer that tells nothing
pub any_told : {X E : Type 0} (r : Result X E) → IfOk r (λ _. ⊤)
any_told (Ok x) = tt
any_told (Err e) = tt

pub one_truth : IsAlone ⊤
one_truth x y = refl
