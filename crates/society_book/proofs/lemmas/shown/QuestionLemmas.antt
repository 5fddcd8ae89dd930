-- What questions of the tables, asked one after another, find.
use Rattle.std.proofs.Common.{◌≡◌, List, Vec, IsTrue, Result, Ok, Err, IfOk, OnOk, subst, sym, arith, ◌∙◌}
use Rattle.share_rules.specs.declared.office.Office.{Office}
use Rattle.society_core.specs.Book.{Book}
use Rattle.society_rows.specs.declared.fault.RowFault.{RowFault}
use Rattle.society_rows.specs.Questions as Rows
use Rattle.sqlite_trees.specs.Tree.{Trees}
use Rattle.society_book.specs.Shown.{ByBook}
use Rattle.society_book.specs.Kept.{HoldsBook}
use Rattle.sqlite.specs.Effect.{Database}
use Rattle.sqlite.specs.State.{HasCleanDisk, State}
use Rattle.sqlite.proofs.StateLemmas.{survives_then}
use Rattle.society_rows.specs.Stored.{HasLayout}
use Rattle.std.specs.declared.alloc.Global.{Global}
use Rattle.sqlite_value.specs.Order.{Row}

-- what follows of every book that the tables hold, of an answer that may be an error
pub by_book : {T : Type 0} (IsAnswer : Office → Book → T → Type 0) (db : Trees) (r : Result T RowFault) → ((o : Office) (b : Book) → HoldsBook o b db → IfOk r (IsAnswer o b)) → IfOk r (ByBook IsAnswer db)
by_book IsAnswer db (Ok x) h = h
by_book IsAnswer db (Err fault) h = tt

-- an answer that is worked out of rows that were asked
pub then_asked : {X Y : Type 0} (old new : State) (x : X) (r : Result Y RowFault) (Found : Trees → X → Type 0) (IsFound : Trees → Y → Type 0) → Rows.Asks old new (Ok x) Found → (Found old.now.trees x → IfOk r (IsFound old.now.trees)) → Rows.Asks old new r IsFound
then_asked {X} {Y} old new x r Found IsFound asked finds = record {
  settled = asked.settled;
  found = λ clean has. finds (asked.found clean has);
  answered = λ clean. on_ok r (asked.answered clean);
  was_open = asked.was_open;
  undone = asked.undone;
  survives = asked.survives;
}
  where
    on_ok : (z : Result Y RowFault) → IsTrue old.is_open → OnOk z (IsTrue old.is_open)
    on_ok (Ok y) h = h
    on_ok (Err fault) h = tt

-- an answer by what rows show that were asked, where they show it of every book that the tables hold
pub asked_shown : {Y K : Type 0} (old new : State) (rows : Vec Row Global) (shown : List Row) (r : Result Y RowFault) (Found : Trees → Vec Row Global → Type 0) (Shows : K → List Row → Type 0) (Says : K → Y → Type 0) (its : Office → Book → K)
    → Rows.Asks old new (Ok rows) Found → shown ≡ rows.items → ((k : K) → Shows k shown → IfOk r (Says k)) → ((o : Office) (b : Book) → HoldsBook o b old.now.trees → Found old.now.trees rows → Shows (its o b) rows.items) → Rows.Asks old new r (ByBook (λ o b. Says (its o b)))
asked_shown old new rows shown r Found Shows Says its asked same answers shows =
    then_asked old new rows r Found (ByBook (λ o b. Says (its o b))) asked
    (λ found. by_book (λ o b. Says (its o b)) old.now.trees r (λ o b holds. answers (its o b) (subst (Shows (its o b)) (sym same) (shows o b holds found))))

-- one question after another, the second of what the first left
pub asked_then : {X Y : Type 0} (old mid new : State) (x : X) (r : Result Y RowFault) (Found : Trees → X → Type 0) (IsFound : Trees → Y → Type 0) (Then : Trees → Y → Type 0) → Rows.Asks old mid (Ok x) Found → Rows.Asks mid new r IsFound → ((y : Y) → Found old.now.trees x → IsFound old.now.trees y → Then old.now.trees y) → Rows.Asks old new r Then
asked_then {X} {Y} old mid new x r Found IsFound Then first second finds = record {
  settled = first.settled;
  found = λ clean has. on_found r clean has (second.answered clean) (second.found clean);
  answered = λ clean. on_answered r clean (second.answered clean);
  was_open = λ clean is_open. first.was_open (clean_mid clean) (second.was_open clean is_open);
  undone = λ clean is_open.
      let then_open = second.was_open clean is_open in
      let before = first.undone (clean_mid clean) then_open in
      let after = second.undone clean is_open in
      (after.0 ∙ before.1, after.1 ∙ before.1);
  survives = survives_then old mid new (λ _. ⊥) (λ _. ⊥) (λ _. ⊥) (λ clean db never. never) (λ clean db never. never) first.survives second.survives;
}
  where
    clean_mid : HasCleanDisk new → HasCleanDisk mid
    clean_mid clean = (let fell = second.survives.clean in omega (clean, fell, arith))

    same_db : HasCleanDisk new → IsTrue mid.is_open → mid.now ≡ old.now
    same_db clean is_open = (first.undone (clean_mid clean) is_open).0 ∙ sym (first.settled (first.was_open (clean_mid clean) is_open))

    on_found : (z : Result Y RowFault) → HasCleanDisk new → HasLayout old.now → OnOk z (IsTrue mid.is_open) → (HasLayout mid.now → IfOk z (IsFound mid.now.trees)) → IfOk z (Then old.now.trees)
    on_found (Ok y) clean has is_open found =
        let same = same_db clean is_open in
        finds y (first.found (clean_mid clean) has) (subst (λ (db : Database). IsFound db.trees y) same (found (subst HasLayout (sym same) has)))
    on_found (Err fault) clean has is_open found = tt

    on_answered : (z : Result Y RowFault) → HasCleanDisk new → OnOk z (IsTrue mid.is_open) → OnOk z (IsTrue old.is_open)
    on_answered (Ok y) clean is_open = first.was_open (clean_mid clean) is_open
    on_answered (Err fault) clean h = tt

-- what is asked finds also what follows from it
pub as_asked : {X : Type 0} (old new : State) (r : Result X RowFault) (Found IsFound : Trees → X → Type 0) → Rows.Asks old new r Found → ((x : X) → Found old.now.trees x → IsFound old.now.trees x) → Rows.Asks old new r IsFound
as_asked old new (Ok x) Found IsFound asked finds = then_asked old new x (Ok x) Found IsFound asked (finds x)
as_asked old new (Err fault) Found IsFound asked finds = record {
  settled = asked.settled;
  found = λ clean has. tt;
  answered = asked.answered;
  was_open = asked.was_open;
  undone = asked.undone;
  survives = asked.survives;
}
