-- What telling of orders leaves of a database.
use Rattle.std.proofs.Common.{◌≡◌, ◌∙◌, ℕ, Bool, Err, IsTrue, List, Ok, Option, Result, arith, inl, inr, refl, subst, true}
use Rattle.std.specs.Prelude.{⊤, IfOk}
use Rattle.http_desk.specs.declared.counted.Counted.{Counted}
use Rattle.http_desk.specs.declared.fault.DeskFault.{DeskFault}
use Rattle.share_rules.specs.declared.office.Office.{Office}
use Rattle.sqlite.proofs.Callers.{survives_begin}
use Rattle.sqlite.proofs.StateLemmas.{survives_then}
use Rattle.sqlite.specs.Effect.{Database}
use Rattle.sqlite.specs.Held.{Held, state}
use Rattle.sqlite.specs.State.{HasCleanDisk, IsRolledBack, State, Survives}
use Rattle.sqlite_trees.specs.Tree.{Trees}
use Rattle.sqlite_trees.specs.declared.store.Store.{Ghosts}
use Rattle.society_rows.specs.Stored.{HasLayout}
use Rattle.society_rows.specs.declared.fault.RowFault.{RowFault}
use Rattle.society_book.proofs.lemmas.together.StepLemmas.{still}
use Rattle.society_book.specs.Steps.{Looks}
use Rattle.society_opening.specs.Existing.{FindsSoundly}
use Rattle.society_commands.specs.Connections.{CreditsOver, ShowsStill, ListsOver, OverFound, StopsListing}

-- readings in a transaction that was rolled back
pub kept_by : {S : Type 0} (g : Ghosts S) {X : Type 0} (old : Held S) (mid new : State) (result : Result X RowFault) (Found : Trees → X → Type 0)
    → Looks (state g (record old { in_transaction = true })) mid result Found → (HasCleanDisk new → IsRolledBack mid new) → Survives mid new (λ _. ⊥) → ShowsStill (state g old) new
kept_by g old mid new result Found looks rolled survives = record {
  was_open = λ clean opened. (looks.kept (early clean) refl).was_open ((rolled clean).was_open opened);
  shown = λ clean opened.
      let back = (rolled clean).undone opened in
      let same = (looks.kept (early clean) refl).committed ((rolled clean).was_open opened) in
      (back.0 ∙ same, back.1 ∙ same);
  crash = survives_begin g old new (λ _. ⊥) (survives_then (state g (record old { in_transaction = true })) mid new (λ _. ⊥) (λ _. ⊥) (λ _. ⊥) (λ _ db none. none) (λ _ db none. none) looks.survives survives);
}
  where
    early : HasCleanDisk new → HasCleanDisk mid
    early clean = (let fell = survives.clean in omega (clean, fell, arith))

-- what those readings found
pub listed_by : {S : Type 0} (g : Ghosts S) (old : Held S) (mid new : State) (result : Result (Result Bool DeskFault) RowFault) (Lists : Trees → Result Bool DeskFault → Type 0)
    → Looks (state g (record old { in_transaction = true })) mid result Lists → Survives mid new (λ _. ⊥) → IfOk result (λ listed. ListsOver (state g old) new (λ db. Lists db listed))
listed_by g old mid new result Lists looks survives = under result (λ clean has. looks.says (early clean) refl has)
  where
    early : HasCleanDisk new → HasCleanDisk mid
    early clean = (let fell = survives.clean in omega (clean, fell, arith))

    under : (r : Result (Result Bool DeskFault) RowFault) → (HasCleanDisk new → HasLayout (state g old).now → IfOk r (λ listed. (mid.now ≡ (state g old).now) × Lists (state g old).now.trees listed))
        → IfOk r (λ listed. ListsOver (state g old) new (λ db. Lists db listed))
    under (Ok listed) says = λ clean has. (says clean has).1
    under (Err fault) says = tt

-- behind an audit that found a sound book
pub audited_then : (office : Office) (old mid new : State) (status : ℕ) (Lists : Trees → Type 0) → FindsSoundly office old mid → Survives old mid (λ _. ⊥) → ShowsStill mid new
    → (status ≡ 0 → HasCleanDisk new → Lists mid.now.trees) → CreditsOver office old new status Lists
audited_then office old mid new status Lists sound first kept lists = record {
  shown = λ clean opened again.
      let shows = (sound (early clean) opened).1 (kept.was_open clean again) in
      let here = kept.shown clean again in
      (here.0 ∙ shows.1, here.1 ∙ shows.1);
  sound = λ zero clean opened. (sound (early clean) opened).0;
  listed = λ zero clean opened again.
      let shows = (sound (early clean) opened).1 (kept.was_open clean again) in
      subst (λ (db : Database). Lists db.trees) shows.0 (lists zero clean);
  crash = survives_then old mid new (λ _. ⊥) (λ _. ⊥) (λ _. ⊥) (λ _ db none. none) (λ _ db none. none) first kept.crash;
}
  where
    early : HasCleanDisk new → HasCleanDisk mid
    early clean = (let fell = kept.crash.clean in omega (clean, fell, arith))

-- nothing was done to a connection at rest
pub kept_still : (s : State) → (IsTrue s.is_open → s.now ≡ s.committed) → ShowsStill s s
kept_still s settled = record { was_open = λ clean opened. opened; shown = λ clean opened. (settled opened, refl); crash = still s }

-- where not all were answered, nothing is said of what was listed
pub over_any : (office : Office) (old new : State) (Lists : Trees → Type 0) → CreditsOver office old new 1 Lists → CreditsOver office old new 1 (λ db. ⊤)
over_any office old new Lists over = record { shown = over.shown; sound = over.sound; listed = λ _ _ _ _. tt; crash = over.crash }

-- what holds of a database that was audited is so of the one that was found
pub over_found : (office : Office) (old mid new : State) → FindsSoundly office old mid → ShowsStill mid new → (Holds : Database → Type 0) → (HasCleanDisk new → Holds mid.now)
    → OverFound old new Holds
over_found office old mid new sound kept Holds holds = λ clean opened again.
    let shows = (sound (early clean) opened).1 (kept.was_open clean again) in
    subst Holds shows.0 (holds clean)
  where
    early : HasCleanDisk new → HasCleanDisk mid
    early clean = (let fell = kept.crash.clean in omega (clean, fell, arith))

-- and so is why a listing stopped
pub stops_found : {R W E : Type 0} (Over OverNow : (Database → Type 0) → Type 0) (office : Office) (remaining : R → Option (List ℕ)) (contents : W → Option (List ℕ)) (says : E → Option (List ℕ))
    (reader new_reader : Counted R) (out new_out : Counted W) (err new_err : Counted E) → ((Holds : Database → Type 0) → Over Holds → OverNow Holds)
    → StopsListing Over office remaining contents says reader new_reader out new_out err new_err → StopsListing OverNow office remaining contents says reader new_reader out new_out err new_err
stops_found Over OverNow office remaining contents says reader new_reader out new_out err new_err lifts (inl (other, unread, same, told)) = inl (lifts _ other, unread, same, told)
stops_found Over OverNow office remaining contents says reader new_reader out new_out err new_err lifts (inr (inl row)) = inr (inl row)
stops_found Over OverNow office remaining contents says reader new_reader out new_out err new_err lifts (inr (inr some)) = inr (inr (lifts _ some))
