-- Questions on a connection.
use Rattle.std.proofs.Common.{◌≡◌, IsTrue, Result, refl, ◌∙◌, true, arith}
use Rattle.sqlite_trees.specs.Tree.{Trees}
use Rattle.sqlite_trees.specs.declared.store.Store.{Ghosts}
use Rattle.sqlite.specs.Effect.{Database}
use Rattle.sqlite.specs.Held.{Held, state}
use Rattle.sqlite.specs.State.{State, HasCleanDisk, IsRolledBack, Survives}
use Rattle.sqlite.proofs.Callers.{survives_begin}
use Rattle.sqlite.proofs.StateLemmas.{survives_then}
use Rattle.society_rows.specs.declared.fault.RowFault.{RowFault}
use Rattle.society_rows.specs.Questions.{AsksOver}
use Rattle.society_rows.specs.Reads.{ReadsOver}

-- a reading in a transaction that was rolled back
pub asks_by : {S : Type 0} (g : Ghosts S) {X : Type 0} {Was : Database → Type 0} (old : Held S) (mid new : State) (result : Result X RowFault) (Found : Trees → X → Type 0)
    → (IsTrue (state g old).is_open → (state g old).now ≡ (state g old).committed) → ReadsOver Was (state g (record old { in_transaction = true })) mid result Found → (HasCleanDisk new → IsRolledBack mid new) → Survives mid new (λ _. ⊥)
    → AsksOver Was (state g old) new result Found
asks_by g old mid new result Found settled read rolled survives =
    let begun = state g (record old { in_transaction = true }) in
    let early = λ (clean : HasCleanDisk new). let was : HasCleanDisk mid = omega (arith, survives.clean) in was in
    record {
      settled = settled;
      found = λ clean. read.found (early clean);
      answered = λ clean. read.was_open (early clean);
      was_open = λ clean opened. (read.kept (early clean) refl).was_open ((rolled clean).was_open opened);
      undone = λ clean opened.
          let back = (rolled clean).undone opened in
          let same = (read.kept (early clean) refl).committed ((rolled clean).was_open opened) in
          (back.0 ∙ same, back.1 ∙ same);
      survives = survives_begin g old new (λ _. ⊥) (survives_then begun mid new (λ _. ⊥) (λ _. ⊥) (λ _. ⊥) (λ _ db none. none) (λ _ db none. none) read.survives survives);
    }
