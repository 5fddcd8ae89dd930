-- An addition in a transaction of its own: what is committed is there, and nothing else.
use Rattle.std.proofs.Common.{◌≡◌, ◌∙◌, true, false, Ok, IsTrue, refl, sym, subst, arith}
use Rattle.sqlite.proofs.Callers.{survives_begin}
use Rattle.sqlite.proofs.StateLemmas.{survives_then}
use Rattle.sqlite.specs.Effect.{Database}
use Rattle.sqlite.specs.Held.{Held, state}
use Rattle.sqlite.specs.State.{HasCleanDisk, Shows, State, Survives}
use Rattle.sqlite_trees.specs.Tree.{Trees}
use Rattle.sqlite_trees.specs.declared.store.Store.{Ghosts}
use Rattle.society_rows.specs.Effects.{IsAllOrNothing, Writes}
use Rattle.society_rows.specs.Stored.{HasLayout}
use Rattle.society_book.specs.Shown.{AddsAlone, SurvivesChange}
use Rattle.society_book.specs.Steps.{DoesOpen}

module _ {S X : Type 0} (g : Ghosts S) (old : Held S) (later new : State) (x : X) (Change : Trees → Trees → Type 0) (Says : Trees → X → Type 0)
    (does : DoesOpen (state g (record old { in_transaction = true })) later (Ok x) (λ before after y. Change before.trees after.trees × Says before.trees y))
    (commits : Survives later new (λ db. db ≡ later.now.trees)) where
  clean_later : HasCleanDisk new → HasCleanDisk later
  clean_later clean = (let fell = commits.clean in omega (clean, fell, arith))

  comes : HasCleanDisk new → HasLayout (state g old).now → Change (state g old).now.trees later.now.trees × Says (state g old).now.trees x
  comes clean has = does.does.says (clean_later clean) refl has

  -- a crash leaves what it left before, or the tables with the change
  pub alone_survives : Survives (state g old) new (λ db. IsTrue (state g old).is_open × (HasLayout (state g old).now → Change (state g old).now.trees db))
  alone_survives =
      survives_begin g old new (λ db. IsTrue (state g old).is_open × (HasLayout (state g old).now → Change (state g old).now.trees db))
      (survives_then (state g (record old { in_transaction = true })) later new (λ _. ⊥) (λ db. db ≡ later.now.trees) (λ db. IsTrue (state g old).is_open × (HasLayout (state g old).now → Change (state g old).now.trees db))
      (λ clean db never. absurd never)
      (λ clean db same. (does.answered (clean_later clean) refl, λ has. subst (λ (trees : Trees). Change (state g old).now.trees trees) (sym same) (comes clean has).0))
      does.does.survives commits)

  -- once it is committed, it is there
  pub alone_done : (HasCleanDisk new → Shows later new later.now later.now false) → AddsAlone Change Says (state g old) new (Ok x)
  alone_done shows = record {
    changed = λ clean has. (
      subst (λ (db : Database). Change (state g old).now.trees db.trees) (sym (shows clean).now_is) (comes clean has).0,
      subst HasLayout (sym (shows clean).now_is) (does.does.layout (clean_later clean) refl has),
    );
    says = λ clean has. (comes clean has).1;
    settled = λ clean. (does.answered (clean_later clean) refl, (shows clean).is_open, (shows clean).now_is ∙ sym (shows clean).committed_is);
    was_open = λ clean is_open. does.answered (clean_later clean) refl;
    neither = λ clean is_open. tt;
    survives = alone_survives;
  }

-- a statement that wrote, in a transaction of its own: a crash leaves what it left before, or the tables with what it wrote
pub written_survives : {S : Type 0} (g : Ghosts S) (old : Held S) (later new : State) (Wrote : Database → Database → Type 0) (Change : Trees → Trees → Type 0)
    → Writes {X = Unit {0}} (state g (record old { in_transaction = true })) later (Ok tt) Wrote → IsAllOrNothing {X = Unit {0}} (state g (record old { in_transaction = true })) later (Ok tt)
    → ((d e : Database) → Wrote d e → Change d.trees e.trees) → Survives later new (λ db. db ≡ later.now.trees) → SurvivesChange Change (state g old) new
written_survives g old later new Wrote Change wrote whole changes commits =
    let begun = state g (record old { in_transaction = true }) in
    let Leaves : Trees → Type 0 = λ db. IsTrue (state g old).is_open × (HasLayout (state g old).now → Change (state g old).now.trees db) in
    let clean_later = λ (clean : HasCleanDisk new). let fell = commits.clean in let was : HasCleanDisk later = omega (clean, fell, arith) in was in
    survives_begin g old new Leaves
    (survives_then begun later new (λ _. ⊥) (λ db. db ≡ later.now.trees) Leaves (λ clean db never. absurd never)
    (λ clean db same. (whole (clean_later clean) refl, λ has. subst (λ (trees : Trees). Change (state g old).now.trees trees) (sym same) (changes begun.now later.now (wrote.change (clean_later clean) refl has)))) wrote.survives commits)

-- the same of a state that is that one
pub at_end : (P : State → Type 0) (done last : State) → last ≡ done → P done → P last
at_end P done last e h = subst P (sym e) h
