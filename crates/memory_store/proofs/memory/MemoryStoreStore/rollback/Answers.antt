use Rattle.std.proofs.Common.{true, refl, ap, sym, map, length, arith, subst}
use Rattle.std.proofs.Math.Logic.{∥∥₁_map}
use Rattle.sqlite_trees.proofs.Doubt.{no_doubt}
use Rattle.sqlite_trees.specs.Memory.{memory_view}
use Rattle.sqlite_trees.specs.View.{View, IsRolledBack}
use Rattle.memory_store.specs.Log.{rows_after, rows_at}
use Rattle.memory_store.specs.Shown.{over}
use Rattle.memory_store.specs.Memory.{store_view, marked, cursors_of}
use Rattle.memory_store.proofs.lemmas.Calls.{quiet, shaped_rolled_back}
use Rattle.memory_store.proofs.lemmas.ShownCalls.{alike, shown_rollback}
use Rattle.memory_store.proofs.memory.MemoryStoreStore.rollback.Goals as goal

pub invariant_of-self : goal.invariant_of-self
invariant_of-self c =
    let s = c.args.self.now in
    let v = memory_view s.catalog in
    let w = memory_view c.rollback.new.self in
    let none = ap length c.clear-2.ensures.items in
    record {
      within = λ k d low. absurd (omega arith);
      rising = λ i j a b. absurd (omega arith);
      leads = ∣ rw c.clear.ensures.items refl ∣₁;
      mirrors = s.mirrors;
      shaped = rw c.clear-2.ensures.items (∥∥₁_map s.shaped (shaped_rolled_back v w _ _ _ c.rollback.ensures.undone (no_doubt true refl) refl));
    }

pub returns-clause-undone : goal.returns-clause-undone
returns-clause-undone c =
    let s = c.args.self.now in
    let v = memory_view s.catalog in
    let w = memory_view c.rollback.new.self in
    subst (λ (x : View). IsRolledBack (store_view s) x) (sym (alike w w _ _ _ _ _ _ _ refl refl refl (ap (map (rows_after s.kept.items c.clear.new.self.items)) c.clear-2.ensures.items)))
    (shown_rollback v _ (rows_at s.kept.items) (cursors_of s) _ (marked s) w c.rollback.ensures.undone)

pub returns-clause-quiet : goal.returns-clause-quiet
returns-clause-quiet c = quiet c.args.self.now _ (ap (λ db. over db (rows_at c.args.self.now.kept.items)) ((c.rollback.ensures.undone.kept (no_doubt true refl)).committed refl))
