use Rattle.std.proofs.Common.{ap, refl, arith, length}
use Rattle.memory_store.specs.Log.{rows_at}
use Rattle.memory_store.specs.Shown.{over}
use Rattle.memory_store.proofs.lemmas.Shaped.{none_shaped}
use Rattle.memory_store.proofs.memory.MemoryStore.new.Goals as goal

pub invariant_of-result : goal.invariant_of-result
invariant_of-result c =
    let none = ap length c.new-4.ensures.items in
    let catalog = c.in_ok-new.ensures in
    record {
      within = λ k d low. absurd (omega arith);
      rising = λ i j a b. absurd (omega arith);
      leads = ∣ rw c.new-3.ensures.items refl ∣₁;
      mirrors = ∣ (λ _ is. absurd (cc)) ∣₁;
      shaped = ∣ record { now = λ _ t _ _. rw c.new-2.ensures.items (none_shaped _); committed = λ t _ _. rw c.new-2.ensures.items (none_shaped _); savepoints = rw (c.new-4.ensures.items, catalog.unmarked) tt } ∣₁;
    }

pub returns-clause-clean : goal.returns-clause-clean
returns-clause-clean c = ap (λ db. over db (rows_at c.new-2.result.items)) c.in_ok-new.ensures.clean
