use Rattle.std.proofs.Common.{◌≡◌, [], ◌∙◌, true, refl, ap, sym, map, length, arith, subst, inl, inr}
use Rattle.std.proofs.Math.Logic.{∥∥₁_map}
use Rattle.sqlite_trees.proofs.Doubt.{no_doubt}
use Rattle.sqlite_trees.specs.Memory.{memory_view}
use Rattle.sqlite_trees.specs.View.{View, IsRolledBack, Commits}
use Rattle.memory_store.specs.Log.{rows_after, rows_at, changed_or, replayed}
use Rattle.memory_store.specs.Shown.{over}
use Rattle.memory_store.specs.Memory.{current, store_view, marked, cursors_of}
use Rattle.memory_store.proofs.lemmas.Kept.{led}
use Rattle.memory_store.proofs.lemmas.Calls.{shaped_rolled_back, shaped_committed, commit_frame}
use Rattle.memory_store.proofs.lemmas.ShownCalls.{alike, shown_rollback, shown_commit}
use Rattle.memory_store.proofs.memory.MemoryStoreStore.commit.Goals as goal

pub invariant_of-self : goal.invariant_of-self
invariant_of-self c =
    let s = c.args.self.now in
    let none = ap length c.clear-in-Err.ensures.items in
    record {
      within = λ k d low. absurd (omega arith);
      rising = λ i j a b. absurd (omega arith);
      leads = ∣ rw c.clear.ensures.items refl ∣₁;
      mirrors = s.mirrors;
      shaped = rw c.clear-in-Err.ensures.items (∥∥₁_map s.shaped (shaped_rolled_back (memory_view s.catalog) (memory_view c.commit.new.self) _ _ _ c.in-Err.ensures.err (no_doubt true refl) refl));
    }

pub returns-in-Err-clause-err : goal.returns-in-Err-clause-err
returns-in-Err-clause-err c =
    let s = c.args.self.now in
    let w = memory_view c.commit.new.self in
    subst (λ (x : View). IsRolledBack (store_view s) x) (sym (alike w w _ _ _ _ _ _ _ refl refl refl (ap (map (rows_after s.kept.items c.clear.new.self.items)) c.clear-in-Err.ensures.items)))
    (shown_rollback (memory_view s.catalog) _ (rows_at s.kept.items) (cursors_of s) _ (marked s) w c.in-Err.ensures.err)

pub returns-in-Err-clause-crash : goal.returns-in-Err-clause-crash
returns-in-Err-clause-crash c db is = inr (is ∙ ap (λ x. over x (rows_at c.args.self.now.kept.items)) ((c.in-Err.ensures.err.kept (no_doubt true refl)).committed refl))

pub catch_up-requires-clause-leads : goal.catch_up-requires-clause-leads
catch_up-requires-clause-leads c =
    let s = c.args.self.now in
    ap (λ x. rows_at (changed_or x s.kept.items)) c.take-changed.ensures.value ∙ led s ∙ sym (ap (λ l. replayed l.items (rows_at s.kept.items)) c.replace-log.ensures.value)

pub catch_up-requires-clause-mirrors : goal.catch_up-requires-clause-mirrors
catch_up-requires-clause-mirrors c = rw c.take-spare.ensures.value c.args.self.now.mirrors

pub invariant_of-self-2 : goal.invariant_of-self-2
invariant_of-self-2 c =
    let s = c.args.self.now in
    let v = memory_view s.catalog in
    let w = memory_view c.commit.new.self in
    let none = ap length c.clear-2.ensures.items in
    let log : c.replace-log.new.dest.items ≡ [] = rw c.replace-log.ensures.after c.new.ensures.items in
    let rows : rows_at c.catch_up.new.kept.items ≡ rows_at (current s) = rw c.take-changed.ensures.value at c.catch_up.ensures.kept in
    let now : rows_at (changed_or c.take-changed.new.self c.catch_up.new.kept.items) ≡ rows_at c.catch_up.new.kept.items = rw c.take-changed.ensures.after in
    record {
      within = λ k d low. absurd (omega arith);
      rising = λ i j a b. absurd (omega arith);
      leads = ∣ now ∙ sym (ap (λ l. replayed l (rows_at c.catch_up.new.kept.items)) log) ∣₁;
      mirrors = c.catch_up.ensures.mirrors;
      shaped = ∥∥₁_map s.shaped (λ h. rw (c.clear-2.ensures.items, now, rows) (shaped_committed v w _ _ _ (c.in_default.ensures.ok (no_doubt true refl)) h));
    }

pub returns-clause-ok : goal.returns-clause-ok
returns-clause-ok c _ =
    let s = c.args.self.now in
    let v = memory_view s.catalog in
    let w = memory_view c.commit.new.self in
    let rows : rows_at c.catch_up.new.kept.items ≡ rows_at (current s) = rw c.take-changed.ensures.value at c.catch_up.ensures.kept in
    let now : rows_at (changed_or c.take-changed.new.self c.catch_up.new.kept.items) ≡ rows_at c.catch_up.new.kept.items = rw c.take-changed.ensures.after in
    subst (λ (x : View). Commits (store_view s) x) (sym (alike w w _ _ _ _ _ _ _ refl (now ∙ rows) rows (ap (map (rows_after c.catch_up.new.kept.items c.replace-log.new.dest.items)) c.clear-2.ensures.items)))
    (shown_commit v (rows_at (current s)) (rows_at s.kept.items) (cursors_of s) _ (marked s) w (c.in_default.ensures.ok (no_doubt true refl)))

pub returns-clause-frame : goal.returns-clause-frame
returns-clause-frame c _ =
    let s = c.args.self.now in
    let v = memory_view s.catalog in
    let w = memory_view c.commit.new.self in
    let rows : rows_at c.catch_up.new.kept.items ≡ rows_at (current s) = rw c.take-changed.ensures.value at c.catch_up.ensures.kept in
    let now : rows_at (changed_or c.take-changed.new.self c.catch_up.new.kept.items) ≡ rows_at c.catch_up.new.kept.items = rw c.take-changed.ensures.after in
    commit_frame _ _ (subst (λ (x : View). Commits (store_view s) x) (sym (alike w w _ _ _ _ _ _ _ refl (now ∙ rows) rows (ap (map (rows_after c.catch_up.new.kept.items c.replace-log.new.dest.items)) c.clear-2.ensures.items)))
    (shown_commit v (rows_at (current s)) (rows_at s.kept.items) (cursors_of s) _ (marked s) w (c.in_default.ensures.ok (no_doubt true refl))))

pub returns-clause-crash : goal.returns-clause-crash
returns-clause-crash c db is =
    let s = c.args.self.now in
    let rows : rows_at c.catch_up.new.kept.items ≡ rows_at (current s) = rw c.take-changed.ensures.value at c.catch_up.ensures.kept in
    let done = c.in_default.ensures.ok (no_doubt true refl) in
    inl (done.sound, is ∙ ap (over (memory_view c.commit.new.self).committed) rows ∙ ap (λ (x : View). over x.committed (rows_at (current s))) done.is)
