use Rattle.std.proofs.Common.{◌≡◌, ◌-◌, ◌∷◌, ◌++◌, [], true, refl, ap, sym, map, take, length, subst, rules}
use Rattle.std.proofs.Math.Logic.{∥∥₁_map}
use Rattle.sqlite_trees.proofs.Doubt.{no_doubt}
use Rattle.sqlite_trees.specs.Memory.{memory_view}
use Rattle.sqlite_trees.specs.View.{View, IsFailure, Marks}
use Rattle.memory_store.specs.Log.{rows_after, rows_at}
use Rattle.memory_store.specs.Shown.{over, AreAllShaped}
use Rattle.memory_store.specs.Memory.{current, store_view, marked, cursors_of}
use Rattle.memory_store.proofs.lemmas.Places.{within_pushed, rise_pushed, unpushed}
use Rattle.memory_store.proofs.lemmas.Kept.{marks_shaped, marked_on}
use Rattle.memory_store.proofs.lemmas.Calls.{quiet, shaped_failure, shaped_marked}
use Rattle.memory_store.proofs.lemmas.ShownCalls.{alike, shown_failure, shown_savepoint}
use Rattle.memory_store.proofs.memory.MemoryStoreStore.savepoint.Goals as goal

pub invariant_of-self-in-Err : goal.invariant_of-self-in-Err
invariant_of-self-in-Err c =
    let s = c.args.self.now in
    let rest : c.pop.new.self.items ≡ take (length c.push.new.self.items - 1) c.push.new.self.items = search (rules, c.pop.ensures.rest) in
    let back : c.pop.new.self.items ≡ s.marks.items = rw (rest, c.in_ok-push.ensures.items) (unpushed s.marks.items c.len.result) in
    record {
      within = rw back s.within;
      rising = rw back s.rising;
      leads = s.leads;
      mirrors = s.mirrors;
      shaped = rw back (∥∥₁_map s.shaped (shaped_failure (memory_view s.catalog) (memory_view c.savepoint.new.self) _ _ _ c.in-Err.error c.in-Err.ensures.err refl));
    }

pub returns-in-Err-clause-err : goal.returns-in-Err-clause-err
returns-in-Err-clause-err c =
    let s = c.args.self.now in
    let w = memory_view c.savepoint.new.self in
    let rest : c.pop.new.self.items ≡ take (length c.push.new.self.items - 1) c.push.new.self.items = search (rules, c.pop.ensures.rest) in
    let back : c.pop.new.self.items ≡ s.marks.items = rw (rest, c.in_ok-push.ensures.items) (unpushed s.marks.items c.len.result) in
    subst (λ (x : View). IsFailure (store_view s) x c.in-Err.error) (sym (alike w w _ _ _ _ (cursors_of s) _ _ refl refl refl (ap (map (rows_after s.kept.items s.log.items)) back)))
    (shown_failure (memory_view s.catalog) _ _ (cursors_of s) (cursors_of s) (marked s) w c.in-Err.error c.in-Err.ensures.err)

pub returns-in-Err-clause-quiet : goal.returns-in-Err-clause-quiet
returns-in-Err-clause-quiet c = quiet c.args.self.now _ (ap (λ db. over db (rows_at c.args.self.now.kept.items)) (c.in-Err.ensures.err.kept.committed refl))

pub invariant_of-self-in_default : goal.invariant_of-self-in_default
invariant_of-self-in_default c =
    let s = c.args.self.now in
    let v = memory_view s.catalog in
    let w = memory_view c.savepoint.new.self in
    let count : c.len.result ≡ length s.log.items = search (rules, c.len.ensures) in
    let items : c.push.new.self.items ≡ s.marks.items ++ length s.log.items ∷ [] = rw (c.in_ok-push.ensures.items, count) in
    let more : map (rows_after s.kept.items s.log.items) c.push.new.self.items ≡ marked s ++ rows_at (current s) ∷ [] = rw items (marked_on s) in
    record {
      within = rw items (within_pushed (length s.log.items) s.marks.items s.within);
      rising = rw items (rise_pushed (length s.log.items) s.marks.items s.within s.rising);
      leads = s.leads;
      mirrors = s.mirrors;
      shaped = ∥∥₁_map s.shaped (λ h. subst (AreAllShaped w (rows_at (current s)) (rows_at s.kept.items)) (sym more) (shaped_marked v w _ _ _ (c.in_default.ensures.ok (no_doubt true refl)) h));
    }

pub returns-clause-ok : goal.returns-clause-ok
returns-clause-ok c _ =
    let s = c.args.self.now in
    let v = memory_view s.catalog in
    let w = memory_view c.savepoint.new.self in
    let count : c.len.result ≡ length s.log.items = search (rules, c.len.ensures) in
    let items : c.push.new.self.items ≡ s.marks.items ++ length s.log.items ∷ [] = rw (c.in_ok-push.ensures.items, count) in
    let more : map (rows_after s.kept.items s.log.items) c.push.new.self.items ≡ marked s ++ rows_at (current s) ∷ [] = rw items (marked_on s) in
    subst (λ (x : View). Marks (store_view s) x) (sym (alike w w _ _ _ _ (cursors_of s) _ _ refl refl refl more))
    (shown_savepoint v _ _ (cursors_of s) (cursors_of s) (marked s) w (c.in_default.ensures.ok (no_doubt true refl)) (marks_shaped s))

pub returns-clause-quiet : goal.returns-clause-quiet
returns-clause-quiet c =
    quiet c.args.self.now _ (ap (λ (x : View). over x.committed (rows_at c.args.self.now.kept.items)) (c.in_default.ensures.ok (no_doubt true refl)).is)
