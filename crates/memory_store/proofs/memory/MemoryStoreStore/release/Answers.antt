use Rattle.std.proofs.Common.{◌≡◌, ◌-◌, true, refl, ap, sym, map, take, length, subst, rules}
use Rattle.std.proofs.Math.Logic.{∥∥₁_map}
use Rattle.std.proofs.lemmas.List.{take-map, length-map}
use Rattle.sqlite_trees.proofs.Doubt.{no_doubt}
use Rattle.sqlite_trees.specs.Memory.{memory_view}
use Rattle.sqlite_trees.specs.View.{View, Releases}
use Rattle.memory_store.specs.Log.{rows_after, rows_at}
use Rattle.memory_store.specs.Shown.{over, AreAllShaped}
use Rattle.memory_store.specs.Memory.{current, store_view, marked, cursors_of}
use Rattle.memory_store.proofs.lemmas.Places.{rise_taken}
use Rattle.memory_store.proofs.lemmas.Kept.{marks_shaped}
use Rattle.memory_store.proofs.lemmas.Calls.{quiet, shaped_failure, shaped_released}
use Rattle.memory_store.proofs.lemmas.ShownCalls.{alike, shown_failure, shown_release}
use Rattle.memory_store.proofs.memory.MemoryStoreStore.release.Goals as goal

pub invariant_of-self : goal.invariant_of-self
invariant_of-self c =
    let s = c.args.self.now in
    record {
      within = s.within;
      rising = s.rising;
      leads = s.leads;
      mirrors = s.mirrors;
      shaped = ∥∥₁_map s.shaped (shaped_failure (memory_view s.catalog) (memory_view c.release.new.self) _ _ _ c.in-Err.error c.in-Err.ensures.err refl);
    }

pub returns-in-Err-clause-err : goal.returns-in-Err-clause-err
returns-in-Err-clause-err c =
    let s = c.args.self.now in
    shown_failure (memory_view s.catalog) _ _ (cursors_of s) (cursors_of s) (marked s) (memory_view c.release.new.self) c.in-Err.error c.in-Err.ensures.err

pub returns-in-Err-clause-quiet : goal.returns-in-Err-clause-quiet
returns-in-Err-clause-quiet c = quiet c.args.self.now _ (ap (λ db. over db (rows_at c.args.self.now.kept.items)) (c.in-Err.ensures.err.kept.committed refl))

pub invariant_of-self-2-clause-shaped : goal.invariant_of-self-2-clause-shaped
invariant_of-self-2-clause-shaped c =
    let s = c.args.self.now in
    let v = memory_view s.catalog in
    let w = memory_view c.release.new.self in
    let rest : c.pop.new.self.items ≡ take (length s.marks.items - 1) s.marks.items = search (rules, c.pop.ensures.rest) in
    let less : map (rows_after s.kept.items s.log.items) c.pop.new.self.items ≡ take (length (marked s) - 1) (marked s) = rw (rest, length-map, take-map) in
    ∥∥₁_map s.shaped (λ h. subst (AreAllShaped w (rows_at (current s)) (rows_at s.kept.items)) (sym less) (shaped_released v w _ _ _ (c.in_default.ensures.ok (no_doubt true refl)) h))

pub invariant_of-self-2-clause-rising : goal.invariant_of-self-2-clause-rising
invariant_of-self-2-clause-rising c =
    let s = c.args.self.now in
    let rest : c.pop.new.self.items ≡ take (length s.marks.items - 1) s.marks.items = search (rules, c.pop.ensures.rest) in
    rw rest (rise_taken (length s.marks.items - 1) s.marks.items s.rising)

pub returns-clause-ok : goal.returns-clause-ok
returns-clause-ok c _ =
    let s = c.args.self.now in
    let v = memory_view s.catalog in
    let w = memory_view c.release.new.self in
    let rest : c.pop.new.self.items ≡ take (length s.marks.items - 1) s.marks.items = search (rules, c.pop.ensures.rest) in
    let less : map (rows_after s.kept.items s.log.items) c.pop.new.self.items ≡ take (length (marked s) - 1) (marked s) = rw (rest, length-map, take-map) in
    subst (λ (x : View). Releases (store_view s) x) (sym (alike w w _ _ _ _ (cursors_of s) _ _ refl refl refl less))
    (shown_release v _ _ (cursors_of s) (cursors_of s) (marked s) w (c.in_default.ensures.ok (no_doubt true refl)) (marks_shaped s))

pub returns-clause-quiet : goal.returns-clause-quiet
returns-clause-quiet c =
    quiet c.args.self.now _ (ap (λ (x : View). over x.committed (rows_at c.args.self.now.kept.items)) (c.in_default.ensures.ok (no_doubt true refl)))
