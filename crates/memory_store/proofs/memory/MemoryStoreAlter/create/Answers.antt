use Rattle.std.proofs.Common.{◌≡◌, ◌^◌, ◌<◌, [], true, refl, ap, arith}
use Rattle.std.proofs.Math.Logic.{∥∥₁_map, ∥∥₁_elim}
use Rattle.std.proofs.lemmas.Result.{on_ok_weaker, IfErr-weaker}
use Rattle.sqlite_trees.proofs.Doubt.{no_doubt}
use Rattle.sqlite_trees.specs.Memory.{memory_view}
use Rattle.sqlite_trees.specs.Props.{rows_set}
use Rattle.memory_store.specs.Log.{rows_at}
use Rattle.memory_store.specs.Shown.{over}
use Rattle.memory_store.specs.Memory.{current, marked, cursors_of}
use Rattle.memory_store.proofs.lemmas.Over.{not_catalog, not_version}
use Rattle.memory_store.proofs.lemmas.Calls.{quiet, none_absent, listed_shaped, listed_kept}
use Rattle.memory_store.proofs.lemmas.ShownCalls.{shown_failure, shown_object}
use Rattle.memory_store.proofs.memory.MemoryStoreAlter.create.Goals as goal

pub invariant_of-self-clause-shaped : goal.invariant_of-self-clause-shaped
invariant_of-self-clause-shaped c =
    let s = c.args.self.now in
    let v = memory_view s.catalog in
    let w = memory_view c.create.new.self in
    let free = c.requires (no_doubt true refl) in
    let low : c.args.tree < 2 ^ 32 = omega (arith, free.low) in
    ∥∥₁_map s.shaped (λ h. listed_shaped v w (no_doubt true refl) refl c.args.tree _ _ _ c.create.result c.create.ensures.ok c.create.ensures.err _ _ _
    (λ sound. none_absent v.shape (rows_at (current s)) c.args.tree (h.now sound) free.unused (not_catalog c.args.tree low) (not_version c.args.tree low)) h)

pub returns-clause-ok : goal.returns-clause-ok
returns-clause-ok c =
    let s = c.args.self.now in
    let v = memory_view s.catalog in
    let w = memory_view c.create.new.self in
    let free = c.requires (no_doubt true refl) in
    let low : c.args.tree < 2 ^ 32 = omega (arith, free.low) in
    on_ok_weaker c.create.result (λ h clean. let done = h clean in
    let none : rows_at (current s) c.args.tree ≡ [] = ∥∥₁_elim s.shaped (rows_set _ _) (λ was. none_absent v.shape (rows_at (current s)) c.args.tree (was.now done.sound) free.unused (not_catalog c.args.tree low) (not_version c.args.tree low)) in
    shown_object v _ _ (cursors_of s) (cursors_of s) (marked s) w (rows_at (current s)) c.args.tree _ _ _ done low (λ j other. refl) none) c.create.ensures.ok

pub returns-clause-err : goal.returns-clause-err
returns-clause-err c =
    let s = c.args.self.now in
    IfErr-weaker c.create.result _ _ (λ e h. shown_failure (memory_view s.catalog) _ _ (cursors_of s) (cursors_of s) (marked s) (memory_view c.create.new.self) e h) c.create.ensures.err

pub returns-clause-quiet : goal.returns-clause-quiet
returns-clause-quiet c =
    let s = c.args.self.now in
    let v = memory_view s.catalog in
    let w = memory_view c.create.new.self in
    quiet s _ (ap (λ db. over db (rows_at s.kept.items)) (listed_kept v w (no_doubt true refl) refl c.args.tree _ _ _ c.create.result c.create.ensures.ok c.create.ensures.err))
