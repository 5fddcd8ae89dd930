use Rattle.std.proofs.Common.{true, refl, ap}
use Rattle.std.proofs.Math.Logic.{∥∥₁_map}
use Rattle.std.proofs.lemmas.Result.{on_ok_weaker, IfErr-weaker}
use Rattle.sqlite_trees.proofs.Doubt.{no_doubt}
use Rattle.sqlite_trees.specs.Memory.{memory_view}
use Rattle.memory_store.specs.Log.{rows_at}
use Rattle.memory_store.specs.Shown.{over}
use Rattle.memory_store.specs.Memory.{marked, cursors_of}
use Rattle.memory_store.proofs.lemmas.Calls.{quiet, version_shaped, version_kept}
use Rattle.memory_store.proofs.lemmas.ShownCalls.{shown_failure, shown_version}
use Rattle.memory_store.proofs.memory.MemoryStoreAlter.set_version.Goals as goal

pub invariant_of-self-clause-shaped : goal.invariant_of-self-clause-shaped
invariant_of-self-clause-shaped c =
    let s = c.args.self.now in
    let v = memory_view s.catalog in
    let w = memory_view c.set_version.new.self in
    ∥∥₁_map s.shaped (version_shaped v w (no_doubt true refl) refl c.args.version c.set_version.result c.set_version.ensures.ok c.set_version.ensures.err _ _ _)

pub returns-clause-ok : goal.returns-clause-ok
returns-clause-ok c =
    let s = c.args.self.now in
    on_ok_weaker c.set_version.result (λ h clean. shown_version (memory_view s.catalog) _ _ (cursors_of s) (cursors_of s) (marked s) (memory_view c.set_version.new.self) c.args.version (h clean)) c.set_version.ensures.ok

pub returns-clause-err : goal.returns-clause-err
returns-clause-err c =
    let s = c.args.self.now in
    IfErr-weaker c.set_version.result _ _ (λ e h. shown_failure (memory_view s.catalog) _ _ (cursors_of s) (cursors_of s) (marked s) (memory_view c.set_version.new.self) e h) c.set_version.ensures.err

pub returns-clause-quiet : goal.returns-clause-quiet
returns-clause-quiet c =
    let s = c.args.self.now in
    let v = memory_view s.catalog in
    let w = memory_view c.set_version.new.self in
    quiet s _ (ap (λ db. over db (rows_at s.kept.items)) (version_kept v w (no_doubt true refl) refl c.args.version c.set_version.result c.set_version.ensures.ok c.set_version.ensures.err))
