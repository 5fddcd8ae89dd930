use Rattle.std.proofs.Common.{◌≡◌, ◌∷◌, ◌++◌, [], ◌∙◌, ap, sym, subst, arith, map, length}
use Rattle.std.proofs.lemmas.List.{length_push}
use Rattle.std.proofs.Math.Logic.{∥∥₁_map}
use Rattle.sqlite_trees.specs.Memory.{memory_view}
use Rattle.sqlite_trees.specs.Tree.{Trees, with_tree}
use Rattle.sqlite_trees.specs.View.{View, SetsTree}
use Rattle.memory_store.specs.Pieces.{changed}
use Rattle.memory_store.specs.declared.logged.Logged.{Logged}
use Rattle.memory_store.specs.Log.{rows_at, rows_after, replayed}
use Rattle.memory_store.specs.Shown.{AreMarksShaped, AreShaped}
use Rattle.memory_store.specs.Memory.{current, store_view, marked, cursors_of, Fits}
use Rattle.memory_store.proofs.lemmas.Logs.{led_on, places_stay}
use Rattle.memory_store.proofs.lemmas.Shaped.{shaped_write}
use Rattle.memory_store.proofs.lemmas.ShownCalls.{alike, shown_write}
use Rattle.memory_store.proofs.memory.MemoryStore.write.Goals as goal

pub invariant_of-self-2 : goal.invariant_of-self-2
invariant_of-self-2 c =
    let mid = c.begin.new.self in
    let same = c.in_ok-begin.ensures.same in
    let it : Logged = record { tree = c.args.tree; change = c.args.change; place = c.write.new.near } in
    let log : c.push.new.self.items ≡ mid.log.items ++ it ∷ [] = rw (c.push.ensures.items, c.unwrap.ensures, c.reserve.ensures.items) in
    let rows : rows_at c.write.new.trees.items ≡ with_tree (rows_at (current mid)) c.args.tree (changed c.args.change (rows_at (current mid) c.args.tree)) =
    rw (c.in-Some.is, ← c.in_ok-copy.ensures.copied) c.in_ok-write.ensures.ok in
    let places : map (rows_after mid.kept.items c.push.new.self.items) mid.marks.items ≡ map (rows_after mid.kept.items mid.log.items) mid.marks.items =
    rw log (places_stay mid.kept.items mid.log.items it mid.marks.items mid.within) in
    let fits = subst (λ catalog. Fits c.args.change ((memory_view catalog).shape c.args.tree)) (sym same.catalog) c.requires in
    record {
      within = λ k d low. omega (arith, mid.within k d low, ap length log, length_push mid.log.items it);
      rising = mid.rising;
      leads = ∥∥₁_map mid.leads (λ h. rows ∙ ap (λ (db : Trees). with_tree db c.args.tree (changed c.args.change (db c.args.tree))) h
          ∙ sym (led_on mid.log.items it (rows_at mid.kept.items)) ∙ ap (λ l. replayed l (rows_at mid.kept.items)) (sym log));
      mirrors = mid.mirrors;
      shaped = ∥∥₁_map mid.shaped (λ h. record {
        now = λ sound. subst (AreShaped (memory_view mid.catalog).shape) (sym rows) (shaped_write (memory_view mid.catalog).shape (rows_at (current mid)) c.args.tree c.args.change fits (h.now sound));
        committed = h.committed;
        savepoints = subst (AreMarksShaped (memory_view mid.catalog).marks) (sym places) h.savepoints;
      });
    }

pub returns-clause-ok : goal.returns-clause-ok
returns-clause-ok c =
    let s = c.args.self.now in
    let mid = c.begin.new.self in
    let same = c.in_ok-begin.ensures.same in
    let it : Logged = record { tree = c.args.tree; change = c.args.change; place = c.write.new.near } in
    let log : c.push.new.self.items ≡ mid.log.items ++ it ∷ [] = rw (c.push.ensures.items, c.unwrap.ensures, c.reserve.ensures.items) in
    let rows : rows_at c.write.new.trees.items ≡ with_tree (rows_at (current mid)) c.args.tree (changed c.args.change (rows_at (current mid) c.args.tree)) =
    rw (c.in-Some.is, ← c.in_ok-copy.ensures.copied) c.in_ok-write.ensures.ok in
    let all = rows ∙ ap (λ (db : Trees). with_tree db c.args.tree (changed c.args.change (db c.args.tree))) same.rows in
    let stay : map (rows_after mid.kept.items c.push.new.self.items) mid.marks.items ≡ map (rows_after mid.kept.items mid.log.items) mid.marks.items =
    rw log (places_stay mid.kept.items mid.log.items it mid.marks.items mid.within) in
    let before : map (rows_after mid.kept.items mid.log.items) mid.marks.items ≡ marked s = rw (same.kept, same.log, same.marks) in
    let places : map (rows_after mid.kept.items c.push.new.self.items) mid.marks.items ≡ marked s = stay ∙ before in
    subst (λ (v : View). SetsTree (store_view s) v c.args.tree (changed c.args.change))
    (sym (alike (memory_view mid.catalog) (memory_view s.catalog) _ _ _ _ _ _ _ (ap memory_view same.catalog) all (ap (λ kept. rows_at kept.items) same.kept) places))
    (shown_write (memory_view s.catalog) (rows_at (current s)) (rows_at s.kept.items) (cursors_of s) _ (marked s) (sym c.if-has_failed.ensures) c.args.tree (changed c.args.change) (omega arith))
