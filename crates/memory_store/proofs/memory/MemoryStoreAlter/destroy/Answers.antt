use Rattle.std.proofs.Common.{◌≡◌, ◌^◌, ◌<◌, ◌∷◌, ◌++◌, [], ◌∙◌, true, refl, ap, sym, map, length, arith, subst, eq-eqb, ne_eqb}
use Rattle.std.proofs.Math.Logic.{∥∥₁_map}
use Rattle.std.proofs.lemmas.List.{length_push}
use Rattle.sqlite_trees.proofs.Doubt.{no_doubt}
use Rattle.sqlite_trees.specs.Memory.{memory_view}
use Rattle.sqlite_trees.specs.Tree.{Trees, with_tree}
use Rattle.sqlite_trees.specs.View.{View, IsFailure}
use Rattle.sqlite_trees.specs.Objects.{Destroys}
use Rattle.memory_store.specs.declared.change.Change.TheVariants.{Clear}
use Rattle.memory_store.specs.declared.logged.Logged.{Logged}
use Rattle.memory_store.specs.Log.{rows_after, rows_at, replayed}
use Rattle.memory_store.specs.Shown.{over}
use Rattle.memory_store.specs.Memory.{current, store_view, marked, cursors_of}
use Rattle.memory_store.proofs.lemmas.Logs.{led_on, places_stay}
use Rattle.memory_store.proofs.lemmas.Calls.{quiet, shaped_failure, shaped_listed}
use Rattle.memory_store.proofs.lemmas.ShownCalls.{alike, shown_failure, shown_object}
use Rattle.memory_store.proofs.memory.MemoryStoreAlter.destroy.Goals as goal

pub invariant_of-self-in-Err-1 : goal.invariant_of-self-in-Err-1
invariant_of-self-in-Err-1 c =
    let mid = c.begin.new.self in
    let now : rows_at c.in-Some.trees.items ≡ rows_at (current mid) = rw c.in-Some.is in
    record {
      within = rw c.reserve.ensures.items mid.within;
      rising = mid.rising;
      leads = rw (c.reserve.ensures.items, now) mid.leads;
      mirrors = mid.mirrors;
      shaped = rw (c.reserve.ensures.items, now) (∥∥₁_map mid.shaped (shaped_failure (memory_view mid.catalog) (memory_view c.destroy.new.self) _ _ _ c.in-Err.error c.in-Err.ensures.err refl));
    }

pub returns-in-Err-clause-err : goal.returns-in-Err-clause-err
returns-in-Err-clause-err c =
    let s = c.args.self.now in
    let mid = c.begin.new.self in
    let same = c.in_ok-begin.ensures.same in
    let w = memory_view c.destroy.new.self in
    let now : rows_at c.in-Some.trees.items ≡ rows_at (current mid) = rw c.in-Some.is in
    let log : map (rows_after mid.kept.items c.reserve.new.self.items) mid.marks.items ≡ map (rows_after mid.kept.items mid.log.items) mid.marks.items = rw c.reserve.ensures.items in
    let before : map (rows_after mid.kept.items mid.log.items) mid.marks.items ≡ marked s = rw (same.kept, same.log, same.marks) in
    let failed = subst (λ catalog. IsFailure (memory_view catalog) w c.in-Err.error) same.catalog c.in-Err.ensures.err in
    subst (λ (x : View). IsFailure (store_view s) x c.in-Err.error)
    (sym (alike w w _ _ _ _ _ _ _ refl (now ∙ same.rows) (ap (λ kept. rows_at kept.items) same.kept) (log ∙ before)))
    (shown_failure (memory_view s.catalog) (rows_at (current s)) (rows_at s.kept.items) (cursors_of s) _ (marked s) w c.in-Err.error failed)

pub returns-in-Err-clause-quiet : goal.returns-in-Err-clause-quiet
returns-in-Err-clause-quiet c =
    let s = c.args.self.now in
    let mid = c.begin.new.self in
    let same = c.in_ok-begin.ensures.same in
    let w = memory_view c.destroy.new.self in
    quiet s _ (ap (over w.committed) (ap (λ kept. rows_at kept.items) same.kept) ∙ ap (λ db. over db (rows_at s.kept.items)) (c.in-Err.ensures.err.kept.committed refl ∙ ap (λ catalog. (memory_view catalog).committed) same.catalog))

pub invariant_of-self-2 : goal.invariant_of-self-2
invariant_of-self-2 c =
    let mid = c.begin.new.self in
    let v = memory_view mid.catalog in
    let w = memory_view c.destroy.new.self in
    let it : Logged = record { tree = c.args.tree; change = Clear; place = c.start.result } in
    let log : c.push.new.self.items ≡ mid.log.items ++ it ∷ [] = rw (c.push.ensures.items, c.unwrap.ensures, c.reserve.ensures.items) in
    let rows : rows_at c.clear.new.trees.items ≡ with_tree (rows_at (current mid)) c.args.tree [] = rw c.in-Some.is c.clear.ensures.none in
    let places : map (rows_after mid.kept.items c.push.new.self.items) mid.marks.items ≡ map (rows_after mid.kept.items mid.log.items) mid.marks.items =
    rw log (places_stay mid.kept.items mid.log.items it mid.marks.items mid.within) in
    let done = c.in_default-destroy.ensures.ok (no_doubt true refl) in
    record {
      within = λ k d low. omega (arith, mid.within k d low, ap length log, length_push mid.log.items it);
      rising = mid.rising;
      leads = ∥∥₁_map mid.leads (λ h. rows ∙ ap (λ (db : Trees). with_tree db c.args.tree []) h ∙ sym (led_on mid.log.items it (rows_at mid.kept.items)) ∙ ap (λ l. replayed l (rows_at mid.kept.items)) (sym log));
      mirrors = mid.mirrors;
      shaped = ∥∥₁_map mid.shaped (λ h. rw (rows, places) (shaped_listed v w _ _ _ (with_tree (rows_at (current mid)) c.args.tree []) c.args.tree _ _ _ done (λ j other. rw (ne_eqb j c.args.tree other)) (rw (eq-eqb c.args.tree c.args.tree refl)) h));
    }

pub returns-clause-ok : goal.returns-clause-ok
returns-clause-ok c _ =
    let s = c.args.self.now in
    let mid = c.begin.new.self in
    let same = c.in_ok-begin.ensures.same in
    let w = memory_view c.destroy.new.self in
    let it : Logged = record { tree = c.args.tree; change = Clear; place = c.start.result } in
    let log : c.push.new.self.items ≡ mid.log.items ++ it ∷ [] = rw (c.push.ensures.items, c.unwrap.ensures, c.reserve.ensures.items) in
    let rows : rows_at c.clear.new.trees.items ≡ with_tree (rows_at (current mid)) c.args.tree [] = rw c.in-Some.is c.clear.ensures.none in
    let all = rows ∙ ap (λ (db : Trees). with_tree db c.args.tree []) same.rows in
    let stay : map (rows_after mid.kept.items c.push.new.self.items) mid.marks.items ≡ map (rows_after mid.kept.items mid.log.items) mid.marks.items =
    rw log (places_stay mid.kept.items mid.log.items it mid.marks.items mid.within) in
    let before : map (rows_after mid.kept.items mid.log.items) mid.marks.items ≡ marked s = rw (same.kept, same.log, same.marks) in
    let done = subst (λ catalog. Destroys (memory_view catalog) w c.args.tree) same.catalog (c.in_default-destroy.ensures.ok (no_doubt true refl)) in
    let low : c.args.tree < 2 ^ 32 = omega arith in
    subst (λ (x : View). Destroys (store_view s) x c.args.tree)
    (sym (alike w w _ _ _ _ _ _ _ refl all (ap (λ kept. rows_at kept.items) same.kept) (stay ∙ before)))
    (shown_object (memory_view s.catalog) (rows_at (current s)) (rows_at s.kept.items) (cursors_of s) _ (marked s) w (with_tree (rows_at (current s)) c.args.tree []) c.args.tree _ _ _ done low
    (λ j other. rw (ne_eqb j c.args.tree other)) (rw (eq-eqb c.args.tree c.args.tree refl)))

pub returns-clause-quiet : goal.returns-clause-quiet
returns-clause-quiet c =
    let s = c.args.self.now in
    let same = c.in_ok-begin.ensures.same in
    let w = memory_view c.destroy.new.self in
    let done = c.in_default-destroy.ensures.ok (no_doubt true refl) in
    quiet s _ (ap (over w.committed) (ap (λ kept. rows_at kept.items) same.kept) ∙ ap (λ db. over db (rows_at s.kept.items)) (ap (λ (x : View). x.committed) done.is ∙ ap (λ catalog. (memory_view catalog).committed) same.catalog))
