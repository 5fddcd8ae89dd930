use Rattle.std.proofs.Common.{◌≡◌, ◌≢◌, ℕ, ◌-◌, ◌<◌, ◌≤◌, [], ◌∙◌, true, refl, ap, sym, map, take, length, get_or, arith, subst, Some, slice_get, take-take, length-take-le}
use Rattle.std.proofs.Math.Logic.{∥∥₁_map}
use Rattle.std.proofs.lemmas.List.{length-map}
use Rattle.sqlite_trees.proofs.Doubt.{no_doubt}
use Rattle.sqlite_trees.specs.Memory.{memory_view}
use Rattle.sqlite_trees.specs.View.{View, GoesBack}
use Rattle.memory_store.specs.Log.{rows_after, rows_at, replayed}
use Rattle.memory_store.specs.Shown.{over}
use Rattle.memory_store.specs.Memory.{current, store_view, marked, cursors_of}
use Rattle.memory_store.proofs.lemmas.Kept.{marks_shaped}
use Rattle.memory_store.proofs.lemmas.Calls.{quiet, shaped_failure, shaped_back}
use Rattle.memory_store.proofs.lemmas.ShownCalls.{alike, shown_failure, shown_back}
use Rattle.std.proofs.lemmas.Option.{slice_get_within, get_or_from_slice_get}
use Rattle.memory_store.specs.declared.memory.MemoryStore.{MemoryStore}
use Rattle.memory_store.proofs.lemmas.Marks.{no_marks, length-shown_marks, marks_paired}
use Rattle.memory_store.proofs.lemmas.Places.{no_last, below_last}
use Rattle.memory_store.proofs.lemmas.Logs.{same_places, newest_rows}
use Rattle.memory_store.proofs.memory.MemoryStoreStore.rollback_to.Goals as goal

pub returns-in_default-clause-ok : goal.returns-in_default-clause-ok
returns-in_default-clause-ok c _ marked =
    let s = c.args.self.now in
    let none : s.marks.items ≡ [] = no_last s.marks.items (sym (rw c.deref.ensures.value at c.in_default.ensures.value)) in
    absurd (marked (rw none (no_marks (memory_view s.catalog).marks)))

pub invariant_of-self-in-Err-1 : goal.invariant_of-self-in-Err-1
invariant_of-self-in-Err-1 c =
    let s = c.args.self.now in
    record {
      within = s.within;
      rising = s.rising;
      leads = s.leads;
      mirrors = s.mirrors;
      shaped = ∥∥₁_map s.shaped (shaped_failure (memory_view s.catalog) (memory_view c.rollback_to.new.self) _ _ _ c.in-Err.error c.in-Err.ensures.err refl);
    }

pub returns-in-Err-clause-err : goal.returns-in-Err-clause-err
returns-in-Err-clause-err c =
    let s = c.args.self.now in
    shown_failure (memory_view s.catalog) _ _ (cursors_of s) (cursors_of s) (marked s) (memory_view c.rollback_to.new.self) c.in-Err.error c.in-Err.ensures.err

pub returns-in-Err-clause-quiet : goal.returns-in-Err-clause-quiet
returns-in-Err-clause-quiet c = quiet c.args.self.now _ (ap (λ db. over db (rows_at c.args.self.now.kept.items)) (c.in-Err.ensures.err.kept.committed refl))

module _ (s : MemoryStore) (count : ℕ) (last : slice_get s.marks.items (length s.marks.items - 1) ≡ Some count) where
  some : 0 < length s.marks.items
  some = omega (arith, slice_get_within s.marks.items (length s.marks.items - 1) count last)

  is_last : count ≡ get_or s.marks.items (length s.marks.items - 1) 0
  is_last = sym (get_or_from_slice_get s.marks.items (length s.marks.items - 1) count 0 last)

  low : count ≤ length s.log.items
  low = rw is_last (s.within _ 0 (omega (arith, some)))

  some_marked : 0 < length (marked s)
  some_marked = rw length-map some

  newest_marked : get_or (marked s) (length (marked s) - 1) (rows_at (current s)) ≡ rows_after s.kept.items s.log.items count
  newest_marked = newest_rows (rows_after s.kept.items s.log.items) s.marks.items (rows_at (current s)) some ∙ ap (rows_after s.kept.items s.log.items) (sym is_last)

  marks_stay : map (rows_after s.kept.items (take count s.log.items)) s.marks.items ≡ marked s
  marks_stay = same_places s.kept.items s.log.items (take count s.log.items) count s.marks.items (rw is_last (below_last s.marks.items s.rising)) (take-take count count s.log.items (omega arith))

  has_marks : (memory_view s.catalog).marks ≢ []
  has_marks none = let same = marks_paired (memory_view s.catalog).marks (marked s) (marks_shaped s) in omega (arith, ap length none, same, some_marked)

pub invariant_of-self-2 : goal.invariant_of-self-2
invariant_of-self-2 c =
    let s = c.args.self.now in
    let v = memory_view s.catalog in
    let w = memory_view c.rollback_to.new.self in
    let count = c.in-Some.field-0.now in
    let last : slice_get s.marks.items (length s.marks.items - 1) ≡ Some count = sym (rw c.deref.ensures.value at c.in-Some.ensures.value) in
    let rows : rows_at c.in_ok-trees.trees.items ≡ rows_after s.kept.items s.log.items count = rw (c.deref-2.ensures.value, c.as_slice.ensures.value) at c.in_ok-trees.ensures.led in
    let log : c.truncate.new.self.items ≡ take count s.log.items = c.truncate.ensures.items in
    let all : rows_at c.in_ok-trees.trees.items ≡ get_or (marked s) (length (marked s) - 1) (rows_at (current s)) = rows ∙ sym (newest_marked s count last) in
    record {
      within = rw (log, length-take-le count s.log.items (low s count last), is_last s count last) (below_last s.marks.items s.rising);
      rising = s.rising;
      leads = ∣ rows ∙ sym (ap (λ l. replayed l (rows_at s.kept.items)) log) ∣₁;
      mirrors = s.mirrors;
      shaped = ∥∥₁_map s.shaped (λ h. rw (log, marks_stay s count last, all) (shaped_back v w _ _ _ (c.in_default-rollback_to.ensures.ok (no_doubt true refl) (has_marks s count last)) (some_marked s count last) h));
    }

pub returns-clause-ok : goal.returns-clause-ok
returns-clause-ok c _ _ =
    let s = c.args.self.now in
    let v = memory_view s.catalog in
    let w = memory_view c.rollback_to.new.self in
    let count = c.in-Some.field-0.now in
    let last : slice_get s.marks.items (length s.marks.items - 1) ≡ Some count = sym (rw c.deref.ensures.value at c.in-Some.ensures.value) in
    let rows : rows_at c.in_ok-trees.trees.items ≡ rows_after s.kept.items s.log.items count = rw (c.deref-2.ensures.value, c.as_slice.ensures.value) at c.in_ok-trees.ensures.led in
    let all : rows_at c.in_ok-trees.trees.items ≡ get_or (marked s) (length (marked s) - 1) (rows_at (current s)) = rows ∙ sym (newest_marked s count last) in
    let stay : map (rows_after s.kept.items c.truncate.new.self.items) s.marks.items ≡ marked s = ap (λ l. map (rows_after s.kept.items l) s.marks.items) c.truncate.ensures.items ∙ marks_stay s count last in
    subst (λ (x : View). GoesBack (store_view s) x) (sym (alike w w _ _ _ _ _ _ _ refl all refl stay))
    (shown_back v (rows_at (current s)) (rows_at s.kept.items) (cursors_of s) _ (marked s) w (c.in_default-rollback_to.ensures.ok (no_doubt true refl) (has_marks s count last)) (marks_shaped s) (some_marked s count last))

pub returns-clause-none : goal.returns-clause-none
returns-clause-none c _ none =
    let s = c.args.self.now in
    let count = c.in-Some.field-0.now in
    let last : slice_get s.marks.items (length s.marks.items - 1) ≡ Some count = sym (rw c.deref.ensures.value at c.in-Some.ensures.value) in
    let shaped = marks_shaped s in
    absurd (omega (arith, ap length none, length-shown_marks (memory_view s.catalog).marks (marked s) shaped, marks_paired (memory_view s.catalog).marks (marked s) shaped, some_marked s count last))

pub returns-clause-quiet : goal.returns-clause-quiet
returns-clause-quiet c =
    let s = c.args.self.now in
    let count = c.in-Some.field-0.now in
    let last : slice_get s.marks.items (length s.marks.items - 1) ≡ Some count = sym (rw c.deref.ensures.value at c.in-Some.ensures.value) in
    quiet s _ (ap (λ (x : View). over x.committed (rows_at s.kept.items)) (c.in_default-rollback_to.ensures.ok (no_doubt true refl) (has_marks s count last)).is)
