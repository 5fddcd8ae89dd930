use Rattle.std.proofs.Common.{◌≡◌, ◌∙◌, ◌+◌, ◌<◌, ◌++◌, ◌∷◌, [], get_or, length, slice_get, Bool, if◌then◌else◌, take, true≢false, sym, ap, arith, append-nil, length-append}
use Rattle.std.proofs.lemmas.Bool.{eqb-true}
use Rattle.society_rows.specs.Shapes.{guard_shaped}
use Rattle.society_rows.proofs.lemmas.definitions.Laid.{before, before_next, count_is, few_before, guard_there, guards_by, guards_next, next_by, one_index, rest_is, table_there, tables_next, whole}
use Rattle.society_rows.proofs.finding.is_made_of.Goals.{then-is_guarded+else-not-has_guard, else-is_guarded}
use Rattle.society_rows.proofs.finding.is_made_of.Goals as goal

pub returns-then-tables-count : goal.returns-then-tables-count
returns-then-tables-count c = (
  λ no. absurd cc,
  λ made.
      absurd (c.if-tables-count.true (ap length c.as_slice-tables.ensures ∙ count_is c.args.cuts c.args.payments c.args.schema.now c.args.count c.requires made)),
)

pub overflow_add-tree : goal.overflow_add-tree
overflow_add-tree c =
    let few = few_before c.args.cuts c.args.payments c.loop-at.at (omega (arith, c.loop-at-test.true, c.requires)) in
    omega (arith, c.loop-at.invariant.guards, few, c.loop-at-test.true, c.requires)

pub returns-then-not-is_called : goal.returns-then-not-is_called
returns-then-not-is_called c = (
  λ no. absurd cc,
  λ made.
      let at = c.loop-at.at in
      let table = c.index-tables-at.result in
      let there = table_there c.args.cuts c.args.payments c.args.schema.now c.args.count c.requires made at c.loop-at-test.true table (c.index-tables-at.is ∙ ap (λ l. get_or l at table) c.as_slice-tables.ensures) in
      let yes = c.is_called.ensures.1 (there ∙ sym (next_by c.args.cuts c.args.payments at c.name_at-name.result c.loop-at.guards c.name_at-name.ensures c.loop-at.invariant.guards)) in
      absurd (true≢false (sym yes ∙ c.if-not-is_called.true)),
)

pub returns-then-not-has_guard : goal.returns-then-not-has_guard
returns-then-not-has_guard c = (
  λ no. absurd cc,
  λ made.
      let at = c.loop-at.at in
      let tree = at + c.loop-at.guards in
      let guard = guard_shaped c.shape_of-shape.result tree in
      let only : guards_next c.args.cuts c.args.payments at ≡ guard ∷ [] =
      guards_by c.args.cuts c.args.payments at c.name_at-name.result c.loop-at.guards c.name_at-name.ensures c.loop-at.invariant.guards ∙ c.shape_of-shape.ensures.guards _ _ tree
      ∙ ap (λ b. if b then guard ∷ [] else []) (sym c.is_guarded.ensures ∙ c.if-is_guarded.true) in
      let there = guard_there c.args.cuts c.args.payments c.args.schema.now c.args.count c.requires made at c.loop-at-test.true guard only in
      let yes = c.has_guard.ensures.1 (ap (λ l. slice_get l c.loop-at.guards) c.as_slice.ensures ∙ ap (slice_get c.args.schema.now.indexes) c.loop-at.invariant.guards ∙ there) in
      absurd (true≢false (sym yes ∙ c.if-not-has_guard.true)),
)

pub loop-at-preserved : goal.loop-at-preserved
loop-at-preserved c =
    let at = c.loop-at.at in
    let tree = at + c.loop-at.guards in
    let table = c.index-tables-at.result in
    let shape = c.shape_of-shape.result in
    let indexes = c.args.schema.now.indexes in
    let within : at < 14 = omega (arith, c.loop-at-test.true, c.requires) in
    let new = c.is_called.ensures.0 c.if-not-is_called.false ∙ next_by c.args.cuts c.args.payments at c.name_at-name.result c.loop-at.guards c.name_at-name.ensures c.loop-at.invariant.guards in
    let tables = tables_next c.args.cuts c.args.payments c.args.schema.now.tables at (omega (arith, ap length c.as_slice-tables.ensures, c.if-tables-count.false, c.loop-at-test.true)) within table
    (c.index-tables-at.is ∙ ap (λ l. get_or l at table) c.as_slice-tables.ensures) new c.loop-at.invariant.tables in
    let own : before c.args.cuts c.args.payments (at + 1) ≡ before c.args.cuts c.args.payments at ++ (if c.is_guarded.result then guard_shaped shape tree ∷ [] else []) =
    before_next c.args.cuts c.args.payments at within
    ∙ ap (λ l. before c.args.cuts c.args.payments at ++ l)
    (guards_by c.args.cuts c.args.payments at c.name_at-name.result c.loop-at.guards c.name_at-name.ensures c.loop-at.invariant.guards ∙ c.shape_of-shape.ensures.guards _ _ tree
    ∙ ap (λ b. if b then guard_shaped shape tree ∷ [] else []) (sym c.is_guarded.ensures)) in
    let so_far : take (length (before c.args.cuts c.args.payments at)) indexes ≡ before c.args.cuts c.args.payments at = ap (λ n. take n indexes) (sym c.loop-at.invariant.guards) ∙ c.loop-at.invariant.indexes in
    let as_guarded = λ (yes : Bool). before c.args.cuts c.args.payments at ++ (if yes then guard_shaped shape tree ∷ [] else []) in
    elim c.if-is_guarded.branch [
      | then-is_guarded+else-not-has_guard w ↦
          let guard = guard_shaped shape tree in
          let more : before c.args.cuts c.args.payments (at + 1) ≡ before c.args.cuts c.args.payments at ++ guard ∷ [] = own ∙ ap as_guarded w.if-is_guarded.true in
          let there = ap (λ l. slice_get l (length (before c.args.cuts c.args.payments at))) (sym w.as_slice.ensures) ∙ ap (slice_get w.as_slice.result.now) (sym c.loop-at.invariant.guards) ∙ w.has_guard.ensures.0 w.if-not-has_guard.false in
          record {
            tables = tables;
            indexes = ap (λ n. take n indexes) (w.guards-is ∙ ap (λ n. n + 1) c.loop-at.invariant.guards) ∙ one_index indexes (before c.args.cuts c.args.payments at) guard so_far there ∙ sym more;
            guards = omega (arith, w.guards-is, c.loop-at.invariant.guards, ap length more, length-append (before c.args.cuts c.args.payments at) (guard ∷ []));
          }
      | else-is_guarded w ↦
          let same : before c.args.cuts c.args.payments (at + 1) ≡ before c.args.cuts c.args.payments at = own ∙ ap as_guarded w.if-is_guarded.false ∙ append-nil (before c.args.cuts c.args.payments at) in
          record {
            tables = tables;
            indexes = ap (λ n. take n indexes) w.guards-is ∙ c.loop-at.invariant.indexes ∙ sym same;
            guards = w.guards-is ∙ c.loop-at.invariant.guards ∙ sym (ap length same);
          }
    ]

pub returns-then-len-guards : goal.returns-then-len-guards
returns-then-len-guards c =
    let end : c.loop-at.at ≡ c.args.count = omega (arith, c.loop-at-test.false, c.loop-at.auto.at-end) in (
      λ empty.
          whole c.args.cuts c.args.payments c.args.schema.now c.args.count c.loop-at.at end (ap length (sym c.as_slice-tables.ensures) ∙ c.if-tables-count.false) c.loop-at.invariant.tables
          (ap (λ n. take n c.args.schema.now.indexes) (sym c.len.ensures ∙ c.if-len-guards.true) ∙ c.loop-at.invariant.indexes) (c.is_empty.ensures.0 empty),
      λ made. c.is_empty.ensures.1 (rest_is c.args.cuts c.args.payments c.args.schema.now c.args.count c.requires made).1,
    )

pub returns-else-len-guards : goal.returns-else-len-guards
returns-else-len-guards c =
    let end : c.loop-at.at ≡ c.args.count = omega (arith, c.loop-at-test.false, c.loop-at.auto.at-end) in (
      λ is. absurd (c.if-len-guards.false (eqb-true _ _ is)),
      λ made.
          absurd (c.if-len-guards.false (c.len.ensures ∙ ap length (rest_is c.args.cuts c.args.payments c.args.schema.now c.args.count c.requires made).0 ∙ ap (λ n. length (before c.args.cuts c.args.payments n)) (sym end) ∙ sym c.loop-at.invariant.guards)),
    )
