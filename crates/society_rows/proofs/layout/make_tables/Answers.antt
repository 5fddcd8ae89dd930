use Rattle.std.proofs.Common.{◌≡◌, ◌∙◌, ◌+◌, [], Ok, Err, refl, ap, arith, rules}
use Rattle.sqlite.specs.Held.{state}
use Rattle.sqlite.specs.Effect.{Database}
use Rattle.society_rows.specs.Layouts.{HasFirst}
use Rattle.society_rows.specs.Raising.{Extends}
use Rattle.society_rows.specs.TableNames.{create_text}
use Rattle.society_rows.proofs.lemmas.changes.Effects.{writes_none, writes_by, writes_then, writes_fail, writes_as}
use Rattle.society_rows.proofs.lemmas.definitions.FirstTables.{first_of}
use Rattle.society_rows.proofs.lemmas.definitions.Missing.{Grows, none_made, next_made, next_made_blames, next_made_tells, all_made}
use Rattle.society_rows.proofs.lemmas.errors.Blamed.{blames_after}
use Rattle.society_rows.proofs.lemmas.errors.Told.{tells_after}
use Rattle.society_rows.proofs.layout.make_tables.Goals as goal

pub loop-at-init : goal.loop-at-init
loop-at-init g c = record { same_reference = refl; made = writes_none (HasFirst c.args.from) (state g.S.Store c.args.tx.now.conn.now) (Grows c.args.from c.args.from) (none_made c.args.from c.requires.start _) }

pub loop-at-preserved : goal.loop-at-preserved
loop-at-preserved g c =
    let at = c.loop-at.at in
    let from = c.args.from in
    let first = state g.S.Store c.args.tx.now.conn.now in
    let old = state g.S.Store c.loop-at.tx.conn.now in
    let new = state g.S.Store c.run.new.tx.conn.now in
    let text = c.shape_of.result.create.now in
    let is : text ≡ _ = c.shape_of.ensures.create ∙ ap create_text c.name_at.ensures in
    let one = writes_by (λ d. (was : Database) × Grows from at was d) old new text [] (Ok tt) (λ d e. (was : Database) → Grows from at was d → Grows from (at + 1) was e) c.in_ok-run.ensures.ran c.in_ok-run.ensures.survives
    (λ count has h was grown. next_made from at c.loop-at-test.true was old new count grown (rw is at h)) in
    record {
      same_reference = c.run.ensures.same_reference ∙ c.loop-at.invariant.same_reference;
      made = writes_then (HasFirst from) (λ d. (was : Database) × Grows from at was d) first old new tt (Ok tt) (Grows from at) (λ d e. (was : Database) → Grows from at was d → Grows from (at + 1) was e) (Grows from (at + 1)) (λ d e h. (d, h)) (λ d e f p q. q d p) c.loop-at.invariant.made one;
    }

pub returns-clause-made : goal.returns-clause-made
returns-clause-made g c = record {
  same_reference = search rules;
  says =
      let from = c.args.from in
      writes_as (HasFirst from) (HasFirst from) (state g.S.Store c.args.tx.now.conn.now) (state g.S.Store c.loop-at.tx.conn.now) (Ok tt) (Grows from c.loop-at.at) (Extends from) (λ has. has)
      (all_made from c.loop-at.at c.requires.some (omega (arith, c.loop-at-test.false))) c.loop-at.invariant.made;
}

pub returns-in_err-run-clause-made : goal.returns-in_err-run-clause-made
returns-in_err-run-clause-made g c = record {
  same_reference = search rules;
  says =
      let at = c.loop-at.at in
      let from = c.args.from in
      let first = state g.S.Store c.args.tx.now.conn.now in
      let old = state g.S.Store c.loop-at.tx.conn.now in
      let new = state g.S.Store c.run.new.tx.conn.now in
      writes_fail (HasFirst from) (HasFirst at) first old new tt (Grows from at) (Extends from) (λ d e h. first_of h.first) _ _ c.in_err-run.field-0.0 c.from_residual.result c.from_residual.ensures.0 c.loop-at.invariant.made
      c.in_err-run.ensures.ran c.in_err-run.ensures.survives;
}

pub returns-in_err-run-clause-err : goal.returns-in_err-run-clause-err
returns-in_err-run-clause-err g c =
    let at = c.loop-at.at in
    let from = c.args.from in
    let first = state g.S.Store c.args.tx.now.conn.now in
    let old = state g.S.Store c.loop-at.tx.conn.now in
    let new = state g.S.Store c.run.new.tx.conn.now in
    let is = c.shape_of.ensures.create ∙ ap create_text c.name_at.ensures in
    tells_after (HasFirst from) (λ d. (was : Database) × Grows from at was d) first old new c.loop-at.invariant.made (λ d e h. (d, h)) c.in_err-run.field-0.0 c.from_residual.result c.from_residual.ensures.1 c.in_err-run.ensures.survives
    (next_made_tells from at c.loop-at-test.true old new (Err c.in_err-run.field-0.0) c.in_err-run.ensures.ended (λ clean inside. rw is at (c.in_err-run.ensures.ran clean inside)))

pub returns-in_err-run-clause-blamed : goal.returns-in_err-run-clause-blamed
returns-in_err-run-clause-blamed g c =
    let at = c.loop-at.at in
    let from = c.args.from in
    let first = state g.S.Store c.args.tx.now.conn.now in
    let old = state g.S.Store c.loop-at.tx.conn.now in
    let new = state g.S.Store c.run.new.tx.conn.now in
    let is = c.shape_of.ensures.create ∙ ap create_text c.name_at.ensures in
    blames_after (HasFirst from) (λ d. (was : Database) × Grows from at was d) first old new c.loop-at.invariant.made (λ d e h. (d, h)) c.in_err-run.field-0.0 c.from_residual.result c.from_residual.ensures.1 c.in_err-run.ensures.survives
    (next_made_blames from at c.loop-at-test.true old new (Err c.in_err-run.field-0.0) (λ clean inside. rw is at (c.in_err-run.ensures.ran clean inside)))
