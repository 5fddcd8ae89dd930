use Rattle.std.proofs.Common.{◌∙◌, ◌∷◌, [], ap, map, pos, subst, w64, rules}
use Rattle.std.proofs.lemmas.Int.{to_z-of_z}
use Rattle.sqlite.specs.Effect.{Database}
use Rattle.sqlite.specs.Held.{state}
use Rattle.sqlite_trees.specs.Tree.{Trees}
use Rattle.sqlite_value.specs.Order.{Row}
use Rattle.sqlite_value.specs.declared.value.Value.TheVariants.{Int, Text}
use Rattle.society_arrivals.specs.Arriving.{PutsOutcomes}
use Rattle.society_arrivals.specs.Outcomes.{settled}
use Rattle.society_arrivals.specs.Runs.{behind_run}
use Rattle.society_book.specs.DerivedRows.{line_at_front}
use Rattle.society_arrivals.proofs.lemmas.RunWrites.{settles_by}
use Rattle.society_book.proofs.lemmas.together.StepLemmas.{does_then}
use Rattle.society_arrivals.proofs.settling.put_run.Goals as goal

pub returns : goal.returns
returns g c = record {
  does = record {
    same_reference = search rules;
    says =
        let s = c.args.sender.now in
        let run = c.args.run.now in
        let outcomes = c.as_slice.result.now in
        let q = c.as_bytes.result.now in
        let old = state g.S.Store c.args.tx.now.conn.now in
        let mid = state g.S.Store c.end_at_front.new.tx.conn.now in
        let new = state g.S.Store c.put_told.new.tx.conn.now in
        let row : Row = Text q ∷ Int (pos c.front.result) ∷ Int c.in_ok-column_of.field-0 ∷ [] in
        let Put : Trees → Trees → Type 0 = PutsOutcomes row q outcomes in
        does_then old mid new c.in_ok-end.end c.put_told.result _ (λ before after _. Put before.trees after.trees) _
        (rw c.notes.ensures at c.in_ok-end.ensures.looks.says)
        (rw (to_z-of_z w64 c.in_ok-column_of.field-0 c.in_ok-column_of.ensures.range) at c.put_told.ensures.does.says)
        (λ y one two o b holds at.
        let ready = one.1 o b holds at in
        let line = line_at_front o b s in
        settles_by s q line run outcomes c.front.result c.works.result c.in_ok-column_of.field-0 c.as_bytes.ensures.bytes c.front.ensures c.in_ok-column_of.ensures.value
        (c.works.ensures ready.0 (behind_run line run.notes) (rw c.notes-2.ensures at (c.in_ok-outcomes.ensures.ends ready.0 line ready.1 (rw c.notes-2.ensures ready.2))))
        (ap (map settled) c.as_slice.ensures.value ∙ (rw c.notes-2.ensures at (c.in_ok-outcomes.ensures.settled ready.0 line ready.1 (rw c.notes-2.ensures ready.2))))
        old.now.trees new.now.trees (subst (λ (db : Database). Put db.trees new.now.trees) one.0 two));
  };
}
