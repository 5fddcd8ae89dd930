use Rattle.std.proofs.Common.{Err, Ok, refl, rules}
use Rattle.sqlite.specs.Held.{state}
use Rattle.society_rows.specs.Layouts.{HasOlder}
use Rattle.society_rows.specs.Stored.{HasLayout}
use Rattle.society_book.specs.BookRows.{book_of}
use Rattle.society_opening.specs.TakingOver.{LacksRaised, StandsForNone}
use Rattle.society_book.proofs.lemmas.together.StepLemmas.{was_clean}
use Rattle.society_opening.proofs.lemmas.taking.Completed.{can_complete, named_so, raised_so, stand_for}
use Rattle.society_opening.proofs.lemmas.taking.OverLemmas.{over_derives, over_not, over_then, over_writes}
use Rattle.society_opening.proofs.lemmas.taking.WritingFaults.{faults_on}
use Rattle.book_derivation.proofs.lemmas.Writes.{says_writing}
use Rattle.society_opening.proofs.taking_over.take_inside.Goals as goal

pub returns-in-Ok-clause-does : goal.returns-in-Ok-clause-does
returns-in-Ok-clause-does g c = record {
  same_reference = search rules;
  says =
      let l = c.args.layout in
      let o = c.args.office.now in
      let old = state g.S.Store c.args.tx.now.conn.now in
      let mid = state g.S.Store c.raise_inside.new.tx.conn.now in
      let new = state g.S.Store c.complete.new.tx.conn.now in
      over_then (HasOlder l) HasLayout old mid new tt c.complete.result _ _ _ (over_writes (HasOlder l) old mid (Ok tt) _ c.in-Ok.ensures.raised.says) (λ has said. said.0)
      (over_derives (LacksRaised o l) mid new c.complete.result _ c.complete.ensures.derives.says)
      (λ y one two named. (two.0, (stand_for l old.now.trees mid.now.trees new.now.trees one.1 two.2.kept, ∣ two.2.holds (named_so o l old.now.trees mid.now.trees one.1 named) (raised_so l old.now.trees mid.now.trees one.1) ∣₁)));
}

pub returns-in-Err-clause-does : goal.returns-in-Err-clause-does
returns-in-Err-clause-does g c = record {
  same_reference = search rules;
  says =
      let old = state g.S.Store c.args.tx.now.conn.now in
      let mid = state g.S.Store c.raise_inside.new.tx.conn.now in
      over_not (HasOlder c.args.layout) old mid c.in-Err.fault (Err c.fault_of_writing.result) _ _ (over_writes (HasOlder c.args.layout) old mid (Err c.in-Err.fault) _ c.in-Err.ensures.raised.says) refl;
}

pub returns-in-Ok-clause-faults : goal.returns-in-Ok-clause-faults
returns-in-Ok-clause-faults g c clean inside was =
    let l = c.args.layout in
    let o = c.args.office.now in
    let old = state g.S.Store c.args.tx.now.conn.now in
    let mid = state g.S.Store c.raise_inside.new.tx.conn.now in
    let new = state g.S.Store c.complete.new.tx.conn.now in
    let before = was_clean mid new c.complete.ensures.derives.says.does.survives clean in
    let raised = c.in-Ok.ensures.raised.says.change before inside was in
    faults_on (StandsForNone o l) (LacksRaised o l) old mid new c.complete.result c.in-Ok.ensures.raised.says.survives before c.complete.ensures.derives.says.does.survives.counts
    (λ lacks held. lacks (book_of held.new) (can_complete o l old.now.trees mid.now.trees raised.1 held)) (c.complete.ensures.derives.says.faults clean (c.in-Ok.ensures.raised.says.inside before inside) raised.0)

pub returns-in-Err-clause-faults : goal.returns-in-Err-clause-faults
returns-in-Err-clause-faults g c clean inside was =
    says_writing (StandsForNone c.args.office.now c.args.layout) (state g.S.Store c.args.tx.now.conn.now) (state g.S.Store c.raise_inside.new.tx.conn.now) c.in-Err.fault c.fault_of_writing.result (c.in-Err.ensures.blamed clean inside was) c.fault_of_writing.ensures.value
