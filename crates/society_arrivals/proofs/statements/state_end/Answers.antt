use Rattle.std.proofs.Common.{IsTrue, Ok, rules}
use Rattle.sqlite.specs.Held.{state}
use Rattle.sqlite.specs.State.{State, Survives}
use Rattle.sqlite_trees.specs.Tree.{Trees}
use Rattle.society_rows.specs.Stored.{HasLayout}
use Rattle.society_book.specs.Shown.{AddsAlone}
use Rattle.society_arrivals.specs.Arrivals.{StatesEnd, StatesEndTo}
use Rattle.society_book.proofs.lemmas.together.AloneLemmas.{alone_done, alone_survives, at_end}
use Rattle.society_arrivals.proofs.statements.state_end.Goals as goal

pub returns-in_err-commit : goal.returns-in_err-commit
returns-in_err-commit g c =
    record {
      added =
          let Change = StatesEnd c.args.office.now c.args.sender.now c.args.end.now in
          let Says = StatesEndTo c.args.office.now c.args.sender.now c.args.end.now in
          let old = state g.S.Store c.args.conn.now in
          let later = state g.S.Store c.state_inside.new.tx.conn.now in
          let new = state g.S.Store c.commit.new.self.0 in
          let Leaves : Trees → Type 0 = λ db. IsTrue old.is_open × (HasLayout old.now → Change old.now.trees db) in
          let done : Survives old new Leaves =
          alone_survives g.S.Store c.args.conn.now later new c.in_ok-front.front Change Says (rw (c.transaction-tx.ensures.begun, c.conn.view_is) at c.in_ok-front.ensures.does.says) c.commit.ensures.survives in
          record {
            changed = search rules;
            says = search rules;
            settled = search rules;
            was_open = search rules;
            neither = search rules;
            survives = at_end (λ (z : State). Survives old z Leaves) new _ (search rules) done;
          };
    }

pub returns : goal.returns
returns g c =
    record {
      added =
          let Change = StatesEnd c.args.office.now c.args.sender.now c.args.end.now in
          let Says = StatesEndTo c.args.office.now c.args.sender.now c.args.end.now in
          let old = state g.S.Store c.args.conn.now in
          let later = state g.S.Store c.state_inside.new.tx.conn.now in
          let new = state g.S.Store c.commit.new.self.0 in
          let done : AddsAlone Change Says old new (Ok c.in_ok-front.front) =
          alone_done g.S.Store c.args.conn.now later new c.in_ok-front.front Change Says (rw (c.transaction-tx.ensures.begun, c.conn.view_is) at c.in_ok-front.ensures.does.says) c.commit.ensures.survives
          (λ clean. (c.in_ok-commit.ensures.ok clean).1) in
          at_end (λ (z : State). AddsAlone Change Says old z (Ok c.in_ok-front.front)) new _ (search rules) done;
    }
