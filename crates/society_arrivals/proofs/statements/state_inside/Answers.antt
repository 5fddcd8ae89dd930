use Rattle.std.proofs.Common.{◌≡◌, Ok, subst, sym, rules}
use Rattle.sqlite.specs.Effect.{Database}
use Rattle.sqlite.specs.Held.{state}
use Rattle.society_arrivals.specs.Arriving.{EndsRun, StatesBy, StatesWith}
use Rattle.society_arrivals.proofs.lemmas.ArrivedRuns.{states_with}
use Rattle.society_book.proofs.lemmas.together.StepLemmas.{does_as, does_open_then, does_then}
use Rattle.society_arrivals.proofs.statements.state_inside.Goals as goal

pub returns : goal.returns
returns g c = record {
  does = record {
    same_reference = search rules;
    says =
        let o = c.args.office.now in
        let s = c.args.sender.now in
        let stated = c.args.end.now in
        let reached = c.in_ok-reached.reached in
        let run = c.in_ok-run.run' in
        let old = state g.S.Store c.args.tx.now.conn.now in
        let mid = state g.S.Store c.reached_in.new.tx.conn.now in
        let later = state g.S.Store c.run_behind.new.tx.conn.now in
        let new = state g.S.Store c.end_run.new.tx.conn.now in
        does_open_then old mid new reached (Ok _) _ (λ before after y. StatesBy o s stated reached.front before.trees run × EndsRun s stated reached.works run before.trees after.trees × (y ≡ run.reached)) _ (rw c.as_bytes.ensures.bytes at c.in_ok-reached.ensures.looks.says)
        (does_as mid new tt (Ok _) (λ before after _. StatesBy o s stated reached.front before.trees run × EndsRun s stated reached.works run before.trees after.trees) (λ before after y. StatesBy o s stated reached.front before.trees run × EndsRun s stated reached.works run before.trees after.trees × (y ≡ run.reached))
        (does_then mid later new run (Ok tt) _ (λ before after _. EndsRun s stated reached.works run before.trees after.trees) _ c.in_ok-run.ensures.looks.says c.in_ok-end_run.ensures.does.says
        (λ y two three. (two.1, subst (λ (db : Database). EndsRun s stated reached.works run db.trees new.now.trees) two.0 three)))
        (λ both. (both.0, both.1, c.front.ensures)))
        (λ y one both.
        subst (StatesWith o s stated old.now.trees new.now.trees) (sym both.2)
        (states_with o s stated reached.front reached.works run old.now.trees new.now.trees c.as_bytes.ensures.key c.last-last.ensures.right one.1
        (subst (λ (db : Database). StatesBy o s stated reached.front db.trees run) one.0 both.0)
        (subst (λ (db : Database). EndsRun s stated reached.works run db.trees new.now.trees) one.0 both.1)));
  };
}
