use Rattle.std.proofs.Common.{Ok, rules}
use Rattle.sqlite.specs.Held.{state}
use Rattle.society_book.specs.EndLists.{ReadsEnds}
use Rattle.society_arrivals.specs.Going.{RunsOver}
use Rattle.society_arrivals.proofs.lemmas.ArrivedRuns.{states_run}
use Rattle.society_book.proofs.lemmas.together.StepLemmas.{looks_as, looks_then}
use Rattle.society_arrivals.proofs.statements.run_behind.Goals as goal

pub returns : goal.returns
returns g c = record {
  looks = record {
    same_reference = search rules;
    says =
        let o = c.args.office.now in
        let s = c.args.sender.now in
        let read = c.in_ok-ends.ends in
        let ends = c.push.new.self in
        let begun = c.new-run.result in
        let over = c.go_over.new.run in
        let old = state g.S.Store c.args.tx.now.conn.now in
        let mid = state g.S.Store c.ends_in.new.tx.conn.now in
        let new = state g.S.Store c.go_over.new.tx.conn.now in
        looks_as old new tt (Ok over) (λ db _. ReadsEnds s db read × RunsOver s ends c.args.front begun over db) _
        (looks_then old mid new read (Ok tt) (ReadsEnds s) (λ db _. RunsOver s ends c.args.front begun over db) _ (rw c.as_bytes.ensures.bytes at c.in_ok-ends.ensures.looks.says.does) c.in_ok-go_over.ensures.looks.says (λ y reads goes. (reads, goes)))
        (λ all. states_run o s c.args.end.now c.args.front begun over read ends old.now.trees all.0 c.in_ok-push.ensures c.new-run.ensures all.1);
  };
}
