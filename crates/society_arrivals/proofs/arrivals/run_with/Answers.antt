use Rattle.std.proofs.Common.{Ok, rules}
use Rattle.sqlite.specs.Held.{state}
use Rattle.society_book.specs.EndLists.{ReadsEnds}
use Rattle.society_arrivals.specs.Going.{RunsOn, RunsOver}
use Rattle.society_arrivals.proofs.lemmas.ArrivedRuns.{begins_run}
use Rattle.society_book.proofs.lemmas.together.StepLemmas.{looks_as, looks_then}
use Rattle.society_arrivals.proofs.arrivals.run_with.Goals as goal

pub returns : goal.returns
returns g c = record {
  looks = record {
    same_reference = search rules;
    says =
        let o = c.args.office.now in
        let s = c.args.sender.now in
        let n = c.args.number in
        let begun = c.in_ok-run.run' in
        let on = c.go_on.new.run in
        let over = c.go_over.new.run in
        let ends = c.in_ok-ends.ends in
        let old = state g.S.Store c.args.tx.now.conn.now in
        let first = state g.S.Store c.go_on.new.tx.conn.now in
        let mid = state g.S.Store c.ends_in.new.tx.conn.now in
        let new = state g.S.Store c.go_over.new.tx.conn.now in
        looks_as old new tt (Ok over) (λ db _. RunsOn s begun on db × ReadsEnds s db ends × RunsOver s ends n on over db) _
        (looks_then old first new tt (Ok tt) (λ db _. RunsOn s begun on db) (λ db _. ReadsEnds s db ends × RunsOver s ends n on over db) _ c.in_ok-go_on.ensures.looks.says
        (looks_then first mid new ends (Ok tt) (ReadsEnds s) (λ db _. RunsOver s ends n on over db) _ (rw c.as_bytes.ensures.bytes at c.in_ok-ends.ensures.looks.says.does) (rw c.value.ensures.value at c.in_ok-go_over.ensures.looks.says) (λ y reads goes. (reads, goes)))
        (λ y goes more. (goes, more.0, more.1)))
        (λ all. begins_run o s n c.args.body.now begun on over ends old.now.trees c.in_ok-run.ensures all.0 all.1 all.2);
  };
}
