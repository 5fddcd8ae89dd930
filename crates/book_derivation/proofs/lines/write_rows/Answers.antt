use Rattle.std.proofs.Common.{Ok, [], map, rules}
use Rattle.sqlite.specs.Held.{state}
use Rattle.society_rows.specs.Layout as layout
use Rattle.society_rows.specs.Rows.{front_values, recording_values, verdict_values, version_values}
use Rattle.society_arrivals.specs.LineTables.{AddsTold, PutsLine}
use Rattle.society_book.specs.Steps.{Never}
use Rattle.book_derivation.proofs.lemmas.Derivings.{derives_then}
use Rattle.book_derivation.proofs.lemmas.LineWrites.{puts_line_of, told_of, works_of}
use Rattle.book_derivation.proofs.lemmas.Writes.{AddsRows, PutsRow, derives_adds, derives_puts, fronts_derived, recordings_derived, verdicts_derived, versions_derived}
use Rattle.book_derivation.proofs.lines.write_rows.Goals as goal

pub returns : goal.returns
returns g c = record {
  derives = record {
    same_reference = search rules;
    says =
        let front = front_values c.args.front.now in
        let judged = map verdict_values c.args.verdicts.now in
        let told = map version_values c.args.versions.now in
        let named = map recording_values c.args.recordings.now in
        let old = state g.S.Store c.args.tx.now.conn.now in
        let one = state g.S.Store c.put_front.new.tx.conn.now in
        let two = state g.S.Store c.add_all.new.tx.conn.now in
        let three = state g.S.Store c.add_all-2.new.tx.conn.now in
        let four = state g.S.Store c.add_all-3.new.tx.conn.now in
        let last = derives_adds layout.recordings named three four c.add_all-3.result c.wrote-4.result recordings_derived c.add_all-3.ensures.written.says c.add_all-3.ensures.blamed c.wrote-4.ensures.done c.wrote-4.ensures.err in
        let third = derives_adds layout.versions told two three c.add_all-2.result (Ok tt) versions_derived c.add_all-2.ensures.written.says c.add_all-2.ensures.blamed c.in_ok-wrote-3.ensures.done tt in
        let second = derives_adds layout.verdicts judged one two c.add_all.result (Ok tt) verdicts_derived c.add_all.ensures.written.says c.add_all.ensures.blamed c.in_ok-wrote-2.ensures.done tt in
        let first = derives_puts layout.fronts front old one c.put_front.result (Ok tt) fronts_derived c.put_front.ensures.written.says c.put_front.ensures.blamed c.in_ok-wrote.ensures.done tt in
        let works = derives_then {X = Unit {0}} {Y = Unit {0}} Never Never Never two three four tt c.wrote-4.result (λ a b _. AddsRows layout.versions told a b) (λ a b _. AddsRows layout.recordings named a b) (λ a b _. AddsTold [] told named a b) third last
        (λ y p q adds more. works_of told named two.now.trees three.now.trees four.now.trees adds more) (λ p adds never. never) in
        let all = derives_then {X = Unit {0}} {Y = Unit {0}} Never Never Never one two four tt c.wrote-4.result (λ a b _. AddsRows layout.verdicts judged a b) (λ a b _. AddsTold [] told named a b) (λ a b _. AddsTold judged told named a b) second works
        (λ y p q adds more. told_of judged told named one.now.trees two.now.trees four.now.trees adds more) (λ p adds never. never) in
        derives_then {X = Unit {0}} {Y = Unit {0}} Never Never Never old one four tt c.wrote-4.result (λ a b _. PutsRow layout.fronts front a b) (λ a b _. AddsTold judged told named a b) (λ a b _. PutsLine front judged told named a b) first all
        (λ y p q puts more. puts_line_of front judged told named old.now.trees one.now.trees four.now.trees puts more) (λ p puts never. never);
  };
}
