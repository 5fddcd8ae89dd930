use Rattle.std.proofs.Common.{rules}
use Rattle.sqlite.specs.Held.{state}
use Rattle.sqlite_trees.specs.Tree.{Trees}
use Rattle.society_book.specs.BookRows.{book_of}
use Rattle.society_book.specs.Kept.{HoldsOwnBook}
use Rattle.society_core.proofs.lemmas.Books.{sound_order}
use Rattle.book_audit.specs.Audited.{IsNumbered, IsRegistered}
use Rattle.book_audit.specs.Auditing.{AreLinesOf, AreSenders}
use Rattle.book_audit.specs.Examining.{HoldsNot}
use Rattle.society_book.proofs.lemmas.together.JudgedLemmas.{examines_not, examines_then}
use Rattle.book_audit.specs.OwnRows.{LacksOwn}
use Rattle.book_audit.specs.LineSteps.{FindsLines}
use Rattle.book_audit.specs.Paying.{CompletesBook, unpaid}
use Rattle.book_audit.proofs.lemmas.gathered.EntryBooks.{keeps_ends, keeps_entries, sound_entries}
use Rattle.book_audit.proofs.lemmas.gathered.EntrySenders.{senders_of_entries}
use Rattle.book_audit.proofs.lemmas.gathered.SenderLines.{all_fronts, all_recordings, all_verdicts, all_versions}
use Rattle.book_audit.proofs.auditing.audit.Goals as goal

pub returns-in_err-senders : goal.returns-in_err-senders
returns-in_err-senders g c = record {
  examined = record {
    same_reference = search rules;
    says =
        let old = state g.S.Store c.args.tx.now.conn.now in
        examines_not LacksOwn (HoldsNot c.args.office.now) old (state g.S.Store c.entries_in.new.tx.conn.now) c.in_err-senders.field-0.0 c.from_residual.result _ _ c.in_err-senders.ensures.examined.says c.from_residual.ensures.1
        (λ lacks holds. lacks (book_of old.now.trees) (record { sound = holds.sound; kept = holds.kept }));
  };
}

pub returns-in_err-lines_agree : goal.returns-in_err-lines_agree
returns-in_err-lines_agree g c = record {
  examined = record {
    same_reference = search rules;
    says =
        let old = state g.S.Store c.args.tx.now.conn.now in
        let mid = state g.S.Store c.entries_in.new.tx.conn.now in
        let new = state g.S.Store c.lines_agree.new.tx.conn.now in
        let db = old.now.trees in
        let o = c.args.office.now in
        let senders = c.in_ok-senders.senders.items in
        let Wrong : Trees → Type 0 = λ db. AreSenders (book_of db) senders → HoldsNot o db in
        let r = c.from_residual-in_err-lines_agree.result in
        examines_then LacksOwn Wrong (HoldsNot o) old mid new c.in_ok-senders.senders r _ (λ db (done : Unit {0}). IsRegistered o db → IsNumbered db → HoldsOwnBook o db) _ c.in_ok-senders.ensures.examined.says
        (examines_not Wrong Wrong mid new c.in_err-lines_agree.field-0.0 r _ _ (rw c.as_slice.ensures.value at c.in_err-lines_agree.ensures.examined.says) c.from_residual-in_err-lines_agree.ensures.1 (λ wrong. wrong))
        (λ done entries found. found)
        (λ entries wrong. wrong (senders_of_entries senders db entries.0));
  };
}

pub returns : goal.returns
returns g c = record {
  examined = record {
    same_reference = search rules;
    says =
        let old = state g.S.Store c.args.tx.now.conn.now in
        let one = state g.S.Store c.entries_in.new.tx.conn.now in
        let two = state g.S.Store c.lines_agree.new.tx.conn.now in
        let new = state g.S.Store c.money_agrees.new.tx.conn.now in
        let db = old.now.trees in
        let o = c.args.office.now in
        let senders = c.in_ok-senders.senders.items in
        let Wrong : Trees → Type 0 = λ db. AreSenders (book_of db) senders → HoldsNot o db in
        examines_then LacksOwn (HoldsNot o) (HoldsNot o) old one new c.in_ok-senders.senders c.money_agrees.result _ (λ db (done : Unit {0}). FindsLines o senders db × AreLinesOf senders db × CompletesBook o db) _ c.in_ok-senders.ensures.examined.says
        (examines_then Wrong (HoldsNot o) (HoldsNot o) one two new tt c.money_agrees.result _ (λ db (done : Unit {0}). CompletesBook o db) _ (rw c.as_slice.ensures.value at c.in_ok-lines_agree.ensures.examined.says) c.money_agrees.ensures.examined.says
        (λ done lines completes. (lines.0, lines.1, completes)) (λ lines wrong. wrong))
        (λ done entries found registered numbered.
        let b = book_of db in
        let kept = keeps_entries senders db entries.0 in
        let ends = keeps_ends senders db entries.0 in
        let sound = sound_entries senders db entries.0 entries.1 in
        let these = senders_of_entries senders db entries.0 in
        let lines = found.0 b (record { transmissions = kept.transmissions; ends = ends }) (λ s. sound_order (unpaid b) sound s) in
        found.2 (record {
          registered = registered;
          sound = sound;
          bodies = kept;
          ends = ends;
          fronts = all_fronts o b senders db these lines found.1;
          verdicts = all_verdicts o b senders db these lines found.1;
          versions = all_versions o b senders db these lines found.1;
          recordings = all_recordings o b senders db these lines found.1;
          numbered = numbered;
        }))
        (λ entries wrong. wrong);
  };
}
