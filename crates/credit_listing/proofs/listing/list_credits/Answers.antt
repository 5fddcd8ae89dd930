use Rattle.std.proofs.Common.{◌≡◌, ◌∙◌, ◌+◌, ◌++◌, ◌∷◌, [], Err, Ok, arith, false, length, refl, rules, subst, sym, take, true, ℕ, List}
use Rattle.std.specs.Prelude.{◌&&◌}
use Rattle.std.proofs.lemmas.List.{length-append}
use Rattle.std.specs.Io.KnownBytes.{Appends}
use Rattle.http_desk.specs.declared.counted.Counted.{Counted}
use Rattle.http_desk.specs.Counted.{failures_of, inner_of}
use Rattle.http_desk.specs.declared.fault.FaultKind.{FaultKind}
use Rattle.sqlite.specs.Held.{state}
use Rattle.society_book.proofs.lemmas.together.StepLemmas.{looks_as, looks_then, nothing}
use Rattle.credit_listing.specs.Answered.{AnswersLine, EndsListing, HasWayFailed, ListsCredits, TellsAnswer, TellsLines}
use Rattle.credit_listing.specs.Lines.{AreRead, AreTaken, IsReadFault}
use Rattle.credit_listing.proofs.lemmas.AnsweredLemmas.{tells_more}
use Rattle.credit_listing.proofs.lemmas.BreakLemmas.{broke_at, broke_early, failed_reading, failed_writing, no_memory_read, no_turns_read, no_write_fault_read, no_write_read}
use Rattle.credit_listing.proofs.lemmas.FeedLemmas.{all_read, comes_none, taken_last, taken_line}
use Rattle.credit_listing.proofs.listing.list_credits.Goals as goal

pub returns-then-line-eq0-clause-looks : goal.returns-then-line-eq0-clause-looks
returns-then-line-eq0-clause-looks g c =
    let line = c.in-Ok-next_line.line in
    let none : line.length ≡ 0 = search rules in
    record {
      same_reference = search rules;
      says =
          looks_as (state g.S.Store c.args.tx.now.conn.now) (state g.S.Store c.loop-done.tx.conn.now) tt (Ok (Ok c.loop-done.all)) _ _ c.loop-done.invariant.looks
          (λ it. record {
            lines = it.0;
            read = all_read g.R.Read.remaining c.args.reader.now c.loop-done.reader c.next_line.new.reader c.loop-done.input c.next_line.new.input it.0 line.length line.is_last it.3 c.in-Ok-next_line.ensures.came none c.in-Ok-next_line.ensures.line c.in-Ok-next_line.ensures.ended;
            begun = c.write_all.new.self;
            columns = subst (Appends (g.W.Write.contents (inner_of c.args.out.now)) (g.W.Write.contents (inner_of c.write_all.new.self))) (c.deref.ensures.value ∙ c.in-Ok-Ok.ensures) c.in-Ok.ensures.wrote;
            told = it.2;
            rows = c.loop-done.invariant.quiet;
          });
    }

pub returns-then-line-clause-looks : goal.returns-then-line-clause-looks
returns-then-line-clause-looks g c =
    let office = c.args.office.now in
    let old = state g.S.Store c.args.tx.now.conn.now in
    let mid = state g.S.Store c.loop-done.tx.conn.now in
    let new = state g.S.Store c.answer_line.new.tx.conn.now in
    let answer = c.in_ok-answer.answer in
    let next = c.in-Ok-next_line.line in
    let line = take next.length c.unread.result.now in
    let all = c.loop-done.all && c.in-Ok-write_answer.rows in
    let last : next.is_last ≡ true = search rules in
    let quiet : all ≡ true → c.write_answer.new.err ≡ c.args.err.now = search rules in
    record {
      same_reference = search rules;
      says =
          looks_then old mid new tt (Ok (Ok all)) _ (λ db ended. AnswersLine office line db answer × (ended ≡ Ok all)) _ c.loop-done.invariant.looks
          (looks_as mid new answer (Ok (Ok all)) _ (λ db ended. AnswersLine office line db answer × (ended ≡ Ok all)) c.in_ok-answer.ensures.looks.says (λ is. (is, refl)))
          (λ _ before both.
          let number : c.loop-done.done + 1 ≡ 1 + length before.0 = (let e = before.1 in omega (arith, e)) in
          let listed : ListsCredits office g.R.Read.remaining g.W.Write.contents g.E.Write.contents c.args.reader.now c.next_line.new.reader c.args.out.now c.write_answer.new.out c.args.err.now c.write_answer.new.err old.now.trees all =
          record {
            lines = before.0 ++ line ∷ [];
            read =
                subst (λ (u : List ℕ). AreRead g.R.Read.remaining c.args.reader.now c.next_line.new.reader (before.0 ++ take next.length u ∷ [])) (sym c.unread.ensures)
                (taken_last g.R.Read.remaining c.args.reader.now c.loop-done.reader c.next_line.new.reader c.loop-done.input c.next_line.new.input c.take.new.self before.0 next.length next.is_last before.3 c.in-Ok-next_line.ensures.came last c.in-Ok-next_line.ensures.line c.take.ensures.bytes
                (c.in-Ok-next_line.ensures.ended last).0 (c.in-Ok-next_line.ensures.ended last).1);
            begun = c.write_all.new.self;
            columns = subst (Appends (g.W.Write.contents (inner_of c.args.out.now)) (g.W.Write.contents (inner_of c.write_all.new.self))) (c.deref.ensures.value ∙ c.in-Ok-Ok.ensures) c.in-Ok.ensures.wrote;
            told =
                rw c.in-Ok-write_answer.ensures.rows (tells_more office old.now.trees g.W.Write.contents g.E.Write.contents 1 before.0 line c.loop-done.all answer c.write_all.new.self c.loop-done.out c.write_answer.new.out c.args.err.now c.loop-done.err c.write_answer.new.err before.2 both.0
                (subst (λ (n : ℕ). TellsAnswer g.W.Write.contents c.loop-done.out c.write_answer.new.out g.E.Write.contents c.loop-done.err c.write_answer.new.err n answer) number c.in-Ok-write_answer.ensures.tells));
            rows = quiet;
          } in
          subst (EndsListing office g.R.Read.remaining g.W.Write.contents g.E.Write.contents c.args.reader.now c.next_line.new.reader c.args.out.now c.write_answer.new.out c.args.err.now c.write_answer.new.err old.now.trees) (sym both.1) listed);
    }

pub loop-done-preserved : goal.loop-done-preserved
loop-done-preserved g c = record {
  same_reference = search rules;
  looks =
      let office = c.args.office.now in
      let old = state g.S.Store c.args.tx.now.conn.now in
      let mid = state g.S.Store c.loop-done.tx.conn.now in
      let new = state g.S.Store c.answer_line.new.tx.conn.now in
      let answer = c.in_ok-answer.answer in
      let got = c.in-Ok-next_line.line in
      let line = take got.length c.unread.result.now in
      let more : got.is_last ≡ false = search rules in
      let told = c.in-Ok-write_answer.ensures.tells in
      looks_then old mid new tt (Ok tt) _ (λ db _. AnswersLine office line db answer) _ c.loop-done.invariant.looks
      (looks_as mid new answer (Ok tt) _ (λ db _. AnswersLine office line db answer) c.in_ok-answer.ensures.looks.says (λ is. is))
      (λ _ before is.
      let next : c.loop-done.done + 1 ≡ 1 + length before.0 = (let e = before.1 in omega (arith, e)) in (
        before.0 ++ line ∷ [],
        (let e = before.1 in omega (arith, length-append before.0 (line ∷ []), e)),
        rw c.in-Ok-write_answer.ensures.rows (tells_more office old.now.trees g.W.Write.contents g.E.Write.contents 1 before.0 line c.loop-done.all answer c.write_all.new.self c.loop-done.out c.write_answer.new.out c.args.err.now c.loop-done.err c.write_answer.new.err before.2 is
            (subst (λ (n : ℕ). TellsAnswer g.W.Write.contents c.loop-done.out c.write_answer.new.out g.E.Write.contents c.loop-done.err c.write_answer.new.err n answer) next told)),
        subst (λ (u : List ℕ). AreTaken g.R.Read.remaining c.args.reader.now c.next_line.new.reader c.take.new.self (before.0 ++ take got.length u ∷ [])) (sym c.unread.ensures)
            (taken_line g.R.Read.remaining c.args.reader.now c.loop-done.reader c.next_line.new.reader c.loop-done.input c.next_line.new.input c.take.new.self before.0 got.length got.is_last before.3 c.in-Ok-next_line.ensures.came more c.in-Ok-next_line.ensures.line c.take.ensures.bytes),
      ));
  quiet = search rules;
  reads = c.in-Ok-next_line.ensures.kept ∙ c.loop-done.invariant.reads;
  writes = c.in-Ok-write_answer.ensures.kept ∙ c.loop-done.invariant.writes;
}

pub returns-in_default-clause-looks : goal.returns-in_default-clause-looks
returns-in_default-clause-looks g c = record {
  same_reference = search rules;
  says =
      nothing (state g.S.Store c.args.tx.now.conn.now) (Ok (Err c.broken.result)) _
      (broke_early c.args.office.now g.R.Read.remaining g.W.Write.contents g.E.Write.contents (state g.S.Store c.args.tx.now.conn.now).now.trees c.args.reader.now c.args.out.now c.args.out.now c.args.err.now c.broken.result c.broken.ensures.1
      (no_memory_read c.broken.result.kind c.broken.ensures.0)
      (subst (λ (k : FaultKind). HasWayFailed k (failures_of c.args.reader.now) (failures_of c.args.reader.now) (failures_of c.args.out.now) (failures_of c.args.out.now)) (sym c.broken.ensures.0) tt));
}

pub returns-in_default-write_all-clause-looks : goal.returns-in_default-write_all-clause-looks
returns-in_default-write_all-clause-looks g c =
    let told = c.broken-in_default-write_all in
    record {
      same_reference = search rules;
      says =
          nothing (state g.S.Store c.args.tx.now.conn.now) (Ok (Err told.result)) _
          (broke_early c.args.office.now g.R.Read.remaining g.W.Write.contents g.E.Write.contents (state g.S.Store c.args.tx.now.conn.now).now.trees c.args.reader.now c.args.out.now c.write_all.new.self c.args.err.now told.result told.ensures.1
          (no_write_read told.result.kind told.ensures.0)
          (subst (λ (k : FaultKind). HasWayFailed k (failures_of c.args.reader.now) (failures_of c.args.reader.now) (failures_of c.args.out.now) (failures_of c.write_all.new.self)) (sym told.ensures.0) c.in_default-write_all.ensures.err));
    }

pub returns-in-Err-clause-looks : goal.returns-in-Err-clause-looks
returns-in-Err-clause-looks g c =
    let told = c.broken-in-Err in
    record {
      same_reference = search rules;
      says =
          looks_as (state g.S.Store c.args.tx.now.conn.now) (state g.S.Store c.loop-done.tx.conn.now) tt (Ok (Err told.result)) _ _ c.loop-done.invariant.looks
          (λ it. broke_at c.args.office.now g.R.Read.remaining g.W.Write.contents g.E.Write.contents (state g.S.Store c.args.tx.now.conn.now).now.trees c.args.reader.now c.loop-done.reader c.next_line.new.reader c.args.out.now c.write_all.new.self c.loop-done.out c.loop-done.out
          c.args.err.now c.loop-done.err c.loop-done.input c.next_line.new.input it.0 c.loop-done.all told.result (told.ensures.1 ∙ sym it.1) it.3 c.in-Err.ensures.came it.2
          (λ _. (subst (Appends (g.W.Write.contents (inner_of c.args.out.now)) (g.W.Write.contents (inner_of c.write_all.new.self))) (c.deref.ensures.value ∙ c.in-Ok-Ok.ensures) c.in-Ok.ensures.wrote, refl))
          (subst (λ (k : FaultKind). HasWayFailed k (failures_of c.args.reader.now) (failures_of c.next_line.new.reader) (failures_of c.args.out.now) (failures_of c.loop-done.out)) (sym told.ensures.0)
          (failed_reading c.in-Err.kind (failures_of c.args.reader.now) (failures_of c.next_line.new.reader) (failures_of c.args.out.now) (failures_of c.loop-done.out)
          (subst (λ (n : ℕ). IsReadFault c.in-Err.kind n (failures_of c.next_line.new.reader)) c.loop-done.invariant.reads c.in-Err.ensures.failed))));
    }

pub returns-in-Err-write_answer-clause-looks : goal.returns-in-Err-write_answer-clause-looks
returns-in-Err-write_answer-clause-looks g c =
    let told = c.broken-in-Err-write_answer in
    let kind = c.in-Err-write_answer.kind in
    let failed = c.in-Err-write_answer.ensures.failed in
    let old = state g.S.Store c.args.tx.now.conn.now in
    let mid = state g.S.Store c.loop-done.tx.conn.now in
    let new = state g.S.Store c.answer_line.new.tx.conn.now in
    let db = old.now.trees in
    record {
      same_reference = search rules;
      says =
          looks_then old mid new tt (Ok (Err told.result)) _ (λ _ ended. ended ≡ Err told.result) _ c.loop-done.invariant.looks
          (looks_as mid new c.in_ok-answer.answer (Ok (Err told.result)) _ (λ _ ended. ended ≡ Err told.result) c.in_ok-answer.ensures.looks.says (λ _. refl))
          (λ _ it is. subst (EndsListing c.args.office.now g.R.Read.remaining g.W.Write.contents g.E.Write.contents c.args.reader.now c.next_line.new.reader c.args.out.now c.write_answer.new.out c.args.err.now c.write_answer.new.err db) (sym is)
          (broke_at c.args.office.now g.R.Read.remaining g.W.Write.contents g.E.Write.contents db c.args.reader.now c.loop-done.reader c.next_line.new.reader c.args.out.now c.write_all.new.self c.loop-done.out c.write_answer.new.out
          c.args.err.now c.write_answer.new.err c.loop-done.input c.next_line.new.input it.0 c.loop-done.all told.result (told.ensures.1 ∙ sym it.1) it.3 c.in-Ok-next_line.ensures.came
          (subst (λ (e : Counted g.row.E.Denot). TellsLines c.args.office.now db g.W.Write.contents g.E.Write.contents 1 it.0 c.loop-done.all c.write_all.new.self c.loop-done.out c.args.err.now e) (sym failed.1) it.2)
          (λ read. absurd (no_write_fault_read kind c.loop-done.out c.write_answer.new.out failed.0 (sym told.ensures.0 ∙ read)))
          (subst (λ (k : FaultKind). HasWayFailed k (failures_of c.args.reader.now) (failures_of c.next_line.new.reader) (failures_of c.args.out.now) (failures_of c.write_answer.new.out)) (sym told.ensures.0)
          (failed_writing kind c.loop-done.out c.write_answer.new.out (failures_of c.args.reader.now) (failures_of c.next_line.new.reader) (failures_of c.args.out.now) c.loop-done.invariant.writes failed.0))));
    }

pub returns-clause-looks : goal.returns-clause-looks
returns-clause-looks g c =
    let told = c.broken-2 in
    record {
      same_reference = search rules;
      says =
          looks_as (state g.S.Store c.args.tx.now.conn.now) (state g.S.Store c.loop-done.tx.conn.now) tt (Ok (Err told.result)) _ _ c.loop-done.invariant.looks
          (λ it. broke_at c.args.office.now g.R.Read.remaining g.W.Write.contents g.E.Write.contents (state g.S.Store c.args.tx.now.conn.now).now.trees c.args.reader.now c.loop-done.reader c.loop-done.reader c.args.out.now c.write_all.new.self c.loop-done.out c.loop-done.out
          c.args.err.now c.loop-done.err c.loop-done.input c.loop-done.input it.0 c.loop-done.all told.result (let e = it.1 in omega (arith, told.ensures.1, e, c.loop-done-test.false, c.loop-done.auto.done-end)) it.3 (comes_none g.R.Read.remaining c.loop-done.reader c.loop-done.input) it.2
          (λ read. absurd (no_turns_read told.result.kind told.ensures.0 read))
          (subst (λ (k : FaultKind). HasWayFailed k (failures_of c.args.reader.now) (failures_of c.loop-done.reader) (failures_of c.args.out.now) (failures_of c.loop-done.out)) (sym told.ensures.0) tt));
    }
