use Rattle.std.proofs.Common.{◌∙◌, Ok, subst, sym, rules}
use Rattle.sqlite.specs.Held.{state}
use Rattle.society_core.specs.Book.{front, version_in}
use Rattle.society_book.specs.DerivedRows.{line_at_front}
use Rattle.society_book.specs.Shown.{ShowVersion}
use Rattle.society_book.proofs.lemmas.lines.LineRows.{back_by, front_version, version_shows}
use Rattle.society_book.proofs.lemmas.together.StepLemmas.{looks_as, looks_of}
use Rattle.society_arrivals.proofs.settling.learn_work.Goals as goal

pub returns : goal.returns
returns g c = record {
  looks = record {
    same_reference = search rules;
    says =
        let s = c.args.sender.now in
        let w = c.args.work.now in
        let old = state g.S.Store c.args.tx.now.conn.now in
        let new = state g.S.Store c.answer.new.tx.conn.now in
        let back = back_by w c.as_bytes-2.result.now c.as_bytes-2.ensures.bytes c.as_bytes-2.ensures.back in
        looks_as old new _ (Ok tt) _ _ (looks_of old new (Ok _) _ (rw (c.as_bytes.ensures.bytes, c.as_bytes-2.ensures.bytes) at c.in_ok-rows.ensures.read.says))
        (λ first o b known holds at. c.in_ok-learn.ensures known (line_at_front o b s) at
        (c.in_ok-last.ensures (version_in o b s w (front b s))
        (subst (ShowVersion (version_in o b s w (front b s))) (sym c.as_slice.ensures.value) (version_shows o b _ holds s w back _ first))
        ∙ sym (front_version o b s w)));
  };
}
