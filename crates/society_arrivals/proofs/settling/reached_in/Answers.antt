use Rattle.std.proofs.Common.{Ok, subst, sym, rules}
use Rattle.sqlite.specs.Held.{state}
use Rattle.society_core.specs.Book.{front}
use Rattle.society_book.specs.DerivedRows.{works_to}
use Rattle.society_arrivals.specs.Arrivals.{HasReached, ShowReached}
use Rattle.society_arrivals.proofs.lemmas.ReachedRows.{reached_found}
use Rattle.society_book.proofs.lemmas.shown.QuestionLemmas.{by_book}
use Rattle.society_book.proofs.lemmas.together.StepLemmas.{looks_as, looks_of, on_ok}
use Rattle.society_arrivals.proofs.settling.reached_in.Goals as goal

pub returns : goal.returns
returns g c = record {
  looks = record {
    same_reference = search rules;
    says =
        let old = state g.S.Store c.args.tx.now.conn.now in
        let new = state g.S.Store c.answer.new.tx.conn.now in
        record {
          does = looks_as old new _ c.shown_reached.result _ _ (looks_of old new (Ok _) _ c.in_ok-rows.ensures.read.says)
              (λ lists. by_book (λ office book reached. HasReached office book c.args.sender.now reached.front reached.works) _ c.shown_reached.result (λ o b holds. c.shown_reached.ensures (front b c.args.sender.now) (works_to o b c.args.sender.now)
              (subst (ShowReached (front b c.args.sender.now) (works_to o b c.args.sender.now)) (sym c.as_slice.ensures.value) (reached_found o b _ holds c.args.sender.now _ lists))));
          answered = λ clean inside. on_ok c.shown_reached.result (c.in_ok-rows.ensures.read.says.was_open clean);
        };
  };
}
