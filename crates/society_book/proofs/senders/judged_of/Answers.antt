use Rattle.std.proofs.Common.{Ok, Some, cond, subst, sym, []}
use Rattle.society_core.specs.Book.{is_in_line, verdicts_in}
use Rattle.society_book.specs.Shown.{ShowVerdicts}
use Rattle.society_book.proofs.lemmas.shown.QuestionLemmas.{then_asked}
use Rattle.society_book.proofs.lemmas.shown.VerdictRows.{shown_in_line, verdicts_back, verdicts_found}
use Rattle.society_book.proofs.senders.judged_of.Goals as goal

pub returns : goal.returns
returns g c =
    let s = c.args.sender.now in
    let n = c.args.number in
    let list = c.in_ok-list.list.items in
    record {
      asked =
          then_asked _ _ _ (Ok (Some c.in_ok-list.list)) _ _ (rw c.value.ensures.value at c.in_ok-rows.ensures.asked)
          (λ lists o b holds at. shown_in_line o b s n list
          (verdicts_back (cond (is_in_line b s n) (verdicts_in o b s n) []) list _ (subst (ShowVerdicts _) (sym c.as_slice.ensures.value) (verdicts_found o b _ holds s n _ lists)) c.in_ok-list.ensures) at);
    }
