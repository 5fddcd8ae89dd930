use Rattle.std.proofs.Common.{None, Ok, sym, ◌∙◌}
use Rattle.society_book.proofs.lemmas.shown.QuestionLemmas.{asked_then, then_asked}
use Rattle.society_book.proofs.lemmas.shown.WorkRows.{no_work, work_shown}
use Rattle.society_book.proofs.works.work_of.Goals as goal

pub returns : goal.returns
returns g c =
    record {
      asked =
          let o = c.args.office.now in
          let s = c.args.sender.now in
          let w = c.args.work.now in
          asked_then _ _ _ _ c.work_of_version.result _ _ _ c.in_ok-version.ensures.asked c.work_of_version.ensures.asked
          (λ y found shown b holds. work_shown o b s w c.in-Some.version _ (sym c.in-Some.is ∙ found o b holds) (shown o b holds));
    }

pub returns-in_default : goal.returns-in_default
returns-in_default g c =
    record {
      asked =
          let o = c.args.office.now in
          let s = c.args.sender.now in
          let w = c.args.work.now in
          then_asked _ _ c.in_ok-version.field-0 (Ok None) _ _ c.in_ok-version.ensures.asked (λ found b holds. no_work o b s w (sym c.in_default.is ∙ found o b holds));
    }
