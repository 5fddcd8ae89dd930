use Rattle.std.proofs.Common.{◌≡◌, Some, subst}
use Rattle.std.proofs.Common.{List, ℕ}
use Rattle.work_ids.specs.SpelledNumber.{dated_in_text}
use Rattle.work_ids.specs.declared.spelled_number.SpelledNumber.TheVariants.{Dated}
use Rattle.work_ids.proofs.lemmas.DatedTexts.{dated_read_back, text_written}
use Rattle.work_ids.proofs.spelled_number.dated_text.Goals as goal

pub returns-clause-back : goal.returns-clause-back
returns-clause-back c y s =
    let text = text_written c.last_digits-year.result c.last_digits-sequence.result c.args.year c.args.sequence (cc) (cc) in
    subst (λ (t : List ℕ). dated_in_text t ≡ Some (Dated c.args.year c.args.sequence)) text (dated_read_back c.args.year c.args.sequence y s)
