use Rattle.std.proofs.Common.{sym, ap, ◌∙◌}
use Rattle.cwr_files.specs.Transaction.{first_work, submitter_number}
use Rattle.works_core.specs.Line.{judged_by}
use Rattle.works_core.specs.declared.judged.Judged.TheVariants.{Clean}
use Rattle.works_core.proofs.lemmas.CleanLemmas.{clean_has_number, number_there, number_filled}
use Rattle.works_core.proofs.sender_line.judge_transaction.Goals as goal

pub unreachable-requires : goal.unreachable-requires
unreachable-requires c =
    let clean = sym c.judge.ensures ∙ c.in-None.is in
    number_there c.args.transaction.now (clean_has_number c.args.office.now c.args.transaction.now clean) (sym c.work_number.ensures ∙ c.in-None-work_number.is)

pub returns-in-Some-work_number : goal.returns-in-Some-work_number
returns-in-Some-work_number c =
    let t = c.args.transaction.now in
    let clean = sym c.judge.ensures ∙ c.in-None.is in
    let number = number_filled (submitter_number (first_work t.records)) c.in-Some-work_number.work (sym c.work_number.ensures ∙ c.in-Some-work_number.is) in
    ap (Clean t.kind) number ∙ ap (judged_by t.kind _) (sym clean)
