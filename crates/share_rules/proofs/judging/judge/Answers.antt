use Rattle.std.proofs.Common.{sym, ◌∙◌}
use Rattle.share_rules.proofs.lemmas.First.{wrong_ipi_is_first, wrong_party_number_is_first}
use Rattle.share_rules.proofs.judging.judge.Goals as goal

pub returns-then-have_wrong_ipi : goal.returns-then-have_wrong_ipi
returns-then-have_wrong_ipi c =
    wrong_ipi_is_first c.args.office.now c.args.transaction.now c.as_slice-records.result.now c.as_slice-records.ensures
    (sym c.has_blank_title.ensures ∙ c.if-has_blank_title.false)
    (sym c.has_no_work_number.ensures ∙ c.if-has_no_work_number.false)
    (sym c.has_wrong_iswc.ensures ∙ c.if-has_wrong_iswc.false)
    (sym c.have_wrong_share.ensures ∙ c.if-have_wrong_share.false)
    (sym c.owns_too_much.ensures ∙ c.if-owns_too_much.false)
    (sym c.has_row_without_party.ensures ∙ c.if-has_row_without_party.false)
    (sym c.have_no_publisher.ensures ∙ c.if-have_no_publisher.false)
    (sym c.collects_too_much.ensures ∙ c.if-collects_too_much.false)
    (sym c.have_wrong_ipi.ensures ∙ c.if-have_wrong_ipi.true)

pub returns-then-have_wrong_number : goal.returns-then-have_wrong_number
returns-then-have_wrong_number c =
    wrong_party_number_is_first c.args.office.now c.args.transaction.now c.as_slice-records.result.now c.as_slice-records.ensures
    (sym c.has_blank_title.ensures ∙ c.if-has_blank_title.false)
    (sym c.has_no_work_number.ensures ∙ c.if-has_no_work_number.false)
    (sym c.has_wrong_iswc.ensures ∙ c.if-has_wrong_iswc.false)
    (sym c.have_wrong_share.ensures ∙ c.if-have_wrong_share.false)
    (sym c.owns_too_much.ensures ∙ c.if-owns_too_much.false)
    (sym c.has_row_without_party.ensures ∙ c.if-has_row_without_party.false)
    (sym c.have_no_publisher.ensures ∙ c.if-have_no_publisher.false)
    (sym c.collects_too_much.ensures ∙ c.if-collects_too_much.false)
    (sym c.have_wrong_ipi.ensures ∙ c.if-have_wrong_ipi.false)
    (sym c.have_wrong_isrc.ensures ∙ c.if-have_wrong_isrc.false)
    (sym c.have_wrong_number.ensures ∙ c.if-have_wrong_number.true)
