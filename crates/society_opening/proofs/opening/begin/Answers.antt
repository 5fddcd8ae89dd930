use Rattle.std.proofs.Common.{◌∙◌, ap, subst, sym}
use Rattle.society_opening.specs.Opening.{IsOutside, open_fault_by}
use Rattle.society_opening.proofs.lemmas.taking.WritingFaults.{outside_writing, told_writing}
use Rattle.society_opening.proofs.opening.begin.Goals as goal

pub returns-in-Err-clause-crash : goal.returns-in-Err-clause-crash
returns-in-Err-clause-crash g c = rw (c.from.ensures, c.from-2.ensures, c.name.ensures) at c.in-Err.ensures.crash

pub returns-in-Ok-clause-crash : goal.returns-in-Ok-clause-crash
returns-in-Ok-clause-crash g c = rw (c.from.ensures, c.from-2.ensures, c.name.ensures) at c.in-Ok.ensures.crash

pub returns-in-Err-clause-err : goal.returns-in-Err-clause-err
returns-in-Err-clause-err g c = subst IsOutside (sym (c.from-in-Err.ensures ∙ ap open_fault_by c.fault_of_writing.ensures.value)) (outside_writing c.in-Err.fault)

pub returns-in-Err-clause-medium : goal.returns-in-Err-clause-medium
returns-in-Err-clause-medium g c clean err =
    told_writing c.in-Err.fault (c.in-Err.ensures.blamed clean) (sym (c.from-in-Err.ensures ∙ ap open_fault_by c.fault_of_writing.ensures.value) ∙ err)
