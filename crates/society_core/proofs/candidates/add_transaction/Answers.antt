use Rattle.std.proofs.Common.{◌≡◌, ◌∙◌, Bool, true, OnOk, ap, subst, sym}
use Rattle.cwr_files.specs.Transaction.{number_of_work}
use Rattle.society_core.specs.Candidates.{AddsWorks, is_version_by, work_where}
use Rattle.society_core.specs.Points.{is_tallied}
use Rattle.society_core.specs.Pools.{holders_of}
use Rattle.society_core.proofs.lemmas.CandidateLemmas.{as_numbered, number_read}
use Rattle.society_core.proofs.candidates.add_transaction.Goals as goal

pub returns : goal.returns
returns c =
    let t = c.args.transaction.now in
    let numbered = number_read (number_of_work t) c.in-Some.work (sym c.in-Some.is ∙ c.work_number.ensures) in
    let is_version : is_version_by c.args.line.now.transmissions c.args.key.now.number c.args.number c.args.place (number_of_work t) ≡ true =
    ap (is_version_by c.args.line.now.transmissions c.args.key.now.number c.args.number c.args.place) numbered ∙ sym c.is_version_at.ensures ∙ c.if-not-is_version_at.false in
    subst
    (λ (b : Bool). OnOk c.add_candidates.result (AddsWorks c.args.weighing.now (work_where b c.args.key.now.sender t) c.args.candidates.now.items c.add_candidates.new.candidates.items))
    (sym is_version)
    (as_numbered (holders_of c.args.weighing.now.kind c.args.weighing.now.office.now) (is_tallied c.args.weighing.now.tally.now) c.args.key.now.sender c.in-Some.work t c.args.candidates.now.items c.add_candidates.new.candidates.items c.add_candidates.result numbered c.add_candidates.ensures)
