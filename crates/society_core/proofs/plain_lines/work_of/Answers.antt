use Rattle.std.proofs.Common.{ap, slice_get, sym, ◌∙◌}
use Rattle.cwr_files.specs.Contents.{transactions_of}
use Rattle.cwr_files.specs.declared.transmission.Transmission.{Transmission}
use Rattle.society_core.specs.Book.{front}
use Rattle.society_core.proofs.lemmas.CreditLemmas.{version_there}
use Rattle.society_core.proofs.lemmas.Gaps.{version_in_line}
use Rattle.society_core.proofs.lemmas.LineNumbers.{in_line_of_to, there_in_line}
use Rattle.society_core.proofs.plain_lines.work_of.Goals as goal

pub transmission_of-requires-clause-there : goal.transmission_of-requires-clause-there
transmission_of-requires-clause-there c =
    let book = c.args.book.now in
    let sender = c.args.sender.now in
    let version = c.in-Some.version in
    let found = sym c.in_ok-version.ensures ∙ c.in-Some.is in
    there_in_line book sender version.transmission (in_line_of_to book sender (front book sender) version.transmission (version_in_line c.args.office.now book sender c.args.work.now (front book sender) version found))

pub unreachable-requires : goal.unreachable-requires
unreachable-requires c =
    let office = c.args.office.now in
    let book = c.args.book.now in
    let sender = c.args.sender.now in
    let version = c.in-Some.version in
    let found = sym c.in_ok-version.ensures ∙ c.in-Some.is in
    version_there office book sender c.args.work.now (front book sender) version found
    (ap (λ (t : Transmission). slice_get (transactions_of t) version.place) (sym c.in_ok-transmission.ensures) ∙ sym c.in_default-transaction.ensures)
