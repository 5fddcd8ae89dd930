use Rattle.std.proofs.Common.{◌∙◌, ap}
use Rattle.std.proofs.lemmas.Result.{IfOk-weaker}
use Rattle.society_arguments.specs.CommandLine.{with_office}
use Rattle.society_arguments.proofs.command_line.credit_command.Goals as goal

pub returns : goal.returns
returns c =
    let begun = rw c.in_ok-command.was at c.over_database.ensures in
    IfOk-weaker c.with_office.result _ _ (λ r h. (h.0 ∙ ap with_office begun.0, h.1 ∙ begun.1)) c.with_office.ensures
