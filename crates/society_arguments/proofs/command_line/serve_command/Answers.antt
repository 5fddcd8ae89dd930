use Rattle.std.proofs.Common.{◌≡◌, ◌∙◌, ap, codes}
use Rattle.std.proofs.lemmas.Result.{IfOk-weaker}
use Rattle.clap.specs.Simple.{with_rule}
use Rattle.clap.specs.Walk.{rule_of}
use Rattle.society_arguments.specs.CommandLine.{flag, with_office, with_patience, with_place}
use Rattle.society_arguments.proofs.lemmas.OptionLemmas.{one_more}
use Rattle.society_arguments.proofs.command_line.serve_command.Goals as goal

pub returns : goal.returns
returns c =
    let begun = rw c.in_ok-command.was at c.over_database.ensures in
    let existing_is : rule_of c.help-existing.result ≡ flag (codes "existing") = ap rule_of c.help-existing.ensures ∙ c.flag.ensures.rule in
    let added = one_more c.in_ok-command.command c.help-existing.result (flag (codes "existing")) c.arg.result c.arg.ensures existing_is (ap (λ a. a.global) c.help-existing.ensures ∙ c.flag.ensures.local) in
    let added_is = rw c.in_ok-arg.was at added in
    let placed_is = rw c.in_ok-command-2.was at c.with_place.ensures in
    let patient_is = rw c.in_ok-with_patience.was at c.with_patience.ensures in
    IfOk-weaker c.with_office.result _ _ (λ r h. (
      h.0 ∙ ap with_office (patient_is.0 ∙ ap with_patience (placed_is.0 ∙ ap with_place (added_is.0 ∙ ap (λ a. with_rule a (flag (codes "existing"))) begun.0))),
      h.1 ∙ (patient_is.1 ∙ (placed_is.1 ∙ (added_is.1 ∙ begun.1))),
    )) c.with_office.ensures
