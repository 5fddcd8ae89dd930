use Rattle.std.proofs.Common.{◌≡◌, ◌∙◌, ap, ap₂, codes, true}
use Rattle.std.proofs.lemmas.Result.{IfOk-weaker}
use Rattle.clap.specs.Simple.{App, app_of, app_of_fields, new_app, on_top, with_subcommand}
use Rattle.society_arguments.proofs.command_line.command_line.Goals as goal

pub returns : goal.returns
returns c =
    let about : app_of c.about.result ≡ new_app (codes "society") = ap app_of_fields c.about.ensures ∙ c.new.ensures.app in
    let required : app_of c.subcommand_required.result ≡ on_top (λ s. record s { subcommand_required = true }) (app_of c.about.result) = ap app_of_fields c.subcommand_required.ensures in
    let top : app_of c.disable_help_subcommand.result ≡ on_top (λ s. record s { disable_help_subcommand = true }) (app_of c.subcommand_required.result) = ap app_of_fields c.disable_help_subcommand.ensures in
    let begun = top ∙ ap (on_top (λ s. record s { disable_help_subcommand = true })) (required ∙ ap (on_top (λ s. record s { subcommand_required = true })) about) in
    let first = c.in_ok-subcommand.ensures.shape c.in_ok-replay_command.ensures.1 ∙ ap₂ with_subcommand begun (ap (λ (a : App). a.top) c.in_ok-replay_command.ensures.0) in
    let second = c.in_ok-subcommand-2.ensures.shape c.in_ok-serve_command.ensures.1 ∙ ap₂ with_subcommand first (ap (λ (a : App). a.top) c.in_ok-serve_command.ensures.0) in
    let third = c.in_ok-subcommand-3.ensures.shape c.in_ok-audit_command.ensures.1 ∙ ap₂ with_subcommand second (ap (λ (a : App). a.top) c.in_ok-audit_command.ensures.0) in
    IfOk-weaker c.subcommand-4.result _ _
    (λ r h. h.shape c.in_ok-credit_command.ensures.1 ∙ ap₂ with_subcommand third (ap (λ (a : App). a.top) c.in_ok-credit_command.ensures.0)) c.subcommand-4.ensures
