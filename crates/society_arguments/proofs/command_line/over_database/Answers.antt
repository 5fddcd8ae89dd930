use Rattle.std.proofs.Common.{◌≡◌, ◌∙◌, ap, codes, false}
use Rattle.std.proofs.lemmas.Result.{IfOk-weaker}
use Rattle.clap.specs.Simple.{app_of, app_of_fields, new_app, with_rule}
use Rattle.clap.specs.Walk.{rule_of}
use Rattle.clap.specs.declared.builder.command.Command.TheViews.{out-Command}
use Rattle.society_arguments.specs.CommandLine.{required_option}
use Rattle.society_arguments.proofs.lemmas.OptionLemmas.{one_more}
use Rattle.society_arguments.proofs.command_line.over_database.Goals as goal

pub returns : goal.returns
returns c =
    let database_is : rule_of c.help-database.result ≡ required_option (codes "db") = ap rule_of c.help-database.ensures ∙ c.required_option.ensures.rule in
    let named : app_of c.about.result ≡ new_app c.args.name.now = ap app_of_fields c.about.ensures ∙ c.new.ensures.app in
    let bare : (out-Command c.about.result).has_globals ≡ false = ap (λ f. f.has_globals) c.about.ensures ∙ c.new.ensures.local in
    let added = one_more c.about.result c.help-database.result (required_option (codes "db")) c.arg.result c.arg.ensures database_is (ap (λ a. a.global) c.help-database.ensures ∙ c.required_option.ensures.local) in
    IfOk-weaker c.arg.result _ _ (λ r h. (h.0 ∙ ap (λ a. with_rule a (required_option (codes "db"))) named, h.1 ∙ bare)) added
