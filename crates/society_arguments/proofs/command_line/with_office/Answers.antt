use Rattle.std.proofs.Common.{rules, ◌≡◌, ◌∙◌, ap, codes, pos}
use Rattle.std.proofs.lemmas.Result.{IfOk-weaker}
use Rattle.clap.specs.Simple.{with_rule}
use Rattle.clap.specs.Walk.{rule_of}
use Rattle.clap.specs.declared.builder.value_parser.ValueParser.TheVariants as parser
use Rattle.society_arguments.specs.CommandLine.{number_option, required_option}
use Rattle.society_arguments.proofs.lemmas.OptionLemmas.{numbered, one_more}
use Rattle.society_arguments.proofs.command_line.with_office.Goals as goal

pub returns : goal.returns
returns c =
    let within : c.range.result ≡ parser.Signed (pos 1) (pos 999) = rw (c.value_parser.ensures, c.new.ensures.start, c.new.ensures.end) at c.range.ensures in
    let within-2 : c.range-2.result ≡ parser.Signed (pos 1) (pos 9999) = rw (c.value_parser-3.ensures, c.new-2.ensures.start, c.new-2.ensures.end) at c.range-2.ensures in
    let given = c.value_parser-2.ensures.given in
    let given-2 = c.value_parser-4.ensures.given in
    let society = numbered c.required_option.result c.value_parser-2.result (codes "society") given.0 1 999 c.required_option.ensures.rule c.value_parser-2.ensures.others given.1 (given.2 ∙ within) in
    let territory = numbered c.required_option-2.result c.value_parser-4.result (codes "territory") given-2.0 1 9999 c.required_option-2.ensures.rule c.value_parser-4.ensures.others given-2.1 (given-2.2 ∙ within-2) in
    let society_is : rule_of c.help-society.result ≡ number_option (codes "society") 1 999 = ap rule_of c.help-society.ensures ∙ society in
    let territory_is : rule_of c.help-territory.result ≡ number_option (codes "territory") 1 9999 = ap rule_of c.help-territory.ensures ∙ territory in
    let name_is : rule_of c.help-name.result ≡ required_option (codes "name") = ap rule_of c.help-name.ensures ∙ c.required_option-3.ensures.rule in
    let first = one_more c.args.command c.help-society.result (number_option (codes "society") 1 999) c.arg.result c.arg.ensures society_is (search rules) in
    let second = one_more c.in_ok-arg.field-0 c.help-territory.result (number_option (codes "territory") 1 9999) c.arg-2.result c.arg-2.ensures territory_is (search rules) in
    let third = one_more c.in_ok-arg-2.field-0 c.help-name.result (required_option (codes "name")) c.arg-3.result c.arg-3.ensures name_is (search rules) in
    let first_is = rw c.in_ok-arg.was at first in
    let second_is = rw c.in_ok-arg-2.was at second in
    IfOk-weaker c.arg-3.result _ _ (λ r h. (
      h.0 ∙ ap (λ a. with_rule a (required_option (codes "name"))) (second_is.0 ∙ ap (λ a. with_rule a (number_option (codes "territory") 1 9999)) first_is.0),
      h.1 ∙ (second_is.1 ∙ first_is.1),
    )) third
