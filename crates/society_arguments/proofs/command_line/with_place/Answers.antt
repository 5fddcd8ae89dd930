use Rattle.std.proofs.Common.{rules, ◌≡◌, ◌∙◌, ap, codes, pos}
use Rattle.std.proofs.lemmas.Result.{IfOk-weaker}
use Rattle.clap.specs.Simple.{with_rule}
use Rattle.clap.specs.Walk.{rule_of}
use Rattle.clap.specs.declared.builder.value_parser.ValueParser.TheVariants as parser
use Rattle.society_arguments.specs.CommandLine.{number_option}
use Rattle.society_arguments.proofs.lemmas.OptionLemmas.{numbered, one_more}
use Rattle.society_arguments.proofs.command_line.with_place.Goals as goal

pub returns : goal.returns
returns c =
    let within : c.range.result ≡ parser.Signed (pos 1) (pos 65535) = rw (c.value_parser.ensures, c.new.ensures.start, c.new.ensures.end) at c.range.ensures in
    let within-2 : c.range-2.result ≡ parser.Signed (pos 1) (pos 1000000) = rw (c.value_parser-3.ensures, c.new-2.ensures.start, c.new-2.ensures.end) at c.range-2.ensures in
    let given = c.value_parser-2.ensures.given in
    let given-2 = c.value_parser-4.ensures.given in
    let port = numbered c.required_option.result c.value_parser-2.result (codes "port") given.0 1 65535 c.required_option.ensures.rule c.value_parser-2.ensures.others given.1 (given.2 ∙ within) in
    let connections = numbered c.required_option-2.result c.value_parser-4.result (codes "connections") given-2.0 1 1000000 c.required_option-2.ensures.rule c.value_parser-4.ensures.others given-2.1 (given-2.2 ∙ within-2) in
    let port_is : rule_of c.help-port.result ≡ number_option (codes "port") 1 65535 = ap rule_of c.help-port.ensures ∙ port in
    let connections_is : rule_of c.help-connections.result ≡ number_option (codes "connections") 1 1000000 = ap rule_of c.help-connections.ensures ∙ connections in
    let first = one_more c.args.command c.help-port.result (number_option (codes "port") 1 65535) c.arg.result c.arg.ensures port_is (search rules) in
    let second = one_more c.in_ok-arg.field-0 c.help-connections.result (number_option (codes "connections") 1 1000000) c.arg-2.result c.arg-2.ensures connections_is (search rules) in
    let first_is = rw c.in_ok-arg.was at first in
    IfOk-weaker c.arg-2.result _ _ (λ r h. (
      h.0 ∙ ap (λ a. with_rule a (number_option (codes "connections") 1 1000000)) first_is.0,
      h.1 ∙ first_is.1,
    )) second
