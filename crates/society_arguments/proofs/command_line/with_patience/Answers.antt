use Rattle.std.proofs.Common.{rules, ◌≡◌, ◌∙◌, ap, codes, pos}
use Rattle.clap.specs.Walk.{rule_of}
use Rattle.clap.specs.declared.builder.value_parser.ValueParser.TheVariants as parser
use Rattle.society_arguments.specs.CommandLine.{free_number_option}
use Rattle.society_arguments.proofs.lemmas.OptionLemmas.{free_numbered, one_more}
use Rattle.society_arguments.proofs.command_line.with_patience.Goals as goal

pub returns : goal.returns
returns c =
    let within : c.range.result ≡ parser.Signed (pos 1) (pos 86400) = rw (c.value_parser.ensures, c.new.ensures.start, c.new.ensures.end) at c.range.ensures in
    let given = c.value_parser-2.ensures.given in
    let patience = free_numbered c.free_option.result c.value_parser-2.result (codes "patience") given.0 1 86400 c.free_option.ensures.rule c.value_parser-2.ensures.others given.1 (given.2 ∙ within) in
    let patience_is : rule_of c.help-patience.result ≡ free_number_option (codes "patience") 1 86400 = ap rule_of c.help-patience.ensures ∙ patience in
    one_more c.args.command c.help-patience.result (free_number_option (codes "patience") 1 86400) c.arg.result c.arg.ensures patience_is (search rules)
