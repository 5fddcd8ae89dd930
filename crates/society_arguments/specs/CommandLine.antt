-- The command line of the program, in the words of `clap`: its commands, and the options of each.
use Rattle.std.specs.Prelude.{ℕ, Some, codes, pos, true}
use Rattle.clap.specs.Simple.{App, new_app, new_rule, on_top, with_rule, with_subcommand}
use Rattle.clap.specs.Walk.{Rule, Text}
use Rattle.clap.specs.declared.builder.action.ArgAction.TheVariants.{Set, SetTrue}
use Rattle.clap.specs.declared.builder.value_parser.ValueParser.TheVariants as parser

-- an option `--name VALUE` that is to be given once, with one value
abbrev pub required_option : Text → Rule
required_option name = record (new_rule name) {
  long = Some name;
  action = Some Set;
  value_names = 1;
  required = true;
}

-- such an option whose value is a whole number within these limits
abbrev pub number_option : Text → ℕ → ℕ → Rule
number_option name least most = record (required_option name) { parser = Some (parser.Signed (pos least) (pos most)) }

-- an option `--name VALUE` that may be given, once, with one value
abbrev pub free_option : Text → Rule
free_option name = record (new_rule name) { long = Some name; action = Some Set; value_names = 1 }

-- such an option whose value is a whole number within these limits
abbrev pub free_number_option : Text → ℕ → ℕ → Rule
free_number_option name least most = record (free_option name) { parser = Some (parser.Signed (pos least) (pos most)) }

-- an option `--name` without a value that may be given, once
abbrev pub flag : Text → Rule
flag name = record (new_rule name) { long = Some name; action = Some SetTrue }

-- the command with the options that name an office: a society of 1 to 999, a territory of 1 to 9,999, and a name (profile)
abbrev pub with_office : App → App
with_office command =
    with_rule (with_rule (with_rule command (number_option (codes "society") 1 999)) (number_option (codes "territory") 1 9999)) (required_option (codes "name"))

-- `replay`, with an office
abbrev pub replay_command : App
replay_command = with_office (new_app (codes "replay"))

-- the command of this name, with the path of a database
abbrev pub over_database : Text → App
over_database name = with_rule (new_app name) (required_option (codes "db"))

-- the command with a port of 1 to 65,535 and a count of connections of 1 to 1,000,000
abbrev pub with_place : App → App
with_place command = with_rule (with_rule command (number_option (codes "port") 1 65535)) (number_option (codes "connections") 1 1000000)

-- the command with a patience of 1 to 86,400 seconds, which may be given
abbrev pub with_patience : App → App
with_patience command = with_rule command (free_number_option (codes "patience") 1 86400)

-- `serve`, with the path of a database, whether it must be there already, a place, a patience and an office (profile)
abbrev pub serve_command : App
serve_command = with_office (with_patience (with_place (with_rule (over_database (codes "serve")) (flag (codes "existing")))))

-- `audit`, with the path of a database, and an office (profile)
abbrev pub audit_command : App
audit_command = with_office (over_database (codes "audit"))

-- `credit`, with the path of a database, and an office (profile)
abbrev pub credit_command : App
credit_command = with_office (over_database (codes "credit"))

-- the program: one of its four commands is to be given; no command is named `help`
abbrev pub command_line : App
command_line =
    let top = on_top (λ s. record s { subcommand_required = true; disable_help_subcommand = true }) (new_app (codes "society")) in
    with_subcommand (with_subcommand (with_subcommand (with_subcommand top replay_command.top) serve_command.top) audit_command.top) credit_command.top
