-- What the program's options are to `clap`.
use Rattle.std.proofs.Common.{◌≡◌, ◌∙◌, ◌||◌, ap, ap₂, ℕ, List, Result, Some, pos, false}
use Rattle.std.proofs.Math.Bool.{or-false}
use Rattle.std.proofs.lemmas.Result.{IfOk-weaker}
use Rattle.std.specs.Prelude.{IfOk}
use Rattle.clap.specs.Built.{AddsArg}
use Rattle.clap.specs.Simple.{app_of, with_rule}
use Rattle.clap.specs.Walk.{Rule, rule_of}
use Rattle.clap.specs.declared.builder.arg.Arg.{Arg}
use Rattle.clap.specs.declared.builder.command.Command.{Command}
use Rattle.clap.specs.declared.builder.command.Command.TheViews.{out-Command}
use Rattle.clap.specs.declared.builder.value_parser.ValueParser.{ValueParser}
use Rattle.clap.specs.declared.builder.value_parser.ValueParser.TheVariants as parser
use Rattle.society_arguments.specs.CommandLine.{free_number_option, free_option, number_option, required_option}

-- a required option with a parser of numbers within limits
pub numbered : (a b : Arg) (name : List ℕ) (q : ValueParser) (least most : ℕ) → rule_of a ≡ required_option name → b ≡ record a { value_parser = b.value_parser }
    → b.value_parser ≡ Some q → q ≡ parser.Signed (pos least) (pos most) → rule_of b ≡ number_option name least most
numbered a b name q least most rule others given is =
    ap rule_of others ∙ ap₂ (λ (r : Rule) p. record r { parser = p }) rule (given ∙ ap Some is)

-- an option that may be given, with such a parser
pub free_numbered : (a b : Arg) (name : List ℕ) (q : ValueParser) (least most : ℕ) → rule_of a ≡ free_option name → b ≡ record a { value_parser = b.value_parser }
    → b.value_parser ≡ Some q → q ≡ parser.Signed (pos least) (pos most) → rule_of b ≡ free_number_option name least most
free_numbered a b name q least most rule others given is =
    ap rule_of others ∙ ap₂ (λ (r : Rule) p. record r { parser = p }) rule (given ∙ ap Some is)

-- a command with one more option
pub one_more : {E : Type 0} (old : Command) (a : Arg) (rule : Rule) (result : Result Command E) → IfOk result (AddsArg old a) → rule_of a ≡ rule → a.global ≡ false
    → IfOk result (λ r. (app_of r ≡ with_rule (app_of old) rule) × ((out-Command r).has_globals ≡ (out-Command old).has_globals))
one_more old a rule result adds is local =
    IfOk-weaker result _ _ (λ r h. (h.shape local ∙ ap (with_rule (app_of old)) is, h.globals ∙ (ap (λ b. (out-Command old).has_globals || b) local ∙ or-false (out-Command old).has_globals))) adds
