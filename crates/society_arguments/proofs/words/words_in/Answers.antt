use Rattle.std.proofs.Common.{◌≡◌, ◌∙◌, ap, ap₂, refl, subst, sym, Global, [], Some, map, string_bytes, option_map}
use Rattle.clap.proofs.TakesLemmas.{passed_up}
use Rattle.clap.specs.Faults.{fault_of, is_simple_and_free}
use Rattle.clap.specs.Kinds.{HasKind}
use Rattle.clap.specs.Matches.{found_of, subcommand_name_of}
use Rattle.clap.specs.Simple.{App, app_of, is_simple, subcommand_of, subcommand_rows_of}
use Rattle.clap.specs.Walk.{rows_of}
use Rattle.society_arguments.specs.CommandLine.{command_line}
use Rattle.society_arguments.specs.Words.{Asked, IsReadAs, asked_unless}
use Rattle.society_arguments.proofs.lemmas.RefusalLemmas.{refused}
use Rattle.society_arguments.proofs.lemmas.WordLemmas.{entered_is}
use Rattle.society_arguments.proofs.Worked.{simple, simple_and_free}
use Rattle.society_arguments.proofs.words.words_in.Goals as goal

pub returns-in_err-matches-clause-err : goal.returns-in_err-matches-clause-err
returns-in_err-matches-clause-err c =
    let words = map (string_bytes {Z = Global}) c.args.words.now in
    let command_is : app_of c.in_ok-command_line.field-0 ≡ command_line = c.in_ok-command_line.ensures in
    let kinds = c.in_err-matches.ensures.kinds (ap is_simple_and_free command_is ∙ simple_and_free) in
    let has : HasKind (fault_of command_line words) c.in_err-matches.field-0.0 = subst (λ (a : App). HasKind (fault_of a words) c.in_err-matches.field-0.0) command_is kinds in
    passed_up c.from_residual-in_err-matches.result c.in_err-matches.field-0.0 _ c.from_residual-in_err-matches.ensures.1 (refused words c.in_err-matches.field-0.0 has)

pub returns-in-Some-clause-ok : goal.returns-in-Some-clause-ok
returns-in-Some-clause-ok c =
    let words = map (string_bytes {Z = Global}) c.args.words.now in
    let matches = c.in_ok-matches.matches in
    let command_is : app_of c.in_ok-command_line.field-0 ≡ command_line = c.in_ok-command_line.ensures in
    let taken : fault_of command_line words ≡ [] = subst (λ (a : App). fault_of a words ≡ []) command_is (c.in_ok-matches.ensures.kinds (ap is_simple_and_free command_is ∙ simple_and_free)) in
    let there : subcommand_rows_of matches ≡ subcommand_of command_line words = (c.in_ok-matches.ensures.matches (ap is_simple command_is ∙ simple)).1 ∙ ap (λ a. subcommand_of a words) command_is in
    let name : subcommand_name_of matches ≡ Some c.in-Some.command.now = sym c.subcommand.ensures.name ∙ rw c.in-Some.is refl in
    let rows : option_map (λ p. p.1) (subcommand_rows_of matches) ≡ Some (rows_of (found_of c.in-Some.options.now)) = sym c.subcommand.ensures.rows ∙ rw c.in-Some.is refl in
    let entered = sym there ∙ entered_is matches c.in-Some.command.now (rows_of (found_of c.in-Some.options.now)) name rows in
    subst (λ (a : Asked). IsReadAs a c.command_in.result) (sym (ap₂ asked_unless taken entered)) c.command_in.ensures
