use Rattle.std.proofs.Common.{rules, ◌≡◌, ◌∙◌, refl, sym, Some, None}
use Rattle.clap.proofs.WalkLemmas.{first_value-rows}
use Rattle.clap.specs.Matches.{found_of}
use Rattle.clap.specs.Walk.{first_of, rows_of}
use Rattle.society_arguments.proofs.words.is_given.Goals as goal

pub returns-in-Some : goal.returns-in-Some
returns-in-Some c =
    let rows = rows_of (found_of c.args.options.now) in
    let given : first_of c.args.option.now rows ≡ Some c.in-Some.text.now = sym (first_value-rows (found_of c.args.options.now) c.args.option.now) ∙ (sym c.get_str.ensures ∙ rw c.in-Some.is refl) in
    rw given (search rules)

pub returns-in-None : goal.returns-in-None
returns-in-None c =
    let rows = rows_of (found_of c.args.options.now) in
    let none : first_of c.args.option.now rows ≡ None = sym (first_value-rows (found_of c.args.options.now) c.args.option.now) ∙ (sym c.get_str.ensures ∙ rw c.in-None.is refl) in
    rw none refl
