use Rattle.std.proofs.Common.{◌≡◌, ◌∙◌, codes, refl, sym, Some, None}
use Rattle.clap.proofs.WalkLemmas.{first_value-rows}
use Rattle.clap.specs.Matches.{found_of}
use Rattle.clap.specs.Walk.{first_of, rows_of}
use Rattle.society_arguments.proofs.words.credit_in.Goals as goal

pub returns-in-Some : goal.returns-in-Some
returns-in-Some c =
    let rows = rows_of (found_of c.args.options.now) in
    let path : first_of (codes "db") rows ≡ Some c.in-Some.path.now = sym (first_value-rows (found_of c.args.options.now) (codes "db")) ∙ (sym c.get_str.ensures ∙ rw c.in-Some.is refl) in
    rw path (c.credit_at.ensures _ c.office_in.ensures)

pub returns-in-None : goal.returns-in-None
returns-in-None c =
    let rows = rows_of (found_of c.args.options.now) in
    let none : first_of (codes "db") rows ≡ None = sym (first_value-rows (found_of c.args.options.now) (codes "db")) ∙ (sym c.get_str.ensures ∙ rw c.in-None.is refl) in
    rw none tt
