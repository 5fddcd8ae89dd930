use Rattle.std.proofs.Common.{◌≡◌, ◌∙◌, codes, refl, sym, Some, None}
use Rattle.clap.proofs.WalkLemmas.{first_value-rows}
use Rattle.clap.specs.Matches.{found_of}
use Rattle.clap.specs.Walk.{first_of, rows_of}
use Rattle.society_arguments.specs.Words.{flag_given, place_given}
use Rattle.society_arguments.proofs.words.serve_in.Goals as goal

pub returns-in_default : goal.returns-in_default
returns-in_default c =
    let rows = rows_of (found_of c.args.options.now) in
    let path : first_of (codes "db") rows ≡ None = sym (first_value-rows (found_of c.args.options.now) (codes "db")) ∙ (sym c.get_str.ensures ∙ rw c.in_default.is refl) in
    rw path tt

pub returns-in_default-place_in : goal.returns-in_default-place_in
returns-in_default-place_in c =
    let rows = rows_of (found_of c.args.options.now) in
    let path : first_of (codes "db") rows ≡ Some c.in-Some.path.now = sym (first_value-rows (found_of c.args.options.now) (codes "db")) ∙ (sym c.get_str.ensures ∙ rw c.in-Some.is refl) in
    let place : place_given rows ≡ None = sym c.place_in.ensures ∙ rw c.in_default-place_in.is refl in
    rw (path, place) tt

pub returns : goal.returns
returns c =
    let rows = rows_of (found_of c.args.options.now) in
    let path : first_of (codes "db") rows ≡ Some c.in-Some.path.now = sym (first_value-rows (found_of c.args.options.now) (codes "db")) ∙ (sym c.get_str.ensures ∙ rw c.in-Some.is refl) in
    let place : place_given rows ≡ Some c.in-Some-place_in.place = sym c.place_in.ensures ∙ rw c.in-Some-place_in.is refl in
    let existing : flag_given (codes "existing") rows ≡ c.is_given-existing.result = sym c.is_given-existing.ensures in
    rw (path, place, existing) (c.serve_at.ensures _ c.office_in.ensures)
