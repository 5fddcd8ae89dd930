use Rattle.std.proofs.Common.{◌≡◌, ◌∙◌, codes, refl, sym, Some, None}
use Rattle.clap.proofs.WalkLemmas.{first_value-rows}
use Rattle.clap.specs.Matches.{found_of}
use Rattle.clap.specs.Walk.{first_of, rows_of}
use Rattle.society_arguments.specs.Words.{number_given}
use Rattle.society_arguments.proofs.words.office_in.Goals as goal

pub returns-in_default-get_str : goal.returns-in_default-get_str
returns-in_default-get_str c =
    let rows = rows_of (found_of c.args.options.now) in
    let society : number_given 16 (codes "society") rows ≡ Some c.in-Some.society = cc (c.short_number.ensures, c.in-Some.is) in
    let territory : number_given 16 (codes "territory") rows ≡ Some c.in-Some-short_number.territory = cc (c.short_number-2.ensures, c.in-Some-short_number.is) in
    let name : first_of (codes "name") rows ≡ None = sym (first_value-rows (found_of c.args.options.now) (codes "name")) ∙ (sym c.get_str.ensures ∙ rw c.in_default-get_str.is refl) in
    rw (society, territory, name) tt

pub returns : goal.returns
returns c =
    let rows = rows_of (found_of c.args.options.now) in
    let society : number_given 16 (codes "society") rows ≡ Some c.in-Some.society = cc (c.short_number.ensures, c.in-Some.is) in
    let territory : number_given 16 (codes "territory") rows ≡ Some c.in-Some-short_number.territory = cc (c.short_number-2.ensures, c.in-Some-short_number.is) in
    let name : first_of (codes "name") rows ≡ Some c.in-Some-get_str.name.now = sym (first_value-rows (found_of c.args.options.now) (codes "name")) ∙ (sym c.get_str.ensures ∙ rw c.in-Some-get_str.is refl) in
    rw (society, territory, name) c.replay_at.ensures
