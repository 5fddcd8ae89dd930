use Rattle.std.proofs.Common.{◌≡◌, ◌∙◌, FitsSigned, None, ap, cond, bytes_eq, rules, sym, pos, to_z, of_z, w64, subst, nat_abs}
use Rattle.std.proofs.lemmas.Int.{to_z-of_z}
use Rattle.std.specs.Int.{FitsUnsignedBits}
use Rattle.sqlite_value.specs.declared.value.Value.TheVariants.{Int, Text}
use Rattle.sqlite_value.specs.Order.{column}
use Rattle.sqlite_value.specs.Value.{owned}
use Rattle.society_book.specs.Columns.{text_of}
use Rattle.book_audit.specs.Balances.{units_at}
use Rattle.book_audit.proofs.lemmas.balances.TakenRows.{found_is, is_found, is_wanted, is_whole, wanted_is, wanted_width}
use Rattle.book_audit.proofs.lemmas.balances.TextKeys.{units_changed}
use Rattle.book_audit.proofs.balances.take_row.Goals as goal

pub returns-clause-there : goal.returns-clause-there
returns-clause-there c =
    let left = c.args.left.now in
    let row = c.args.row.now in
    let account = c.in-Ok-Text.account.now in
    let first : Text account ≡ column row 0 = ap owned (sym c.in-Ok-Text.field-0-is) ∙ c.in-Ok-Text.ensures.ok.1 in
    let second : Int c.in-Ok-Int.found ≡ column row 1 = ap owned (sym c.in-Ok-Int.field-0-is) ∙ c.in-Ok-Int.ensures.ok.1 in
    let fits : FitsSigned w64 c.in-Ok-Int.found = search rules in
    let read : to_z w64 (of_z w64 c.in-Ok-Int.found) ≡ c.in-Ok-Int.found = to_z-of_z w64 c.in-Ok-Int.found fits in
    let whole = is_whole c.in-Ok-Int.found c.in-Ok.units (subst (FitsUnsignedBits 64) read c.in-Ok.ensures.0) (c.in-Ok.ensures.1 ∙ ap nat_abs read) in
    let second_whole : Int (pos c.in-Ok.units) ≡ column row 1 = ap Int (sym whole) ∙ second in
    let found = sym c.remove.ensures.value in (
      λ same.
          let two = sym c.column_count.ensures ∙ c.if-column_count-ne2.false in
          is_wanted left row two account first c.in-Ok.units second_whole (found ∙ is_found c.remove.result c.in-Ok.units (sym c.eq.ensures ∙ same)),
      λ is. c.eq.ensures ∙ found_is c.remove.result c.in-Ok.units (sym found ∙ wanted_is left row (wanted_width left row is) account first c.in-Ok.units second_whole is),
    )

pub returns-clause-taken : goal.returns-clause-taken
returns-clause-taken c = λ same other.
    let left = c.args.left.now in
    let first : Text c.in-Ok-Text.account.now ≡ column c.args.row.now 0 = ap owned (sym c.in-Ok-Text.field-0-is) ∙ c.in-Ok-Text.ensures.ok.1 in
    units_changed c.in-Ok-Text.account.now left c.remove.new.self None c.remove.ensures.updates other
    ∙ ap (λ l. cond (bytes_eq l other) None (units_at left other)) (ap text_of first)
