use Rattle.std.proofs.Common.{◌≡◌, ◌∙◌, true, false, ◌≤◌, ◌<◌, ℕ, List, [], ◌∷◌, ap, arith, get_or, length, refl, subst, sym}
use Rattle.std.proofs.lemmas.Bool.{false≢true}
use Rattle.std.proofs.lemmas.Slice.Eq.{bytes_eq-Decides}
use Rattle.share_rules.specs.Office.{name_of}
use Rattle.share_rules.specs.declared.office.Office.{Office}
use Rattle.sqlite_value.specs.Order.{Row}
use Rattle.society_rows.specs.Rows.{office_values_under}
use Rattle.society_rows.specs.declared.office.OfficeRow.{OfficeRow}
use Rattle.society_book.specs.Columns.{whole_number_at, text_at}
use Rattle.society_opening.specs.Older.{office_row_under}
use Rattle.society_opening.specs.Opening.{IsOneOffice}
use Rattle.society_opening.proofs.examining.check_office.Goals as goal
use Rattle.society_opening.proofs.examining.check_office.Goals.{else-row-from-via-then-row-from+then-row-from-2+else-eq, else-row-from-via-then-row-from+else-row-from-2, else-row-from-via-else-row-from}

-- a list of one
one_row : (rows : List Row) (d : Row) → 1 ≤ length rows → length rows < 2 → rows ≡ get_or rows 0 d ∷ []
one_row [] d some few = absurd (omega (some, arith))
one_row (row ∷ []) d some few = refl
one_row (row ∷ other ∷ rows) d some few = absurd (omega (few, arith))

head_same : (one two : Row) → ◌≡◌ {A = List Row} (one ∷ []) (two ∷ []) → one ≡ two
head_same one two e = ap (λ (rows : List Row). get_or rows 0 one) e

office_is : (layout : ℕ) (row : OfficeRow) (o : Office) → row.society ≡ o.society → row.territory ≡ o.territory → row.name.now ≡ name_of o → office_values_under layout row ≡ office_row_under layout o
office_is layout row o s t n = cc

pub returns-then-eq-clause-same : goal.returns-then-eq-clause-same
returns-then-eq-clause-same c =
    one_row c.args.rows.now c.row-item.result (omega (arith, c.in-len1.len_at_least)) (omega (arith, c.in-len1.len_below))
    ∙ ap (λ r. r ∷ []) (sym c.row-item.is ∙ sym c.in-Ok.ensures.value ∙ office_is c.args.layout c.in-Ok.row c.args.office.now (c.if-row-from.true ∙ c.from.ensures) (c.if-row-from-2.true ∙ c.from-then-row-from.ensures)
    ((bytes_eq-Decides c.in-Ok.row.name.now c.name.result.now).0 (sym c.eq.ensures ∙ c.if-eq.true) ∙ c.name.ensures))

pub returns-else-row-from-clause-err : goal.returns-else-row-from-clause-err
returns-else-row-from-clause-err c =
    let one = one_row c.args.rows.now c.row-item.result (omega (arith, c.in-len1.len_at_least)) (omega (arith, c.in-len1.len_below)) ∙ ap (λ r. r ∷ []) (sym c.row-item.is ∙ sym c.in-Ok.ensures.value) in
    let o = c.args.office.now in
    let same = λ (h : c.args.rows.now ≡ office_row_under c.args.layout o ∷ []). head_same (office_values_under c.args.layout c.in-Ok.row) (office_row_under c.args.layout o) (sym one ∙ h) in (
      subst (IsOneOffice c.args.layout) (sym one) (refl, (refl, (refl, ((c.in-Ok.row.society, refl, (rw c.in-Ok.is at c.from_row_under.type_inv).1.1.1.1.0.1.1.0.1), ((c.in-Ok.row.territory, refl, (rw c.in-Ok.is at c.from_row_under.type_inv).1.1.1.1.0.1.1.1.0.1), ((c.in-Ok.row.name.now, refl), tt)))))),
      λ h. elim c.else-row-from.branch [
        | else-row-from-via-then-row-from+then-row-from-2+else-eq w ↦ let named : c.in-Ok.row.name.now ≡ name_of o = ap (text_at 4) (same h) in let never : true ≡ false = sym ((bytes_eq-Decides c.in-Ok.row.name.now w.name.result.now).1 (named ∙ sym w.name.ensures)) ∙ sym w.eq.ensures ∙ w.if-eq.false in absurd (false≢true (sym never))
        | else-row-from-via-then-row-from+else-row-from-2 w ↦ absurd (w.if-row-from-2.false (ap (whole_number_at 3) (same h) ∙ sym w.from-then-row-from.ensures))
        | else-row-from-via-else-row-from w ↦ absurd (w.if-row-from.false (ap (whole_number_at 2) (same h) ∙ sym c.from.ensures))
      ],
    )
