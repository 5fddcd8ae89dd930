use Rattle.std.proofs.Common.{◌≡◌, Bool, None, Some, ap, false, if◌then◌else◌, refl, sym, true}
use Rattle.std.proofs.lemmas.Bool.{false≢true}
use Rattle.society_core.specs.Book.{is_end_entry}
use Rattle.society_book.specs.BookRows.{end_of}
use Rattle.society_book.specs.Columns.{segment_place_at, text_at}
use Rattle.society_book.proofs.lemmas.shown.AskLemmas.{second_true}
use Rattle.book_audit.specs.Entries.{has_end, is_right_stated}
use Rattle.book_audit.specs.Judging.{last_stated}
use Rattle.book_audit.proofs.lemmas.entries.RowForms.{entry_forms, stated_form}
use Rattle.book_audit.proofs.stated.last_in.Goals as goal

pub returns-in_default : goal.returns-in_default
returns-in_default c = by_case (is_right_stated c.args.row.now) refl
  where
    by_case : (t : Bool) → is_right_stated c.args.row.now ≡ t → None ≡ (if is_right_stated c.args.row.now then Some (last_stated c.args.row.now) else None)
    by_case true is =
        absurd (false≢true (c.in_default.ensures.read (entry_forms c.args.row.now (stated_form c.args.row.now is) (second_true (has_end c.args.row.now) (is_end_entry (text_at 0 c.args.row.now) (segment_place_at 1 c.args.row.now) (end_of c.args.row.now)) is))))
    by_case false is = sym (ap (λ (x : Bool). if x then Some (last_stated c.args.row.now) else None) is)
