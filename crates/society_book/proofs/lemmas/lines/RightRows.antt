-- Rows of what senders sent and stated: those of a sound book may stand in one, and why a run of them is not gone over.
use Rattle.std.proofs.Common.{◌≡◌, ◌∙◌, ℕ, Bool, List, Option, Some, None, ap₂, refl, sym, filter}
use Rattle.std.specs.List.{AllByRecursion}
use Rattle.sqlite_keyed.proofs.ListLemmas.{all-filter}
use Rattle.sqlite_trees.proofs.ListLemmas.{all-permutation}
use Rattle.sqlite_trees.specs.Tree.{Trees}
use Rattle.sqlite_schema.specs.declared.schema.Table.{Table}
use Rattle.sqlite_value.specs.Order.{Row}
use Rattle.sender_segments.specs.Ways.{End}
use Rattle.society_core.specs.Book.{Book, IsSound, end_at, is_end_entry}
use Rattle.society_core.specs.declared.segment_key.SegmentKey.{SegmentKey}
use Rattle.society_rows.specs.Reads.{Lists}
use Rattle.society_rows.specs.Stored.{rows_in}
use Rattle.society_book.specs.BookRows.{end_row, end_rows, is_end_row, row_of_some, segment_key_of}
use Rattle.society_book.specs.Columns.{HasRows, segment_place_at, text_at}
use Rattle.society_book.specs.RightRows.{IsRightStated}
use Rattle.society_book.proofs.lemmas.rows_alike.BookLemmas.{end_back, end_key_back}
use Rattle.society_book.proofs.lemmas.rows_alike.KeyRows.{both_same}
use Rattle.society_book.proofs.lemmas.rows_alike.RowLemmas.{all_rows}

-- each row of a sound book's ends is such
pub all_right_stated : (b : Book) (rows : List Row) → IsSound b → HasRows is_end_row (end_rows b) rows → AllByRecursion IsRightStated rows
all_right_stated b rows sound has = all_rows is_end_row segment_key_of (λ r. both_same (text_at 0 r) (segment_place_at 1 r)) IsRightStated (end_rows b) rows has (λ q. told q (end_at b q.sender q.segment) refl)
  where
    told : (q : SegmentKey) (o : Option End) → end_at b q.sender q.segment ≡ o → AllByRecursion IsRightStated (row_of_some (end_row q) o)
    told q None is = tt
    told q (Some end) is = (
      record {
        form = ap₂ end_row (sym (end_key_back q end)) (sym (end_back q end));
        entry = ap₂ (λ (k : SegmentKey) (e : End). is_end_entry k.sender k.segment e) (end_key_back q end) (end_back q end) ∙ sound.ends q.sender q.segment end is;
      },
      tt,
    )

-- what holds of each row of a table holds of those that are listed
pub all_listed : (P : Row → Type 0) (table : Table) (passes : Row → Bool) (width : ℕ) (db : Trees) (found : List Row) → AllByRecursion P (rows_in table db) → Lists table passes width db found → AllByRecursion P found
all_listed P table passes width db found all lists = all-permutation P (filter passes (rows_in table db)) found lists.rows (all-filter P passes (rows_in table db) all)
