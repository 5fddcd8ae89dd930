-- The rows of returns by their keys.
use Rattle.std.proofs.Common.{◌≡◌, ◌∙◌, ◌&&◌, ◌==◌, pos, Bool, true, List, [], ◌∷◌, ℕ, ap, bytes_eq, filter, is_none, subst, sym, take}
use Rattle.std.specs.List.{AllByRecursion}
use Rattle.std.proofs.lemmas.Slice.Eq.{bytes_eq-Decides}
use Rattle.sqlite_keyed.proofs.ListLemmas.{all_map, all_unmap}
use Rattle.sqlite_trees.specs.Tree.{Trees}
use Rattle.sqlite_value.specs.Order.{Row}
use Rattle.sqlite_value.specs.declared.value.Value.TheVariants.{Int, Text}
use Rattle.perf_returns.specs.Returns.{return_fault}
use Rattle.society_core.specs.Book.{is_reporter, is_return_entry}
use Rattle.society_core.specs.declared.return_key.ReturnKey.{ReturnKey}
use Rattle.society_core.proofs.lemmas.SameOrders.{same_return_is}
use Rattle.society_rows.specs.Layout as layout
use Rattle.society_rows.specs.Reads.{Lists, ListsKeys, has_key}
use Rattle.society_rows.specs.Stored.{rows_in}
use Rattle.society_book.specs.BookRows.{is_return_row, return_key_of}
use Rattle.society_book.specs.Columns.{blob_at, text_at, whole_number_at}
use Rattle.society_book.proofs.lemmas.rows_alike.KeyRows.{both_same, filled_same, keyed}
use Rattle.society_book.proofs.lemmas.shown.AskLemmas.{first_true, second_true}
use Rattle.book_audit.specs.Entries.{has_body, is_right_return}
use Rattle.book_audit.specs.Judging.{AreReported, has_key_form, is_one_right, is_reported_at, is_reported_key, is_reporter_spelled}
use Rattle.book_audit.proofs.lemmas.entries.KeyForms.{has_own, key_form, row_form}
use Rattle.book_audit.proofs.lemmas.entries.KeyedRows.{entries_by_keys, keys_by_entries, one_right_again}
use Rattle.book_audit.proofs.lemmas.entries.RowForms.{body_form, is_unfilled}
use Rattle.work_ids.specs.Blanks.{fill, without_trailing_blanks}
use Rattle.work_ids.specs.Numbers.{is_return_number}

-- what a right row says of its columns
record IsRightReturn (r : Row) : Type 0 where
  body : has_body r ≡ true
  unfilled : is_unfilled r ≡ true
  reporter : is_reporter (fill 20 (text_at 0 r)) ≡ true
  number : is_return_number (whole_number_at 1 r) ≡ true

right_parts : (r : Row) → is_right_return r ≡ true → IsRightReturn r
right_parts r right =
    let reporter = is_reporter (fill 20 (text_at 0 r)) in
    let number = is_return_number (whole_number_at 1 r) in
    let fault = is_none (return_fault (blob_at 2 r)) in
    let front : (has_body r && is_unfilled r) ≡ true = first_true (has_body r && is_unfilled r) (is_return_entry (return_key_of r) (blob_at 2 r)) right in
    let both : (reporter && number) ≡ true = first_true (reporter && number) fault (second_true (has_body r && is_unfilled r) (is_return_entry (return_key_of r) (blob_at 2 r)) right) in
    record { body = first_true (has_body r) (is_unfilled r) front; unfilled = second_true (has_body r) (is_unfilled r) front; reporter = first_true reporter number both; number = second_true reporter number both }

all_three : (a b c : Bool) → a ≡ true → b ≡ true → c ≡ true → (a && b && c) ≡ true
all_three a b c first second third = ap (λ (t : Bool). t && b && c) first ∙ ap (λ (t : Bool). t && c) second ∙ third

reported_keys : (r : Row) → is_right_return r ≡ true → is_reported_key (take 2 r) ≡ true
reported_keys r right =
    let parts = right_parts r right in
    subst (λ (x : Row). is_reported_key (take 2 x) ≡ true) (sym (body_form r parts.body))
    (all_three (is_unfilled r) (is_reporter (fill 20 (text_at 0 r))) (is_return_number (whole_number_at 1 r)) parts.unfilled parts.reporter parts.number)

-- what a key of a return says of its columns
record IsReportedKey (k : Row) : Type 0 where
  form : has_key_form k ≡ true
  unfilled : without_trailing_blanks (fill 20 (text_at 0 k)) ≡ text_at 0 k

key_parts : (k : Row) → is_reported_key k ≡ true → IsReportedKey k
key_parts k h =
    let spelled = is_reporter_spelled (text_at 0 k) in
    let front : (has_key_form k && spelled) ≡ true = first_true (has_key_form k && spelled) (is_return_number (whole_number_at 1 k)) h in
    record {
      form = first_true (has_key_form k) spelled front;
      unfilled = (bytes_eq-Decides (without_trailing_blanks (fill 20 (text_at 0 k))) (text_at 0 k)).0 (first_true (is_unfilled k) (is_reporter (fill 20 (text_at 0 k))) (second_true (has_key_form k) spelled front));
    }

short : (r : Row) → is_right_return r ≡ true → without_trailing_blanks (fill 20 (text_at 0 r)) ≡ text_at 0 r
short r right = (bytes_eq-Decides (without_trailing_blanks (fill 20 (text_at 0 r))) (text_at 0 r)).0 (right_parts r right).unfilled

-- what SQL finds under the key of a right row
reported_means : (w r : Row) → is_right_return w ≡ true → is_right_return r ≡ true → has_key (take 2 w) r ≡ is_return_row (return_key_of w) r
reported_means w r right also =
    let mine = key_form w (key_parts (take 2 w) (reported_keys w right)).form in
    let other = key_form r (key_parts (take 2 r) (reported_keys r also)).form in
    let text = text_at 0 w in
    ap (λ (k : Row). has_key k r) mine.1
    ∙ keyed text (whole_number_at 1 w) r other.0
    ∙ ap (λ (t : List ℕ). bytes_eq t (text_at 0 r) && whole_number_at 1 w == whole_number_at 1 r) (sym (short w right))
    ∙ ap (λ (t : Bool). t && whole_number_at 1 w == whole_number_at 1 r) (filled_same (fill 20 text) (text_at 0 r) (ap (fill 20) (short w right)) (short r also))

module _ (db : Trees) (found : List Row) (lists : ListsKeys layout.returns (λ _. true) 2 db found) where
  abbrev rows : List Row
  rows = rows_in layout.returns db

  -- the returns of a database may stand in a book where so says each of their keys
  pub reported_by_keys : AllByRecursion (λ k. is_reported_at db k ≡ true) found → AreReported db
  reported_by_keys all =
      entries_by_keys is_reported_key is_right_return is_return_row return_key_of (λ q r is. same_return_is q (return_key_of r) is) (λ r. both_same (fill 20 (text_at 0 r)) (whole_number_at 1 r)) reported_keys (λ r h. has_own r (key_parts (take 2 r) h).form) reported_means rows lists.whole lists.listed.rows
      (all_unmap (λ k. is_reported_at db k ≡ true) (take 2) lists.whole (subst (AllByRecursion (λ k. is_reported_at db k ≡ true)) lists.cut all))

  -- and only there
  pub keys_of_reported : AreReported db → AllByRecursion (λ k. is_reported_at db k ≡ true) found
  keys_of_reported entries =
      subst (AllByRecursion (λ k. is_reported_at db k ≡ true)) (sym lists.cut)
      (all_map (λ k. is_reported_at db k ≡ true) (take 2) lists.whole
      (keys_by_entries is_reported_key is_right_return is_return_row return_key_of (λ q r is. same_return_is q (return_key_of r) is) (λ r. both_same (fill 20 (text_at 0 r)) (whole_number_at 1 r)) reported_keys (λ r h. has_own r (key_parts (take 2 r) h).form) reported_means rows lists.whole lists.listed.rows entries))

-- what is found under a key says whether one return has it, and is right
pub reported_asked : (db : Trees) (row : Row) (key : ReturnKey) (found : List Row) → is_reported_key row ≡ true → key ≡ return_key_of row
    → Lists layout.returns (has_key (Text (without_trailing_blanks key.reporter) ∷ Int (pos key.number) ∷ [])) 2 db found → is_reported_at db row ≡ is_one_right is_right_return found
reported_asked db row key found is same lists =
    let rows = rows_in layout.returns db in
    let parts = key_parts row is in
    let n = whole_number_at 1 row in
    let own : Lists layout.returns (has_key (Text (text_at 0 row) ∷ Int (pos n) ∷ [])) 2 db found =
    subst (λ (t : List ℕ). Lists layout.returns (has_key (Text t ∷ Int (pos n) ∷ [])) 2 db found) parts.unfilled
    (subst (λ (k : ReturnKey). Lists layout.returns (has_key (Text (without_trailing_blanks k.reporter) ∷ Int (pos k.number) ∷ [])) 2 db found) same lists) in
    ap (λ (t : Bool). t && is_one_right is_right_return (filter (has_key row) rows)) is
    ∙ ap (λ (k : Row). is_one_right is_right_return (filter (has_key k) rows)) (row_form row parts.form)
    ∙ one_right_again is_right_return (filter (has_key (Text (text_at 0 row) ∷ Int (pos n) ∷ [])) rows) found own.rows
