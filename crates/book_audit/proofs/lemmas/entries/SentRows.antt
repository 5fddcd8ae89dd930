-- The rows of transmissions by their keys.
use Rattle.std.proofs.Common.{◌≡◌, ◌∙◌, ◌&&◌, ◌==◌, pos, Bool, true, List, [], ◌∷◌, IsPermutation, ap, ap₂, bytes_eq, filter, is_none, map, subst, sym, take}
use Rattle.std.specs.List.{AllByRecursion}
use Rattle.std.proofs.lemmas.Bool.Decides.{Decides-eqb}
use Rattle.std.proofs.lemmas.List.Sorted.{IsPermutation-map, IsPermutation-sym}
use Rattle.std.proofs.lemmas.Slice.Eq.{bytes_eq-Decides}
use Rattle.sqlite_keyed.proofs.ListLemmas.{all_map, all_unmap, map-map, map_same}
use Rattle.sqlite_trees.specs.Tree.{Trees}
use Rattle.sqlite_value.specs.Order.{Row}
use Rattle.sqlite_value.specs.declared.value.Value.TheVariants.{Int, Text}
use Rattle.cwr_files.specs.FileFault.{file_fault}
use Rattle.society_core.specs.Book.{is_entry}
use Rattle.society_core.specs.Keys.{transmission_key}
use Rattle.society_core.specs.declared.transmission_key.TransmissionKey.{TransmissionKey}
use Rattle.society_rows.specs.Layout as layout
use Rattle.society_rows.specs.Reads.{Lists, ListsKeys, has_key}
use Rattle.society_rows.specs.Stored.{rows_in}
use Rattle.society_book.specs.BookRows.{is_transmission_row, transmission_key_of}
use Rattle.society_book.specs.Columns.{blob_at, text_at, whole_number_at}
use Rattle.society_book.proofs.lemmas.rows_alike.KeyRows.{both_same, keyed}
use Rattle.society_book.proofs.lemmas.shown.AskLemmas.{first_true, second_true}
use Rattle.book_audit.specs.Entries.{has_body, is_right_sent}
use Rattle.book_audit.specs.Judging.{AreSent, AreSentKeys, has_key_form, is_one_right, is_sent_at, is_sent_key}
use Rattle.book_audit.proofs.lemmas.entries.KeyForms.{count_cut, has_own, key_form, row_form, text_cut}
use Rattle.book_audit.proofs.lemmas.entries.KeyedRows.{all_pass, entries_by_keys, keys_by_entries, one_right_again}
use Rattle.book_audit.proofs.lemmas.entries.RowForms.{sent_form}
use Rattle.work_ids.specs.Segments.{is_transmission_number}
use Rattle.work_ids.specs.SenderKey.{is_sender_key}

-- the first columns of a right row are a key
sent_keys : (r : Row) → is_right_sent r ≡ true → is_sent_key (take 2 r) ≡ true
sent_keys r right =
    let entry : is_entry (text_at 0 r) (whole_number_at 1 r) (blob_at 2 r) ≡ true = second_true (has_body r) (is_entry (text_at 0 r) (whole_number_at 1 r) (blob_at 2 r)) right in
    let both : (is_sender_key (text_at 0 r) && is_transmission_number (whole_number_at 1 r)) ≡ true =
    first_true (is_sender_key (text_at 0 r) && is_transmission_number (whole_number_at 1 r)) (is_none (file_fault (text_at 0 r) (blob_at 2 r))) entry in
    subst (λ (x : Row). is_sent_key (take 2 x) ≡ true) (sym (sent_form r right)) both

-- a key has its form
formed : (k : Row) → is_sent_key k ≡ true → has_key_form k ≡ true
formed k h = first_true (has_key_form k) (is_sender_key (text_at 0 k)) (first_true (has_key_form k && is_sender_key (text_at 0 k)) (is_transmission_number (whole_number_at 1 k)) h)

-- what SQL finds under the key of a right row
sent_means : (w r : Row) → is_right_sent w ≡ true → is_right_sent r ≡ true → has_key (take 2 w) r ≡ is_transmission_row (transmission_key_of w) r
sent_means w r right also =
    let mine = key_form w (formed (take 2 w) (sent_keys w right)) in
    let other = key_form r (formed (take 2 r) (sent_keys r also)) in
    ap (λ (k : Row). has_key k r) mine.1 ∙ keyed (text_at 0 w) (whole_number_at 1 w) r other.0

same_sent : (q : TransmissionKey) (r : Row) → is_transmission_row q r ≡ true → q ≡ transmission_key_of r
same_sent q r is =
    ap₂ transmission_key ((bytes_eq-Decides q.sender (text_at 0 r)).0 (first_true (bytes_eq q.sender (text_at 0 r)) (q.number == whole_number_at 1 r) is))
    ((Decides-eqb q.number (whole_number_at 1 r)).0 (second_true (bytes_eq q.sender (text_at 0 r)) (q.number == whole_number_at 1 r) is))

module _ (db : Trees) (found : List Row) (lists : ListsKeys layout.transmissions (λ _. true) 2 db found) where
  abbrev rows : List Row
  rows = rows_in layout.transmissions db

  -- the transmissions of a database may stand in a book where so says each of their keys
  pub sent_by_keys : AllByRecursion (λ k. is_sent_at db k ≡ true) found → AreSent db
  sent_by_keys all =
      entries_by_keys is_sent_key is_right_sent is_transmission_row transmission_key_of same_sent (λ r. both_same (text_at 0 r) (whole_number_at 1 r)) sent_keys (λ r h. has_own r (formed (take 2 r) h)) sent_means rows lists.whole lists.listed.rows
      (all_unmap (λ k. is_sent_at db k ≡ true) (take 2) lists.whole (subst (AllByRecursion (λ k. is_sent_at db k ≡ true)) lists.cut all))

  -- and only there
  pub keys_of_sent : AreSent db → AllByRecursion (λ k. is_sent_at db k ≡ true) found
  keys_of_sent entries =
      subst (AllByRecursion (λ k. is_sent_at db k ≡ true)) (sym lists.cut)
      (all_map (λ k. is_sent_at db k ≡ true) (take 2) lists.whole
      (keys_by_entries is_sent_key is_right_sent is_transmission_row transmission_key_of same_sent (λ r. both_same (text_at 0 r) (whole_number_at 1 r)) sent_keys (λ r h. has_own r (formed (take 2 r) h)) sent_means rows lists.whole lists.listed.rows entries))

  -- the keys are those of the rows
  pub sent_listed : AreSentKeys db (map transmission_key_of found)
  sent_listed =
      let same : map transmission_key_of found ≡ map transmission_key_of lists.whole =
      ap (map transmission_key_of) lists.cut ∙ map-map transmission_key_of (take 2) lists.whole ∙ map_same (λ r. transmission_key_of (take 2 r)) transmission_key_of (λ r. ap₂ transmission_key (text_cut r) (count_cut r)) lists.whole in
      let these : IsPermutation rows lists.whole = subst (λ (l : List Row). IsPermutation l lists.whole) (all_pass rows) lists.listed.rows in
      subst (λ (l : List TransmissionKey). IsPermutation l (map transmission_key_of rows)) (sym same)
      (IsPermutation-sym (map transmission_key_of rows) (map transmission_key_of lists.whole) (IsPermutation-map transmission_key_of rows lists.whole these))

-- what is found under a key says whether one transmission has it, and is right
pub sent_asked : (db : Trees) (row : Row) (key : TransmissionKey) (found : List Row) → is_sent_key row ≡ true → key ≡ transmission_key_of row → Lists layout.transmissions (has_key (Text key.sender ∷ Int (pos key.number) ∷ [])) 2 db found
    → is_sent_at db row ≡ is_one_right is_right_sent found
sent_asked db row key found is same lists =
    let rows = rows_in layout.transmissions db in
    let own : Lists layout.transmissions (has_key (Text (text_at 0 row) ∷ Int (pos (whole_number_at 1 row)) ∷ [])) 2 db found =
    subst (λ (k : TransmissionKey). Lists layout.transmissions (has_key (Text k.sender ∷ Int (pos k.number) ∷ [])) 2 db found) same lists in
    let key_is = Text (text_at 0 row) ∷ Int (pos (whole_number_at 1 row)) ∷ [] in
    ap (λ (t : Bool). t && is_one_right is_right_sent (filter (has_key row) rows)) is
    ∙ ap (λ (k : Row). is_one_right is_right_sent (filter (has_key k) rows)) (row_form row (formed row is))
    ∙ one_right_again is_right_sent (filter (has_key key_is) rows) found own.rows
