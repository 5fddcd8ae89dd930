-- Transmissions, ends and returns that may stand in a book stand for one.
use Rattle.std.proofs.Common.{◌≡◌, ◌∙◌, ◌∷◌, ◌&&◌, ℕ, true, List, [], Some, None, nat_cmp, refl, subst, sym}
use Rattle.std.specs.FinMap as finite
use Rattle.std.specs.List.{AllByRecursion}
use Rattle.sqlite_trees.specs.Tree.{Trees}
use Rattle.sqlite_value.specs.Order.{Row}
use Rattle.sender_segments.specs.Ways.{End, IsWithinEnd}
use Rattle.society_core.specs.Book.{Book, IsSound, ends_of, is_end_entry, is_entry, is_return_entry, is_there}
use Rattle.society_core.specs.Ends.{number_past}
use Rattle.society_core.specs.Keys.{segment_key, transmission_key}
use Rattle.society_core.specs.Orders.{Order}
use Rattle.society_core.specs.declared.return_key.ReturnKey.{ReturnKey}
use Rattle.society_core.specs.declared.segment_key.SegmentKey.{SegmentKey}
use Rattle.society_core.specs.declared.transmission_key.TransmissionKey.{TransmissionKey}
use Rattle.society_core.proofs.lemmas.KeyOrders.{exact_returns, exact_segments, exact_transmissions, returns_total, segments_total, transmissions_total}
use Rattle.society_core.proofs.lemmas.HeadlineLemmas.{past_is_none}
use Rattle.society_rows.specs.Layout as layout
use Rattle.society_rows.specs.Stored.{rows_in}
use Rattle.book_audit.specs.Entries.{AreEndsAbove, HoldsEntries, IsAbove, has_body, has_end, is_right_return, is_right_sent, is_right_stated}
use Rattle.society_book.specs.Sources.{HasEnds, KeepsBodies}
use Rattle.society_book.specs.BookRows.{book_of, end_of, end_row, is_end_row, is_return_row, is_transmission_row, return_key_of, return_row, segment_key_of, transmission_key_of, transmission_row}
use Rattle.society_book.specs.Columns.{blob_at, segment_place_at, whole_number_at, text_at}
use Rattle.book_audit.specs.Paying.{unpaid}
use Rattle.society_book.proofs.lemmas.shown.AskLemmas.{second_true}
use Rattle.society_book.proofs.lemmas.rows_alike.BookLemmas.{returns_tie, segments_tie, transmissions_tie}
use Rattle.book_audit.proofs.lemmas.entries.RowForms.{is_unfilled, return_form, sent_form, stated_form}
use Rattle.book_audit.proofs.lemmas.gathered.KeptRows.{had_by, kept_once}
use Rattle.work_ids.specs.Segments.{segment_of}

-- the tables keep exactly the bodies of the book that they stand for
pub keeps_entries : (these : List (List ℕ)) (db : Trees) → HoldsEntries these db → KeepsBodies (book_of db) db
unfolding book_of
keeps_entries these db holds = record {
  transmissions = kept_once transmissions_total exact_transmissions is_transmission_row transmission_key_of (λ q r. transmissions_tie q (transmission_key_of r)) (blob_at 2) transmission_row (λ r. is_right_sent r ≡ true) sent_form (rows_in layout.transmissions db) holds.transmissions.right holds.transmissions.once;
  returns = kept_once returns_total exact_returns is_return_row return_key_of (λ q r. returns_tie q (return_key_of r)) (blob_at 2) return_row (λ r. is_right_return r ≡ true) return_form (rows_in layout.returns db) holds.returns.right holds.returns.once;
}

-- and exactly its ends
pub keeps_ends : (these : List (List ℕ)) (db : Trees) → HoldsEntries these db → HasEnds (book_of db) db
unfolding book_of
keeps_ends these db holds =
    kept_once segments_total exact_segments is_end_row segment_key_of (λ q r. segments_tie q (segment_key_of r)) end_of end_row (λ r. is_right_stated r ≡ true) stated_form (rows_in layout.segment_ends db) holds.ends.right holds.ends.once

no_pool : (pool : ℕ) (order : Order) → finite.get (finite.empty {X = Order} {R = nat_cmp}) pool ≡ Some order → ⊥
no_pool pool order there = (let e = sym (finite.get-empty nat_cmp pool) ∙ there in cc)

all_both : {X : Type 0} (P Q : X → Type 0) (xs : List X) → AllByRecursion P xs → AllByRecursion Q xs → AllByRecursion (λ x. P x × Q x) xs
all_both P Q [] p q = tt
all_both P Q (x ∷ xs) p q = ((p.0, q.0), all_both P Q xs p.1 q.1)

-- a row may stand in a book, above all its transmissions
abbrev IsRightAbove : Book → Row → Type 0
IsRightAbove b r = (is_right_stated r ≡ true) × IsAbove b r

-- each transmission is within the end of its segment
within_ends : (these : List (List ℕ)) (db : Trees) → HoldsEntries these db → AreEndsAbove db → (sender : List ℕ) (number : ℕ) → is_there (book_of db) sender number ≡ true → IsWithinEnd (ends_of (book_of db) sender) number
unfolding book_of
within_ends these db holds above sender number there end stated =
    let b = book_of db in
    let kept = keeps_entries these db holds in
    let found = had_by segments_total exact_segments is_end_row segment_key_of (λ q r. segments_tie q (segment_key_of r)) end_of end_row (IsRightAbove b) (λ r h. stated_form r h.0) (rows_in layout.segment_ends db)
    (all_both (λ r. is_right_stated r ≡ true) (IsAbove b) (rows_in layout.segment_ends db) holds.ends.right (above b kept.transmissions)) (segment_key sender (segment_of number)) end stated in
    let r = found.0 in
    let here : number_past b (text_at 0 r) (segment_place_at 1 r) (whole_number_at 2 r) ≡ None = found.1.1 in
    let none : number_past b sender (segment_of number) end.last ≡ None =
    subst (λ (e : End). number_past b sender (segment_of number) e.last ≡ None) found.3
    (subst (λ (key : SegmentKey). number_past b key.sender key.segment (end_of r).last ≡ None) (sym found.2) here) in
    past_is_none b sender (segment_of number) end.last number none there refl

-- and that book is sound without its pools
pub sound_entries : (these : List (List ℕ)) (db : Trees) → HoldsEntries these db → AreEndsAbove db → IsSound (unpaid (book_of db))
unfolding book_of
sound_entries these db holds above = record {
  transmissions = λ sender number body has.
      let found = had_by transmissions_total exact_transmissions is_transmission_row transmission_key_of (λ q r. transmissions_tie q (transmission_key_of r)) (blob_at 2) transmission_row (λ r. is_right_sent r ≡ true) sent_form (rows_in layout.transmissions db) holds.transmissions.right (transmission_key sender number) body has in
      let r = found.0 in
      subst (λ (key : TransmissionKey). is_entry key.sender key.number body ≡ true) (sym found.2)
      (subst (λ (bytes : List ℕ). is_entry (text_at 0 r) (whole_number_at 1 r) bytes ≡ true) found.3 (second_true (has_body r) (is_entry (text_at 0 r) (whole_number_at 1 r) (blob_at 2 r)) found.1));
  ends = λ sender segment end has.
      let found = had_by segments_total exact_segments is_end_row segment_key_of (λ q r. segments_tie q (segment_key_of r)) end_of end_row (λ r. is_right_stated r ≡ true) stated_form (rows_in layout.segment_ends db) holds.ends.right (segment_key sender segment) end has in
      let r = found.0 in
      subst (λ (key : SegmentKey). is_end_entry key.sender key.segment end ≡ true) (sym found.2)
      (subst (λ (e : End). is_end_entry (text_at 0 r) (segment_place_at 1 r) e ≡ true) found.3 (second_true (has_end r) (is_end_entry (text_at 0 r) (segment_place_at 1 r) (end_of r)) found.1));
  within = λ sender number there. within_ends these db holds above sender number there;
  returns = λ key body has.
      let found = had_by returns_total exact_returns is_return_row return_key_of (λ q r. returns_tie q (return_key_of r)) (blob_at 2) return_row (λ r. is_right_return r ≡ true) return_form (rows_in layout.returns db) holds.returns.right key body has in
      let r = found.0 in
      subst (λ (k : ReturnKey). is_return_entry k body ≡ true) (sym found.2)
      (subst (λ (bytes : List ℕ). is_return_entry (return_key_of r) bytes ≡ true) found.3 (second_true (has_body r && is_unfilled r) (is_return_entry (return_key_of r) (blob_at 2 r)) found.1));
  pools = λ pool order there. absurd (no_pool pool order there);
  orders = λ pool order there. absurd (no_pool pool order there);
  paid_once = λ pool other order another key there also names names_too. absurd (no_pool pool order there);
}
