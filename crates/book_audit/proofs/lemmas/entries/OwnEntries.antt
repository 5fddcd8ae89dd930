-- The tables that have the own rows of a sound book have rows that may stand in it, each once, and no transmission above the end of its segment.
use Rattle.std.proofs.Common.{◌≡◌, ◌∙◌, ◌≤◌, ◌&&◌, ℕ, zero, suc, Bool, true, Option, Some, None, is_some, List, ap, arith, bytes_eq, filter, length, map, refl, subst, sym}
use Rattle.std.specs.List.{AllByRecursion}
use Rattle.std.proofs.lemmas.List.Sorted.{IsPermutation-sym}
use Rattle.std.proofs.lemmas.Slice.Eq.{bytes_eq-Decides}
use Rattle.sqlite_keyed.proofs.ListLemmas.{all_map}
use Rattle.sqlite_trees.proofs.ListLemmas.{all-permutation}
use Rattle.sqlite_trees.specs.Tree.{Trees}
use Rattle.sqlite_value.specs.Order.{Row}
use Rattle.sqlite_value.specs.declared.value.Value.TheVariants.{Int}
use Rattle.sender_segments.specs.Ways.{End}
use Rattle.society_core.specs.Book.{Book, body_at, end_at, is_end_entry, is_return_entry, return_at}
use Rattle.society_core.specs.Keys.{segment_key}
use Rattle.society_core.specs.declared.return_key.ReturnKey.{ReturnKey}
use Rattle.society_core.specs.declared.segment_key.SegmentKey.{SegmentKey}
use Rattle.society_core.specs.declared.transmission_key.TransmissionKey.{TransmissionKey}
use Rattle.society_rows.specs.Layout as layout
use Rattle.society_rows.specs.SegmentColumns.{segment_column}
use Rattle.society_rows.specs.Stored.{rows_in}
use Rattle.society_book.specs.BookRows.{end_of, end_row, end_rows, is_end_row, is_return_row, is_transmission_row, return_key_of, return_row, return_rows, row_of_some, segment_key_of, transmission_key_of, transmission_row, transmission_rows}
use Rattle.society_book.specs.Columns.{HasRows, segment_place_at, text_at, whole_number_at}
use Rattle.society_book.proofs.lemmas.rows_alike.BookLemmas.{IsRefilled, end_back, end_key_back, refilled}
use Rattle.society_book.proofs.lemmas.rows_alike.KeyRows.{both_same}
use Rattle.society_book.proofs.lemmas.rows_alike.RowLemmas.{all_rows, only}
use Rattle.book_audit.specs.OwnRows.{HoldsOwn}
use Rattle.book_audit.specs.Entries.{is_place, is_right_return, is_right_sent, is_right_stated}
use Rattle.book_audit.specs.Judging.{AreLasts, AreReported, AreSent, AreSentKeys, AreStated, AreUnder, IsUnder, last_stated}
use Rattle.book_audit.proofs.lemmas.entries.StatedRows.{IsUnderAll, Last, once_stated}
use Rattle.work_ids.specs.Blanks.{fill, without_trailing_blanks}
use Rattle.work_ids.specs.Segments.{segment_of}

-- of a key that has one row or none there is at most one
few_rows : {K X : Type 0} (is_of : K → Row → Bool) (row : K → X → Row) (at : K → Option X) (rows : List Row) → HasRows is_of (λ q. row_of_some (row q) (at q)) rows → (q : K) → length (filter (is_of q) rows) ≤ 1
few_rows {X} is_of row at rows has q = subst (λ (l : List Row). length l ≤ 1) (sym (only (row q) (at q) (filter (is_of q) rows) (has q))) (few (at q))
  where
    few : (o : Option X) → length (row_of_some (row q) o) ≤ 1
    few None = omega arith
    few (Some x) = omega arith

place_there : (place : ℕ) → is_place (Int (segment_column place)) ≡ true
place_there zero = refl
place_there (suc year) = refl

both_true : (a b : Bool) → a ≡ true → b ≡ true → (a && b) ≡ true
both_true a b first second = ap (λ (t : Bool). t && b) first ∙ second

module _ (b : Book) (db : Trees) (holds : HoldsOwn b db) where
  abbrev sent_rows : List Row
  sent_rows = rows_in layout.transmissions db

  abbrev end_of_rows : List Row
  end_of_rows = rows_in layout.segment_ends db

  abbrev reported_rows : List Row
  reported_rows = rows_in layout.returns db

  -- what holds of each transmission of the book holds of the rows
  each_sent : (P : Row → Type 0) → ((q : TransmissionKey) (body : List ℕ) → body_at b q.sender q.number ≡ Some body → P (transmission_row q body)) → AllByRecursion P sent_rows
  each_sent P good =
      all_rows is_transmission_row transmission_key_of (λ r. both_same (text_at 0 r) (whole_number_at 1 r)) P (transmission_rows b) sent_rows holds.kept.transmissions (λ q. told q (body_at b q.sender q.number) refl)
    where
      told : (q : TransmissionKey) (x : Option (List ℕ)) → body_at b q.sender q.number ≡ x → AllByRecursion P (row_of_some (transmission_row q) x)
      told q None is = tt
      told q (Some body) is = (good q body is, tt)

  each_stated : (P : Row → Type 0) → ((q : SegmentKey) (end : End) → end_at b q.sender q.segment ≡ Some end → P (end_row q end)) → AllByRecursion P end_of_rows
  each_stated P good =
      all_rows is_end_row segment_key_of (λ r. both_same (text_at 0 r) (segment_place_at 1 r)) P (end_rows b) end_of_rows holds.kept.ends (λ q. told q (end_at b q.sender q.segment) refl)
    where
      told : (q : SegmentKey) (x : Option End) → end_at b q.sender q.segment ≡ x → AllByRecursion P (row_of_some (end_row q) x)
      told q None is = tt
      told q (Some end) is = (good q end is, tt)

  each_reported : (P : Row → Type 0) → ((q : ReturnKey) (body : List ℕ) → return_at b q ≡ Some body → P (return_row q body)) → AllByRecursion P reported_rows
  each_reported P good =
      all_rows is_return_row return_key_of (λ r. both_same (fill 20 (text_at 0 r)) (whole_number_at 1 r)) P (return_rows b) reported_rows holds.kept.returns (λ q. told q (return_at b q) refl)
    where
      told : (q : ReturnKey) (x : Option (List ℕ)) → return_at b q ≡ x → AllByRecursion P (row_of_some (return_row q) x)
      told q None is = tt
      told q (Some body) is = (good q body is, tt)

  pub own_sent : AreSent db
  own_sent = record {
    right = each_sent (λ r. is_right_sent r ≡ true) (λ q body is. holds.sound.transmissions q.sender q.number body is);
    once = few_rows is_transmission_row transmission_row (λ q. body_at b q.sender q.number) sent_rows holds.kept.transmissions;
  }

  right_end : (q : SegmentKey) (end : End) → end_at b q.sender q.segment ≡ Some end → is_right_stated (end_row q end) ≡ true
  right_end q end is =
      let here = is_place (Int (segment_column q.segment)) in
      let next = is_place (Int (segment_column end.next)) in
      both_true (here && true && next) (is_end_entry (text_at 0 (end_row q end)) (segment_place_at 1 (end_row q end)) (end_of (end_row q end))) (both_true (here && true) next (both_true here true (place_there q.segment) refl) (place_there end.next))
      (subst (λ (k : SegmentKey). is_end_entry k.sender k.segment (end_of (end_row q end)) ≡ true) (sym (end_key_back q end))
      (subst (λ (e : End). is_end_entry q.sender q.segment e ≡ true) (sym (end_back q end)) (holds.sound.ends q.sender q.segment end is)))

  pub own_stated : AreStated db
  own_stated = record {
    right = each_stated (λ r. is_right_stated r ≡ true) right_end;
    once = few_rows is_end_row end_row (λ q. end_at b q.sender q.segment) end_of_rows holds.kept.ends;
  }

  right_reported : (q : ReturnKey) (body : List ℕ) → return_at b q ≡ Some body → is_right_return (return_row q body) ≡ true
  right_reported q body is =
      let whole : IsRefilled q = refilled b reported_rows holds.kept.returns q (ap is_some is) in
      let text = without_trailing_blanks q.reporter in
      both_true (bytes_eq (without_trailing_blanks (fill 20 text)) text) (is_return_entry (return_key_of (return_row q body)) body)
      ((bytes_eq-Decides (without_trailing_blanks (fill 20 text)) text).1 (ap without_trailing_blanks whole))
      (subst (λ (reporter : List ℕ). is_return_entry (record { reporter = reporter; number = q.number }) body ≡ true) (sym whole) (holds.sound.returns q body is))

  pub own_reported : AreReported db
  own_reported = record {
    right = each_reported (λ r. is_right_return r ≡ true) right_reported;
    once = few_rows is_return_row return_row (return_at b) reported_rows holds.kept.returns;
  }

  -- no transmission of the book is above the end of its segment
  pub own_under : (keys : List TransmissionKey) (lasts : List Last) → AreSentKeys db keys → AreLasts db lasts → AreUnder keys lasts
  own_under keys lasts sent these = record {
    once = once_stated db lasts these own_stated;
    under = all-permutation (IsUnderAll lasts) (map transmission_key_of sent_rows) keys (IsPermutation-sym keys (map transmission_key_of sent_rows) sent)
        (all_map (IsUnderAll lasts) transmission_key_of sent_rows
        (each_sent (λ r. IsUnderAll lasts (transmission_key_of r))
        (λ q body is.
        all-permutation (IsUnder q) (map last_stated end_of_rows) lasts (IsPermutation-sym lasts (map last_stated end_of_rows) these)
        (all_map (IsUnder q) last_stated end_of_rows
        (each_stated (λ r. IsUnder q (last_stated r)) (λ k end there same. holds.sound.within q.sender q.number (ap is_some is) end (at_key q k end there (sym (end_key_back k end) ∙ same))))))));
  }
    where
      at_key : (q : TransmissionKey) (k : SegmentKey) (end : End) → end_at b k.sender k.segment ≡ Some end → k ≡ segment_key q.sender (segment_of q.number) → end_at b q.sender (segment_of q.number) ≡ Some end
      at_key q k end there same = subst (λ (x : SegmentKey). end_at b x.sender x.segment ≡ Some end) same there
