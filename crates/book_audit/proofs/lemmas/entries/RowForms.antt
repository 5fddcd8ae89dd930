-- What a right row is: its columns.
use Rattle.std.proofs.Common.{◌≡◌, ◌∙◌, ◌≤◌, ◌<◌, ◌^◌, ◌&&◌, ◌==◌, ℕ, suc, zero, Bool, true, false, List, [], ◌∷◌, refl, ap, ap₂, sym, subst, arith, bytes_eq, length, nat_le, nat_lt, pos, negsuc}
use Rattle.std.proofs.lemmas.Bool.{false≢true, leb-true}
use Rattle.std.proofs.lemmas.Bool.Decides.{Decides-eqb, nat_tests}
use Rattle.std.proofs.lemmas.Slice.Eq.{bytes_eq-Decides}
use Rattle.sqlite_value.specs.Order.{Row}
use Rattle.sqlite_value.specs.declared.value.Value.{Value}
use Rattle.sqlite_value.specs.declared.value.Value.TheVariants.{Blob, Int, Null, Real, Text}
use Rattle.society_core.specs.Book.{is_end_entry, is_entry, is_return_entry}
use Rattle.society_rows.specs.Forms.{IsOfForms, segment_end_forms}
use Rattle.society_rows.specs.SegmentColumns.{segment_column}
use Rattle.society_book.specs.BookRows.{end_of, end_row, return_key_of, return_row, segment_key_of, transmission_key_of, transmission_row}
use Rattle.society_book.specs.Columns.{blob_at, blob_of, segment_of_value, segment_place_at, text_at, text_of, whole_number_at, whole_number_of}
use Rattle.society_book.proofs.lemmas.shown.AskLemmas.{first_true, second_true}
use Rattle.work_ids.specs.Blanks.{fill, without_trailing_blanks}
use Rattle.work_ids.specs.Segments.{most_in}
use Rattle.work_ids.specs.SenderKey.{is_sender_key}
use Rattle.book_audit.specs.Entries.{has_body, has_end, is_blob, is_count, is_place, is_right_return, is_right_sent, is_right_stated, is_text}

pub text_is : (v : Value) → is_text v ≡ true → v ≡ Text (text_of v)
text_is (Text bytes) h = refl
text_is Null h = absurd (false≢true h)
text_is (Int n) h = absurd (false≢true h)
text_is (Real x) h = absurd (false≢true h)
text_is (Blob bytes) h = absurd (false≢true h)

pub count_is : (v : Value) → is_count v ≡ true → v ≡ Int (pos (whole_number_of v))
count_is (Int (pos n)) h = refl
count_is (Int (negsuc n)) h = absurd (false≢true h)
count_is Null h = absurd (false≢true h)
count_is (Text bytes) h = absurd (false≢true h)
count_is (Real x) h = absurd (false≢true h)
count_is (Blob bytes) h = absurd (false≢true h)

blob_is : (v : Value) → is_blob v ≡ true → v ≡ Blob (blob_of v)
blob_is (Blob bytes) h = refl
blob_is Null h = absurd (false≢true h)
blob_is (Int n) h = absurd (false≢true h)
blob_is (Real x) h = absurd (false≢true h)
blob_is (Text bytes) h = absurd (false≢true h)

-- its columns
pub body_form : (r : Row) → has_body r ≡ true → r ≡ Text (text_at 0 r) ∷ Int (pos (whole_number_at 1 r)) ∷ Blob (blob_at 2 r) ∷ []
body_form [] h = absurd (false≢true h)
body_form (a ∷ []) h = absurd (false≢true h)
body_form (a ∷ b ∷ []) h = absurd (false≢true h)
body_form (a ∷ b ∷ c ∷ []) h =
    let blob = second_true (is_text a && is_count b) (is_blob c) h in
    let both = first_true (is_text a && is_count b) (is_blob c) h in
    ap₂ (λ x y. x ∷ y ∷ c ∷ []) (text_is a (first_true (is_text a) (is_count b) both)) (count_is b (second_true (is_text a) (is_count b) both))
    ∙ ap (λ z. Text (text_of a) ∷ Int (pos (whole_number_of b)) ∷ z ∷ []) (blob_is c blob)
body_form (a ∷ b ∷ c ∷ d ∷ r) h =
    let three : (length (a ∷ b ∷ c ∷ d ∷ r) == 3) ≡ true = first_true (length (a ∷ b ∷ c ∷ d ∷ r) == 3) (is_text a) (first_true (length (a ∷ b ∷ c ∷ d ∷ r) == 3 && is_text a) (is_count b) (first_true (length (a ∷ b ∷ c ∷ d ∷ r) == 3 && is_text a && is_count b) (is_blob c) h)) in
    absurd (let same = (Decides-eqb (length (a ∷ b ∷ c ∷ d ∷ r)) 3).0 three in omega (same, arith))

place_is : (v : Value) → is_place v ≡ true → v ≡ Int (segment_column (segment_of_value v))
place_is (Int (pos year)) h = refl
place_is (Int (negsuc zero)) h = refl
place_is (Int (negsuc (suc n))) h = absurd (false≢true h)
place_is Null h = absurd (false≢true h)
place_is (Real x) h = absurd (false≢true h)
place_is (Text bytes) h = absurd (false≢true h)
place_is (Blob bytes) h = absurd (false≢true h)

-- the columns of a row of an end
pub end_form : (r : Row) → has_end r ≡ true → r ≡ end_row (segment_key_of r) (end_of r)
end_form [] h = absurd (false≢true h)
end_form (a ∷ []) h = absurd (false≢true h)
end_form (a ∷ b ∷ []) h = absurd (false≢true h)
end_form (a ∷ b ∷ c ∷ []) h = absurd (false≢true h)
end_form (a ∷ b ∷ c ∷ d ∷ []) h =
    let next = second_true (is_text a && is_place b && is_count c) (is_place d) h in
    let three = first_true (is_text a && is_place b && is_count c) (is_place d) h in
    let last = second_true (is_text a && is_place b) (is_count c) three in
    let both = first_true (is_text a && is_place b) (is_count c) three in
    ap₂ (λ x y. x ∷ y ∷ c ∷ d ∷ []) (text_is a (first_true (is_text a) (is_place b) both)) (place_is b (second_true (is_text a) (is_place b) both))
    ∙ ap₂ (λ x y. Text (text_of a) ∷ Int (segment_column (segment_of_value b)) ∷ x ∷ y ∷ []) (count_is c last) (place_is d next)
end_form (a ∷ b ∷ c ∷ d ∷ e ∷ r) h =
    let four : (length (a ∷ b ∷ c ∷ d ∷ e ∷ r) == 4) ≡ true =
    first_true (length (a ∷ b ∷ c ∷ d ∷ e ∷ r) == 4) (is_text a)
    (first_true (length (a ∷ b ∷ c ∷ d ∷ e ∷ r) == 4 && is_text a) (is_place b)
    (first_true (length (a ∷ b ∷ c ∷ d ∷ e ∷ r) == 4 && is_text a && is_place b) (is_count c)
    (first_true (length (a ∷ b ∷ c ∷ d ∷ e ∷ r) == 4 && is_text a && is_place b && is_count c) (is_place d) h))) in
    absurd (let same = (Decides-eqb (length (a ∷ b ∷ c ∷ d ∷ e ∷ r)) 4).0 four in omega (same, arith))

pub sent_form : (r : Row) → is_right_sent r ≡ true → r ≡ transmission_row (transmission_key_of r) (blob_at 2 r)
sent_form r right = body_form r (first_true (has_body r) (is_entry (text_at 0 r) (whole_number_at 1 r) (blob_at 2 r)) right)

pub stated_form : (r : Row) → is_right_stated r ≡ true → r ≡ end_row (segment_key_of r) (end_of r)
stated_form r right = end_form r (first_true (has_end r) (is_end_entry (text_at 0 r) (segment_place_at 1 r) (end_of r)) right)

-- whether the text of a row is that of the reporter that it is filled to
abbrev pub is_unfilled : Row → Bool
is_unfilled r = bytes_eq (without_trailing_blanks (fill 20 (text_at 0 r))) (text_at 0 r)

pub return_form : (r : Row) → is_right_return r ≡ true → r ≡ return_row (return_key_of r) (blob_at 2 r)
return_form r right =
    let both = first_true (has_body r && is_unfilled r) (is_return_entry (return_key_of r) (blob_at 2 r)) right in
    let same : without_trailing_blanks (fill 20 (text_at 0 r)) ≡ text_at 0 r = (bytes_eq-Decides (without_trailing_blanks (fill 20 (text_at 0 r))) (text_at 0 r)).0 (second_true (has_body r) (is_unfilled r) both) in
    body_form r (first_true (has_body r) (is_unfilled r) both) ∙ ap (λ (text : List ℕ). Text text ∷ Int (pos (whole_number_at 1 r)) ∷ Blob (blob_at 2 r) ∷ []) (sym same)

five : (a b c d e : Bool) → (a && b && c && d && e) ≡ true → (a ≡ true) × (b ≡ true) × (c ≡ true) × (d ≡ true) × (e ≡ true)
five true true true true true h = (refl, refl, refl, refl, refl)
five true true true true false h = absurd (false≢true h)
five true true true false e h = absurd (false≢true h)
five true true false d e h = absurd (false≢true h)
five true false c d e h = absurd (false≢true h)
five false b c d e h = absurd (false≢true h)

-- what an end of a sound book says of its numbers
record IsRightEnd (row : Row) : Type 0 where
  sender : is_sender_key (text_at 0 row) ≡ true
  place : segment_place_at 1 row ≤ 100
  last : whole_number_at 2 row ≤ most_in (segment_place_at 1 row)
  later : segment_place_at 1 row < segment_place_at 3 row
  next : segment_place_at 3 row ≤ 100

right_end : (row : Row) → is_end_entry (text_at 0 row) (segment_place_at 1 row) (end_of row) ≡ true → IsRightEnd row
right_end row entry =
    let parts = five (is_sender_key (text_at 0 row)) (nat_le (segment_place_at 1 row) 100) (nat_le (whole_number_at 2 row) (most_in (segment_place_at 1 row))) (nat_lt (segment_place_at 1 row) (segment_place_at 3 row)) (nat_le (segment_place_at 3 row) 100) entry in
    record { sender = parts.0; place = leb-true _ _ parts.1; last = leb-true _ _ parts.2; later = below (segment_place_at 1 row) (segment_place_at 3 row) parts.3; next = leb-true _ _ parts.4 }
  where
    below : (a c : ℕ) → nat_lt a c ≡ true → a < c
    below a c h = grind (arith, nat_tests)

most : (g : ℕ) → most_in g ≤ 999999
most zero = omega arith
most (suc year) = omega arith

-- the place of a year is one behind the year
year_at : (place : ℕ) → 1 ≤ place → place ≤ 100 → (year : ℕ) × (segment_column place ≡ pos year) × (year < 2 ^ 32)
year_at zero some within = absurd (omega (some, arith))
year_at (suc year) some within = (year, refl, omega (within, arith))

-- a row of an end that may stand in a book can be read
pub entry_forms : (row : Row) → row ≡ end_row (segment_key_of row) (end_of row) → is_end_entry (text_at 0 row) (segment_place_at 1 row) (end_of row) ≡ true → IsOfForms segment_end_forms row
entry_forms row form entry =
    let parts = right_end row entry in
    let low = most (segment_place_at 1 row) in
    let last = parts.last in
    let later = parts.later in
    let year = year_at (segment_place_at 3 row) (omega (later, arith)) parts.next in
    subst (IsOfForms segment_end_forms) (sym form)
    (refl, ((text_at 0 row, refl), ((segment_place_at 1 row, refl, parts.place), ((whole_number_at 2 row, refl, omega (last, low, arith)), ((year.0, ap (λ v. Int v) year.1, year.2), tt)))))
