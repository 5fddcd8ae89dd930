-- Facts on fields: blanks, fills and digits.
use Rattle.std.proofs.Common.{◌≡◌, ℕ, ◌+◌, ◌-◌, ◌<◌, ◌≤◌, Bool, true, false, ◌&&◌, List, [], ◌∷◌, ◌++◌, length, take, drop, replicate, None, refl, ap, sym, ◌∙◌, arith, suc, zero, min, IsTrue, ◌↔◌}
use Rattle.std.specs.List.{prefix_len, suffix_len}
use Rattle.work_ids.specs.Blanks.{is_blank_byte, trimmed, without_leading_blanks, without_trailing_blanks}
use Rattle.std.specs.List.{list_all}
use Rattle.std.proofs.lemmas.List.{append-nil, append_assoc, replicate-append-replicate, take-append-le, reverse-append, take_at, drop_at, take-append-drop, length-append, length-replicate, length-drop, length-take, take_min, drop_min}
use Rattle.std.proofs.Math.Bool.{and-false, and-true}
use Rattle.std.proofs.lemmas.List.Folds.{list_all-append}
use Rattle.std.proofs.lemmas.List.Sums.{AllPass-from_list_all}
use Rattle.work_ids.proofs.lemmas.Trailing.{copies_pass, replicated}
use Rattle.cwr_records.specs.Lines.{is_blank, fill_field, field}
use Rattle.work_ids.specs.Characters.{is_digit}
use Rattle.work_ids.specs.Digits.{decimal_value}

-- blanks are blank
pub is_blank-replicate : (n : ℕ) → is_blank (replicate n 32) ≡ true
unfolding is_blank
is_blank-replicate n = copies_pass is_blank_byte 32 refl n

-- bytes that are blank are as many blanks
pub blanks : (bs : List ℕ) → is_blank bs ≡ true → bs ≡ replicate (length bs) 32
unfolding is_blank
blanks bs h = replicated bs (λ k within. AllPass-from_list_all is_blank_byte bs h k 0 within)

-- blanks after bytes change nothing about whether they are blank
pub is_blank-filled : (present : List ℕ) (n : ℕ) → is_blank present ≡ is_blank (present ++ replicate n 32)
unfolding is_blank
is_blank-filled present n =
    sym (list_all-append is_blank_byte present (replicate n 32) ∙ ap (λ (t : Bool). list_all is_blank_byte present && t) (is_blank-replicate n) ∙ and-true _)

-- a text is what is there and then blanks, where it begins with it and goes on with blanks
pub filled-same : (present text : List ℕ) (width : ℕ) → length present ≤ width → length text ≡ width → take (length present) text ≡ present → is_blank (drop (length present) text) ≡ true → present ++ replicate (width - length present) 32 ≡ text
filled-same present text width within full front rest =
    let more = blanks _ rest in
    let n : length (drop (length present) text) ≡ width - length present = omega (arith, length-drop (length present) text) in
    let joined = take-append-drop (length present) text in
    cc

-- what a text that is so filled begins with
pub filled-front : (present text : List ℕ) (n : ℕ) → present ++ replicate n 32 ≡ text → take (length present) text ≡ present
filled-front present text n same = rw (← same) (take_at present (replicate n 32) (length present) refl)

pub filled-rest : (present text : List ℕ) (n : ℕ) → present ++ replicate n 32 ≡ text → is_blank (drop (length present) text) ≡ true
filled-rest present text n same = rw (← same, drop_at present (replicate n 32) (length present) refl) (is_blank-replicate n)

pub filled-length : (present : List ℕ) (width : ℕ) → length present ≤ width → length (present ++ replicate (width - length present) 32) ≡ width
filled-length present width within = omega (arith, length-append present (replicate (width - length present) 32), length-replicate {A = ℕ} (width - length present) 32)

-- a text whose front is right is what is there, filled up, exactly where it goes on with blanks
pub filled-decides : (present text now : List ℕ) (width : ℕ) (r : Bool) → length present ≤ width → length text ≡ width → present ++ replicate (width - length present) 32 ≡ now → take (length present) text ≡ present → r ≡ list_all is_blank_byte (drop (length present) text) → IsTrue r ↔ (now ≡ text)
unfolding is_blank
filled-decides present text now width r within full view front rest = (
  λ t. sym view ∙ filled-same present text width within full front (sym rest ∙ t),
  λ e. rest ∙ filled-rest present text (width - length present) (view ∙ e),
)

-- and a text with another front is not
pub filled-differs : (present text now : List ℕ) (n : ℕ) → present ++ replicate n 32 ≡ now → (take (length present) text ≡ present → ⊥) → IsTrue false ↔ (now ≡ text)
filled-differs present text now n view other = (λ t. cc, λ e. absurd (other (filled-front present text n (view ∙ e))))

-- what is blank at its end is no number
pub number_of-blank : (present : List ℕ) (n : ℕ) → 0 < n → None ≡ decimal_value (present ++ replicate n 32)
unfolding decimal_value
number_of-blank present zero some = absurd (omega arith)
number_of-blank present (suc n) some =
    rw (list_all-append is_digit present (replicate (suc n) 32), and-false (list_all is_digit present), and-false _) refl

-- a field is what the line has there, filled up
pub field-clipped : (line piece : List ℕ) (first last : ℕ) → 1 ≤ first → first ≤ last → piece ≡ take (min (last - (first - 1)) (length (drop (min (first - 1) (length line)) line))) (drop (min (first - 1) (length line)) line) → fill_field (last - (first - 1)) piece ≡ field line first last
unfolding field
field-clipped line piece first last one order p =
    let w : last + 1 - first ≡ last - (first - 1) = omega arith in
    rw (w, p, take_min (last - (first - 1)) (drop (min (first - 1) (length line)) line), drop_min (first - 1) line) refl

-- as many bytes as the width stay as they are
pub fill-whole : (bs : List ℕ) → fill_field (length bs) bs ≡ bs
unfolding fill_field
fill-whole bs =
    let none : length bs - length bs ≡ 0 = omega arith in
    rw (none, append-nil bs) refl

trailing-one : (bs : List ℕ) → without_trailing_blanks (bs ++ 32 ∷ []) ≡ without_trailing_blanks bs
trailing-one bs =
    let last : List ℕ = 32 ∷ [] in
    let n : ℕ = suffix_len is_blank_byte bs in
    let more : suffix_len is_blank_byte (bs ++ last) ≡ 1 + n = ap (prefix_len is_blank_byte) (reverse-append bs last) in
    let size : length (bs ++ last) ≡ length bs + 1 = length-append bs last in
    let left : length bs + 1 - (1 + n) ≡ length bs - n = omega arith in
    let within : length bs - n ≤ length bs = omega arith in
    ap (λ (k : ℕ). take (length (bs ++ last) - k) (bs ++ last)) more ∙ ap (λ (k : ℕ). take (k - (1 + n)) (bs ++ last)) size ∙ ap (λ (k : ℕ). take k (bs ++ last)) left ∙ take-append-le (length bs - n) bs last within

-- blanks at the end change nothing about the bytes in front of the blanks at the end
pub trailing-filled : (bs : List ℕ) (n : ℕ) → without_trailing_blanks (bs ++ replicate n 32) ≡ without_trailing_blanks bs
trailing-filled bs zero = ap without_trailing_blanks (append-nil bs)
trailing-filled bs (suc n) =
    let one : List ℕ = 32 ∷ [] in
    ap without_trailing_blanks (sym (append_assoc bs one (replicate n 32))) ∙ trailing-filled (bs ++ one) n ∙ trailing-one bs

-- nor about the bytes between the blanks at both ends
pub trimmed-filled : (bs : List ℕ) (n : ℕ) → trimmed (bs ++ replicate n 32) ≡ trimmed bs
unfolding trimmed
trimmed-filled bs n = ap without_leading_blanks (trailing-filled bs n)

-- bytes without blanks at their ends are no more than with them
pub length-trimmed : (bs : List ℕ) → length (trimmed bs) ≤ length bs
unfolding trimmed
length-trimmed bs =
    let front = without_trailing_blanks bs in
    omega (arith, length-drop (prefix_len is_blank_byte front) front, length-take (length bs - suffix_len is_blank_byte bs) bs)

-- a filled list is filled further as the list itself is
pub fill-filled : (width more : ℕ) (bs : List ℕ) → length bs ≤ width → width ≤ more → fill_field more bs ≡ fill_field more (bs ++ replicate (width - length bs) 32)
unfolding fill_field
fill-filled width more bs within wider =
    let size = filled-length bs width within in
    let parts : more - length bs ≡ (width - length bs) + (more - width) = omega arith in
    rw (size, append_assoc, replicate-append-replicate, parts) refl
