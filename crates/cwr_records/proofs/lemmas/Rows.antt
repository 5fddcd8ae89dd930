-- Facts on the rows that are written by a layout.
use Rattle.std.proofs.Common.{◌≡◌, ℕ, ◌+◌, ◌-◌, ◌<◌, ◌≤◌, Bool, true, false, eqb, leb, ltb, not, ◌&&◌, List, [], ◌∷◌, ◌++◌, length, take, drop, replicate, get_or, map, refl, ap, sym, ◌∙◌, arith, IsTrue, Result, Ok, Err, OnOk}
use Rattle.std.proofs.lemmas.Bool.{and_parts}
use Rattle.std.proofs.lemmas.Bool.Decides.{nat_tests}
use Rattle.std.proofs.lemmas.List.{append_assoc, drop_more, take-append-le, take_at, drop_at, length-append, length-map, length-replicate, get_or-map, get_or_at}
use Rattle.std.proofs.lemmas.List.Folds.{list_all-append}
use Rattle.std.proofs.lemmas.Grind.{same_number_lists}
use Rattle.std.specs.List.{list_all}
use Rattle.cwr_records.specs.declared.layout.Position.{Position}
use Rattle.cwr_records.specs.Layouts.{row_behind, is_ordered, nowhere, width_of, fields_at, is_one_line, ended, Place, row, is_layout, positions_of}
use Rattle.cwr_records.specs.Records.{record_of, IsReadBack}
use Rattle.cwr_records.specs.declared.record.Record.{Record}
use Rattle.cwr_records.specs.Lines.{field, pieces, lines, line_of_piece, without_last}
use Rattle.work_ids.proofs.lemmas.Trailing.{copies_pass}
use Rattle.cwr_records.proofs.lemmas.Fields.{fill-whole}

-- one more field on what is written so far, with the blanks in front of it
pub row-next : (ps : List Position) (cs : List (List ℕ)) (i behind : ℕ) (start blanks more : List ℕ) → i < length ps → i < length cs → blanks ≡ start ++ replicate ((get_or ps i nowhere).from - 1 - behind) 32 → more ≡ blanks ++ get_or cs i [] → more ++ row_behind (get_or ps i nowhere).to (drop (i + 1) ps) (drop (i + 1) cs) ≡ start ++ row_behind behind (drop i ps) (drop i cs)
row-next ps cs i behind start blanks more within counted b m =
    rw (drop_more ps i nowhere within, drop_more cs i [] counted, m, b) (simp append_assoc)

ordered-parts : (a b c : ℕ) (t : Bool) → (ltb a b && leb b c && t) ≡ true → (a < b) × (b ≤ c) × (t ≡ true)
ordered-parts a b c t h = (grind (arith, nat_tests), grind (arith, nat_tests), grind (arith, nat_tests))

-- what is known of the next position where the rest is in order
pub ordered-next : (ps : List Position) (i behind : ℕ) → i < length ps → is_ordered behind (drop i ps) ≡ true → (behind < (get_or ps i nowhere).from) × ((get_or ps i nowhere).from ≤ (get_or ps i nowhere).to) × (is_ordered (get_or ps i nowhere).to (drop (i + 1) ps) ≡ true)
ordered-next ps i behind within h =
    let p = get_or ps i nowhere in
    ordered-parts behind p.from p.to (is_ordered p.to (drop (i + 1) ps)) (rw (drop_more ps i nowhere within) at h)

-- what was there stays in front
pub kept-next : (start out blanks field more : List ℕ) → take (length start) out ≡ start → length start ≤ length out → more ≡ (out ++ blanks) ++ field → (take (length start) more ≡ start) × (length start ≤ length more)
kept-next start out blanks field more kept grown m = (
  rw (m, append_assoc) (take-append-le (length start) out (blanks ++ field) grown ∙ kept),
  omega (arith, ap length m, length-append (out ++ blanks) field, length-append out blanks),
)

-- all contents have their widths, where each one has
pub widths-all : (ps : List Position) (cs : List (List ℕ)) (n : ℕ) → length cs ≡ length ps → length ps ≤ n → ((k : ℕ) → k < n → length (get_or cs k []) ≡ width_of (get_or ps k nowhere)) → map length cs ≡ map width_of ps
widths-all ps cs n counted all each =
    same_number_lists (map length cs) (map width_of ps) (length-map cs length ∙ counted ∙ sym (length-map ps width_of))
    (λ k h.
    let in_cs : k < length cs = omega (arith, length-map cs (length {A = ℕ})) in
    let in_ps : k < length ps = omega arith in
    let below : k < n = omega arith in
    get_or-map length cs k [] 0 in_cs ∙ each k below ∙ sym (get_or-map width_of ps k nowhere 0 in_ps))

-- a field that a line has in full is what stands there
pub field-at : (front content rest : List ℕ) (first last : ℕ) → 1 ≤ first → first ≤ last → length front + 1 ≡ first → length content ≡ last + 1 - first → field (front ++ (content ++ rest)) first last ≡ content
unfolding field
field-at front content rest first last one order f w =
    let before : first - 1 ≡ length front = omega arith in
    let d : drop (first - 1) (front ++ (content ++ rest)) ≡ content ++ rest = rw before (drop_at front (content ++ rest) (length front) refl) in
    rw (d, ← w, take_at content rest (length content) refl) (fill-whole content)

-- a row that begins behind some front has each content at its position
pub fields-row : (ps : List Position) (cs : List (List ℕ)) (front : List ℕ) (behind : ℕ) → length front ≡ behind → is_ordered behind ps ≡ true → map length cs ≡ map width_of ps → fields_at ps (front ++ row_behind behind ps cs) ≡ cs
fields-row [] [] front behind at ordered widths = refl
fields-row [] (c ∷ cs) front behind at ordered widths = cc
fields-row (p ∷ ps) [] front behind at ordered widths = cc
fields-row (p ∷ ps) (c ∷ cs) front behind at ordered widths =
    let parts = ordered-parts behind p.from p.to (is_ordered p.to ps) ordered in
    let width : length c ≡ width_of p = cc in
    let more : map length cs ≡ map width_of ps = cc in
    let blanks : List ℕ = replicate (p.from - 1 - behind) 32 in
    let start : length (front ++ blanks) + 1 ≡ p.from = omega (arith, length-append front blanks, length-replicate {A = ℕ} (p.from - 1 - behind) 32) in
    let end : length ((front ++ blanks) ++ c) ≡ p.to = omega (arith, length-append (front ++ blanks) c) in
    let line : front ++ (blanks ++ (c ++ row_behind p.to ps cs)) ≡ (front ++ blanks) ++ (c ++ row_behind p.to ps cs) = sym (append_assoc front blanks (c ++ row_behind p.to ps cs)) in
    let longer : front ++ (blanks ++ (c ++ row_behind p.to ps cs)) ≡ ((front ++ blanks) ++ c) ++ row_behind p.to ps cs = line ∙ sym (append_assoc (front ++ blanks) c (row_behind p.to ps cs)) in
    let head : field (front ++ (blanks ++ (c ++ row_behind p.to ps cs))) p.from p.to ≡ c = ap (λ (l : List ℕ). field l p.from p.to) line ∙ field-at (front ++ blanks) c (row_behind p.to ps cs) p.from p.to (omega arith) parts.1 start width in
    let tail : fields_at ps (front ++ (blanks ++ (c ++ row_behind p.to ps cs))) ≡ cs = ap (fields_at ps) longer ∙ fields-row ps cs ((front ++ blanks) ++ c) p.to end parts.2 more in
    cc

abbrev no_lf : List ℕ → Bool
no_lf bs = list_all (λ b. not (eqb b 10)) bs

no_lf-blanks : (n : ℕ) → no_lf (replicate n 32) ≡ true
no_lf-blanks n = copies_pass (λ b. not (eqb b 10)) 32 refl n

-- a row of contents that hold no LF holds none
pub no_lf-row : (ps : List Position) (cs : List (List ℕ)) (behind : ℕ) → is_one_line cs ≡ true → no_lf (row_behind behind ps cs) ≡ true
no_lf-row [] cs behind h = refl
no_lf-row (p ∷ ps) [] behind h = refl
no_lf-row (p ∷ ps) (c ∷ cs) behind h =
    let parts = and_parts (no_lf c) (is_one_line cs) h in
    let blanks = replicate (p.from - 1 - behind) 32 in
    let rest = row_behind p.to ps cs in
    let first = list_all-append (λ b. not (eqb b 10)) blanks (c ++ rest) in
    let second = list_all-append (λ b. not (eqb b 10)) c rest in
    rw (first, second, no_lf-blanks (p.from - 1 - behind), parts.0, no_lf-row ps cs p.to parts.1) refl

-- a line that holds no LF, with its line end, is the first piece of what it begins
pub pieces-ended : (line rest : List ℕ) → no_lf line ≡ true → pieces (ended line ++ rest) ≡ ended line ∷ pieces rest
pieces-ended [] rest h = refl
pieces-ended (b ∷ bs) rest h =
    let parts = and_parts (not (eqb b 10)) (no_lf bs) h in
    let other : eqb b 10 ≡ false = grind (arith, nat_tests) in
    rw (other, pieces-ended bs rest parts.1) refl

without_last-push : (b : ℕ) (xs : List ℕ) → without_last b (xs ++ b ∷ []) ≡ xs
without_last-push b xs =
    let n : length (xs ++ b ∷ []) - 1 ≡ length xs = omega (arith, length-append xs (b ∷ [])) in
    let same : eqb b b ≡ true = grind (arith, nat_tests) in
    rw (n, get_or_at xs b [] 0 (length xs) refl, same) (take_at xs (b ∷ []) (length xs) refl)

-- a line with its line end is that line
pub line_of-ended : (line : List ℕ) → line_of_piece (ended line) ≡ line
unfolding line_of_piece
line_of-ended line =
    let split : ended line ≡ (line ++ 13 ∷ []) ++ 10 ∷ [] = sym (append_assoc line (13 ∷ []) (10 ∷ [])) in
    ap (λ (l : List ℕ). without_last 13 (without_last 10 l)) split ∙ ap (without_last 13) (without_last-push 10 (line ++ 13 ∷ [])) ∙ without_last-push 13 line

-- a line that holds no LF is one line, whatever follows it
pub lines-ended : (line rest : List ℕ) → no_lf line ≡ true → lines (ended line ++ rest) ≡ line ∷ lines rest
lines-ended line rest h = ap (map line_of_piece) (pieces-ended line rest h) ∙ ap (λ (l : List ℕ). l ∷ lines rest) (line_of-ended line)

-- what is written of a record by its layout is read as that record
pub reads_back : (places : List Place) (cs : List (List ℕ)) (r : Record) → IsTrue (is_layout places) → map length cs ≡ map width_of (positions_of places) → ((line : List ℕ) → fields_at (positions_of places) line ≡ cs → record_of line ≡ r) → IsTrue (is_one_line cs) → IsReadBack (row places cs) r
reads_back places cs r layout widths read one =
    let ordered = (and_parts (not (eqb (length places) 0)) (is_ordered 0 (positions_of places)) layout).1 in
    record {
      one_line = λ rest. lines-ended (row places cs) rest (no_lf-row (positions_of places) cs 0 one);
      same = read (row places cs) (fields-row (positions_of places) cs [] 0 refl ordered widths);
    }

pub on_ok : {T E P : Type 0} (r : Result T E) → P → OnOk r P
on_ok (Ok x) p = p
on_ok (Err e) p = tt
