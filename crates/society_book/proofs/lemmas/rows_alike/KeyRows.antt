-- What the tables have under a name and a number in their first two columns.
use Rattle.std.proofs.Common.{◌≡◌, ◌∙◌, ◌==◌, ℕ, pos, Bool, true, false, ◌&&◌, List, [], ◌∷◌, inl, inr, Option, Some, None, is_some, Result, Ok, Err, cond, length, nat_le, refl, ap, ap₂, sym, arith, map, take, bytes_eq}
use Rattle.std.specs.List.{AllByRecursion, list_all}
use Rattle.std.proofs.lemmas.Bool.Decides.{nat_tests}
use Rattle.std.proofs.lemmas.Slice.Eq.{bytes_eq-Decides}
use Rattle.sqlite_schema.specs.Rules.{equal}
use Rattle.sqlite_trees.specs.Tree.{Trees}
use Rattle.sqlite_value.specs.declared.keys.Collation.TheVariants.{Binary}
use Rattle.sqlite_value.specs.declared.value.Value.TheVariants.{Int, Text}
use Rattle.sqlite_value.specs.Order.{Row, column}
use Rattle.society_core.specs.Book.{Book, body_at, return_at}
use Rattle.society_core.specs.declared.return_key.ReturnKey.{ReturnKey}
use Rattle.society_core.specs.declared.transmission_key.TransmissionKey.{TransmissionKey}
use Rattle.society_rows.specs.Layout as layout
use Rattle.society_rows.specs.Reads.{Lists, ListsKeys, has_key}
use Rattle.society_rows.specs.Stored.{rows_in}
use Rattle.society_book.specs.BookRows.{is_return_row, is_transmission_row, return_key_of, return_row, return_rows, row_of_some, transmission_key_of, transmission_row, transmission_rows}
use Rattle.society_book.specs.Columns.{HasRows, whole_number_at, text_at}
use Rattle.society_book.specs.Kept.{HoldsBook}
use Rattle.society_book.specs.Shown.{ShowBody, ShowKey}
use Rattle.work_ids.specs.Blanks.{fill, without_trailing_blanks}
use Rattle.work_ids.specs.Characters.{is_capital_or_digit}
use Rattle.work_ids.specs.Reporter.{reporter_of}
use Rattle.work_ids.specs.declared.fault.IdFault.TheVariants.{Length, Character}
use Rattle.society_book.proofs.lemmas.rows_alike.BookLemmas.{IsRefilled, refilled}
use Rattle.society_rows.proofs.lemmas.readings.KeyEquality.{int_equal, text_equal}
use Rattle.society_book.proofs.lemmas.rows_alike.RowLemmas.{found_under, only}
use Rattle.share_rules.specs.declared.office.Office.{Office}
use Rattle.std.specs.Ordering.{int_cmp, is_eq}
use Rattle.work_ids.specs.declared.fault.IdFault.{IdFault}

-- the first two columns are a text and a whole number from 0
abbrev pub HasKeyForm : Row → Type 0
HasKeyForm row = (column row 0 ≡ Text (text_at 0 row)) × (column row 1 ≡ Int (pos (whole_number_at 1 row)))

pub same_truth : (a b : Bool) → (a ≡ true → b ≡ true) → (b ≡ true → a ≡ true) → a ≡ b
same_truth true true f g = refl
same_truth false false f g = refl
same_truth true false f g = sym (f refl)
same_truth false true f g = g refl

pub either_way : (a b : List ℕ) → bytes_eq a b ≡ bytes_eq b a
either_way a b = same_truth (bytes_eq a b) (bytes_eq b a) (λ e. (bytes_eq-Decides b a).1 (sym ((bytes_eq-Decides a b).0 e))) (λ e. (bytes_eq-Decides a b).1 (sym ((bytes_eq-Decides b a).0 e)))

pub numbers_either_way : (a b : ℕ) → (a == b) ≡ (b == a)
numbers_either_way a b = grind (arith, nat_tests)

pub last_truth : (b : Bool) → (b && true) ≡ b
last_truth true = refl
last_truth false = refl

-- whole numbers are equal where they are
pub numbers_equal : (a b : ℕ) → equal Binary (Int (pos a)) (Int (pos b)) ≡ (a == b)
numbers_equal a b = int_equal (pos a) (pos b) ∙ ints_tie a b
  where
    ints_tie : (m n : ℕ) → is_eq (int_cmp (pos m) (pos n)) ≡ (m == n)
    ints_tie m n = grind (arith, nat_tests)

-- what SQL tests of a row with a text and a number in front
pub keyed : (s : List ℕ) (n : ℕ) (r : Row) → HasKeyForm r → has_key (Text s ∷ Int (pos n) ∷ []) r ≡ (bytes_eq s (text_at 0 r) && n == whole_number_at 1 r)
keyed s n r h =
    ap₂ (λ x y. x && y)
    (ap (λ v. equal Binary v (Text s)) h.0 ∙ text_equal (text_at 0 r) s ∙ either_way (text_at 0 r) s)
    (last_truth (equal Binary (column r 1) (Int (pos n))) ∙ ap (λ v. equal Binary v (Int (pos n))) h.1 ∙ numbers_equal (whole_number_at 1 r) n ∙ numbers_either_way (whole_number_at 1 r) n)

-- a row of a return: its text is that of the reporter that it is filled to
abbrev pub IsReturnForm : Row → Type 0
IsReturnForm row = HasKeyForm row × (without_trailing_blanks (fill 20 (text_at 0 row)) ≡ text_at 0 row)

pub filled_same : (reporter text : List ℕ) → fill 20 (without_trailing_blanks reporter) ≡ reporter → without_trailing_blanks (fill 20 text) ≡ text → bytes_eq (without_trailing_blanks reporter) text ≡ bytes_eq reporter (fill 20 text)
filled_same reporter text whole short =
    same_truth (bytes_eq (without_trailing_blanks reporter) text) (bytes_eq reporter (fill 20 text))
    (λ e. (bytes_eq-Decides reporter (fill 20 text)).1 (sym whole ∙ ap (fill 20) ((bytes_eq-Decides (without_trailing_blanks reporter) text).0 e)))
    (λ e. (bytes_eq-Decides (without_trailing_blanks reporter) text).1 (ap without_trailing_blanks ((bytes_eq-Decides reporter (fill 20 text)).0 e) ∙ short))

pub both_same : (s : List ℕ) (n : ℕ) → (bytes_eq s s && n == n) ≡ true
both_same s n = ap₂ (λ x y. x && y) ((bytes_eq-Decides s s).1 refl) (let e : (n == n) ≡ true = grind (arith, nat_tests) in e)

returns_formed : (key : ReturnKey) (o : Option (List ℕ)) → (is_some o ≡ true → IsRefilled key) → AllByRecursion IsReturnForm (row_of_some (return_row key) o)
returns_formed key None whole = tt
returns_formed key (Some body) whole = (((refl, refl), ap without_trailing_blanks (whole refl)), tt)

pub transmissions_formed : (key : TransmissionKey) (o : Option (List ℕ)) → AllByRecursion HasKeyForm (row_of_some (transmission_row key) o)
transmissions_formed key None = tt
transmissions_formed key (Some body) = ((refl, refl), tt)

-- what is found under the key of a return is the return that a book has whose rows these are
pub return_listed : (b : Book) (db : Trees) → HasRows is_return_row (return_rows b) (rows_in layout.returns db) → (key : ReturnKey) → IsRefilled key → (found : List Row) → Lists layout.returns (has_key (Text (without_trailing_blanks key.reporter) ∷ Int (pos key.number) ∷ [])) 2 db found → found ≡ return_rows b key
return_listed b db has key whole found lists =
    only (return_row key) (return_at b key) found
    (found_under IsReturnForm is_return_row return_key_of (λ r. both_same (fill 20 (text_at 0 r)) (whole_number_at 1 r)) key (has_key (Text (without_trailing_blanks key.reporter) ∷ Int (pos key.number) ∷ []))
    (λ r form. keyed (without_trailing_blanks key.reporter) key.number r form.0 ∙ ap (λ x. x && key.number == whole_number_at 1 r) (filled_same key.reporter (text_at 0 r) whole form.1))
    layout.returns (return_rows b) 2 db found has (λ q. returns_formed q (return_at b q) (λ there. refilled b (rows_in layout.returns db) has q there)) lists)

pub return_found : (o : Office) (b : Book) (db : Trees) → HoldsBook o b db → (key : ReturnKey) → IsRefilled key → (found : List Row) → Lists layout.returns (has_key (Text (without_trailing_blanks key.reporter) ∷ Int (pos key.number) ∷ [])) 2 db found → found ≡ return_rows b key
return_found o b db holds key whole found lists = return_listed b db holds.kept.returns key whole found lists

-- what is found under the key of a transmission is the transmission that a book has whose rows these are
pub transmission_listed : (b : Book) (db : Trees) → HasRows is_transmission_row (transmission_rows b) (rows_in layout.transmissions db) → (key : TransmissionKey) (found : List Row) → Lists layout.transmissions (has_key (Text key.sender ∷ Int (pos key.number) ∷ [])) 2 db found → found ≡ row_of_some (transmission_row key) (body_at b key.sender key.number)
transmission_listed b db has key found lists =
    only (transmission_row key) (body_at b key.sender key.number) found
    (found_under HasKeyForm is_transmission_row transmission_key_of (λ r. both_same (text_at 0 r) (whole_number_at 1 r)) key (has_key (Text key.sender ∷ Int (pos key.number) ∷ [])) (λ r form. keyed key.sender key.number r form) layout.transmissions (transmission_rows b) 2 db found has (λ q. transmissions_formed q (body_at b q.sender q.number)) lists)

-- and it shows its bytes
pub return_shows_by : (b : Book) (db : Trees) → HasRows is_return_row (return_rows b) (rows_in layout.returns db) → (key : ReturnKey) → IsRefilled key → (found : List Row) → Lists layout.returns (has_key (Text (without_trailing_blanks key.reporter) ∷ Int (pos key.number) ∷ [])) 2 db found → ShowBody (return_at b key) found
return_shows_by b db has key whole found lists = shows (return_at b key) (return_listed b db has key whole found lists)
  where
    shows : (kept : Option (List ℕ)) → found ≡ row_of_some (return_row key) kept → ShowBody kept found
    shows None e = inl (e, refl)
    shows (Some body) e = inr (without_trailing_blanks key.reporter, key.number, body, e, refl)

pub return_shows : (o : Office) (b : Book) (db : Trees) → HoldsBook o b db → (key : ReturnKey) → IsRefilled key → (found : List Row) → Lists layout.returns (has_key (Text (without_trailing_blanks key.reporter) ∷ Int (pos key.number) ∷ [])) 2 db found → ShowBody (return_at b key) found
return_shows o b db holds key whole found lists = return_shows_by b db holds.kept.returns key whole found lists

-- what is found of a return's key shows whether it is there
pub return_key_shows : (o : Office) (b : Book) (db : Trees) → HoldsBook o b db → (key : ReturnKey) → IsRefilled key → (found : List Row) → ListsKeys layout.returns (has_key (Text (without_trailing_blanks key.reporter) ∷ Int (pos key.number) ∷ [])) 2 db found → ShowKey (return_at b key) found
return_key_shows o b db holds key whole found keys = shows (return_at b key) (keys.cut ∙ ap (map (take 2)) (return_found o b db holds key whole keys.whole keys.listed))
  where
    shows : (kept : Option (List ℕ)) → found ≡ map (take 2) (row_of_some (return_row key) kept) → ShowKey kept found
    shows None e = inl (e, refl)
    shows (Some body) e = inr (without_trailing_blanks key.reporter, key.number, body, e, refl)

pub transmission_shows_by : (b : Book) (db : Trees) → HasRows is_transmission_row (transmission_rows b) (rows_in layout.transmissions db) → (key : TransmissionKey) (found : List Row) → Lists layout.transmissions (has_key (Text key.sender ∷ Int (pos key.number) ∷ [])) 2 db found → ShowBody (body_at b key.sender key.number) found
transmission_shows_by b db has key found lists = shows (body_at b key.sender key.number) (transmission_listed b db has key found lists)
  where
    shows : (kept : Option (List ℕ)) → found ≡ row_of_some (transmission_row key) kept → ShowBody kept found
    shows None e = inl (e, refl)
    shows (Some body) e = inr (key.sender, key.number, body, e, refl)

pub transmission_shows : (o : Office) (b : Book) (db : Trees) → HoldsBook o b db → (key : TransmissionKey) (found : List Row) → Lists layout.transmissions (has_key (Text key.sender ∷ Int (pos key.number) ∷ [])) 2 db found → ShowBody (body_at b key.sender key.number) found
transmission_shows o b db holds key found lists = transmission_shows_by b db holds.kept.transmissions key found lists

-- what two tests let through is what was given
pub let_through : {X : Type 0} (a b : Bool) (x y : X) (e f : IdFault) → ◌≡◌ {A = Result X IdFault} (cond a (cond b (Ok x) (Err e)) (Err f)) (Ok y) → (a ≡ true) × (x ≡ y)
let_through true true x y e f h = let same : x ≡ y = cc in (refl, same)
let_through true false x y e f h = absurd (let z = h in cc)
let_through false b x y e f h = absurd (let z = h in cc)

-- a reporter that its text reads back is filled again
pub refilled_by : (reporter text : List ℕ) → text ≡ without_trailing_blanks reporter → reporter_of text ≡ Ok reporter → fill 20 (without_trailing_blanks reporter) ≡ reporter
refilled_by reporter text is back =
    ap (fill 20) (sym is) ∙ (let_through (nat_le 1 (length text) && nat_le (length text) 20) (list_all is_capital_or_digit text) (fill 20 text) reporter Character Length back).1
