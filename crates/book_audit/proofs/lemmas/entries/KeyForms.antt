-- Rows that begin with a text and a whole number, and the keys that are cut out of them.
use Rattle.std.proofs.Common.{◌≡◌, ◌∙◌, ◌&&◌, ◌==◌, pos, Bool, true, false, Option, Some, None, [], ◌∷◌, ap₂, arith, if◌then◌else◌, length, refl, subst, sym, take}
use Rattle.std.proofs.lemmas.Bool.{false≢true}
use Rattle.std.proofs.lemmas.Bool.Decides.{Decides-eqb}
use Rattle.sqlite_value.specs.Order.{Row}
use Rattle.sqlite_value.specs.declared.value.Value.{Value}
use Rattle.sqlite_value.specs.declared.value.Value.TheVariants.{Int, Text}
use Rattle.society_rows.specs.Reads.{has_key}
use Rattle.society_book.specs.Columns.{text_at, whole_number_at}
use Rattle.society_book.proofs.lemmas.rows_alike.KeyRows.{HasKeyForm, both_same, keyed}
use Rattle.society_book.proofs.lemmas.shown.AskLemmas.{first_true, second_true}
use Rattle.book_audit.specs.Entries.{is_count, is_text}
use Rattle.book_audit.specs.Judging.{has_key_form}
use Rattle.book_audit.proofs.lemmas.entries.RowForms.{count_is, text_is}

-- the columns of a row that is a key
pub row_form : (r : Row) → has_key_form r ≡ true → r ≡ Text (text_at 0 r) ∷ Int (pos (whole_number_at 1 r)) ∷ []
row_form [] h = absurd (false≢true h)
row_form (a ∷ []) h = absurd (false≢true h)
row_form (a ∷ b ∷ []) h =
    ap₂ (λ (x y : Value). x ∷ y ∷ []) (text_is a (first_true (is_text a) (is_count b) h)) (count_is b (second_true (is_text a) (is_count b) h))
row_form (a ∷ b ∷ c ∷ r) h =
    let two : (length (a ∷ b ∷ c ∷ r) == 2) ≡ true = first_true (length (a ∷ b ∷ c ∷ r) == 2) (is_text a) (first_true (length (a ∷ b ∷ c ∷ r) == 2 && is_text a) (is_count b) h) in
    absurd (let same = (Decides-eqb (length (a ∷ b ∷ c ∷ r)) 2).0 two in omega (same, arith))

-- the columns of a row whose first two are a key
pub key_form : (r : Row) → has_key_form (take 2 r) ≡ true → HasKeyForm r × (take 2 r ≡ Text (text_at 0 r) ∷ Int (pos (whole_number_at 1 r)) ∷ [])
key_form [] h = absurd (false≢true h)
key_form (a ∷ []) h = absurd (false≢true h)
key_form (a ∷ b ∷ r) h =
    let text : a ≡ Text (text_at 0 (a ∷ b ∷ r)) = text_is a (first_true (is_text a) (is_count b) h) in
    let count : b ≡ Int (pos (whole_number_at 1 (a ∷ b ∷ r))) = count_is b (second_true (is_text a) (is_count b) h) in
    ((text, count), ap₂ (λ (x y : Value). x ∷ y ∷ []) text count)

-- such a row has its own key
pub has_own : (r : Row) → has_key_form (take 2 r) ≡ true → has_key (take 2 r) r ≡ true
has_own r h =
    let form = key_form r h in
    subst (λ (k : Row). has_key k r ≡ true) (sym form.1) (keyed (text_at 0 r) (whole_number_at 1 r) r form.0 ∙ both_same (text_at 0 r) (whole_number_at 1 r))

-- the first two columns are those of the row
pub text_cut : (r : Row) → text_at 0 (take 2 r) ≡ text_at 0 r
text_cut [] = refl
text_cut (a ∷ []) = refl
text_cut (a ∷ b ∷ r) = refl

pub count_cut : (r : Row) → whole_number_at 1 (take 2 r) ≡ whole_number_at 1 r
count_cut [] = refl
count_cut (a ∷ []) = refl
count_cut (a ∷ b ∷ r) = refl

-- what an answer by a test says
pub some_if : {X : Type 0} (b : Bool) (x y : X) (o : Option X) → o ≡ (if b then Some x else None) → o ≡ Some y → (b ≡ true) × (y ≡ x)
some_if true x y o by is = (refl, (let same : Some y ≡ Some x = sym is ∙ by in cc))
some_if {X} false x y o by is = absurd (let same : ◌≡◌ {A = Option X} (Some y) None = sym is ∙ by in cc)
