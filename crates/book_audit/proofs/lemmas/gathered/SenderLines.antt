-- What is derived of the lines of all senders, as the rows of a database have it.
use Rattle.book_audit.specs.Entries.{is_text}
use Rattle.std.proofs.Common.{◌≡◌, ◌∙◌, ◌||◌, ℕ, pos, Bool, true, false, cond, List, [], ◌∷◌, refl, ap, sym, subst, filter, bytes_eq, IsPermutation}
use Rattle.std.specs.List.{AllByRecursion}
use Rattle.std.proofs.lemmas.Bool.{false≢true}
use Rattle.std.proofs.lemmas.List.Sorted.{IsPermutation-refl, IsPermutation-sym}
use Rattle.std.proofs.lemmas.Slice.Eq.{bytes_eq-Decides}
use Rattle.share_rules.specs.declared.office.Office.{Office}
use Rattle.sqlite_schema.specs.Rules.{equal}
use Rattle.sqlite_trees.proofs.ListLemmas.{filter_same}
use Rattle.sqlite_trees.specs.Tree.{Trees}
use Rattle.sqlite_value.specs.declared.keys.Collation.TheVariants.{Binary}
use Rattle.sqlite_value.specs.declared.value.Value.{Value}
use Rattle.sqlite_value.specs.declared.value.Value.TheVariants.{Blob, Int, Null, Real, Text}
use Rattle.sqlite_value.specs.Order.{Row, column}
use Rattle.society_core.specs.Book.{Book, front}
use Rattle.society_rows.specs.Layout as layout
use Rattle.society_rows.specs.Stored.{rows_in}
use Rattle.society_book.specs.Columns.{HasRows, text_at, text_of}
use Rattle.society_book.specs.DerivedRows.{front_rows, is_named, knows_sender, tells_recordings, tells_verdict, tells_version, told_to_front, works_to}
use Rattle.society_arrivals.specs.Runs.{is_key_among}
use Rattle.society_rows.proofs.lemmas.readings.KeyEquality.{text_equal}
use Rattle.society_book.proofs.lemmas.rows_alike.KeyRows.{last_truth}
use Rattle.book_audit.specs.Auditing.{AreLinesOf, AreNamed, AreSenders, HasLine, of_sender}
use Rattle.book_audit.proofs.lemmas.lines.Strangers.{nothing_told, unknown_front}

-- a value that is a text is its bytes
text_form : (v : Value) → is_text v ≡ true → v ≡ Text (text_of v)
text_form (Text bytes) is = refl
text_form (Int n) is = absurd (false≢true is)
text_form (Real x) is = absurd (false≢true is)
text_form (Blob bytes) is = absurd (false≢true is)
text_form Null is = absurd (false≢true is)

-- the rows of a sender, as SQL finds them, are those that begin with its text
same_sender : (senders : List (List ℕ)) (s : List ℕ) (rows : List Row) → AreNamed senders rows → AllByRecursion (λ row. of_sender s row ≡ is_named s row) rows
same_sender senders s [] named = tt
same_sender senders s (row ∷ rows) named = (
  last_truth (equal Binary (column row 0) (Text s)) ∙ ap (λ v. equal Binary v (Text s)) (text_form (column row 0) named.0.0) ∙ text_equal (text_at 0 row) s,
  same_sender senders s rows named.1,
)

-- no row begins with the text of another
unnamed : (senders : List (List ℕ)) (t : List ℕ) → is_key_among senders t ≡ false → (rows : List Row) → AreNamed senders rows → filter (is_named t) rows ≡ []
unnamed senders t out [] named = refl
unnamed senders t out (row ∷ rows) named = by_case (bytes_eq (text_at 0 row) t) refl (unnamed senders t out rows named.1)
  where
    by_case : (x : Bool) → bytes_eq (text_at 0 row) t ≡ x → filter (is_named t) rows ≡ [] → cond x (row ∷ filter (is_named t) rows) (filter (is_named t) rows) ≡ []
    by_case true is later = absurd (false≢true (sym out ∙ subst (λ (s : List ℕ). is_key_among senders s ≡ true) ((bytes_eq-Decides (text_at 0 row) t).0 is) named.0.1))
    by_case false is later = later

-- what holds of each of some senders holds of one that is among them
of_each : (P : List ℕ → Type 0) (senders : List (List ℕ)) → AllByRecursion P senders → (s : List ℕ) → is_key_among senders s ≡ true → P s
of_each P [] all s is = absurd (false≢true is)
of_each P (x ∷ xs) all s is = by_case (bytes_eq x s) refl is (of_each P xs all.1 s)
  where
    by_case : (t : Bool) → bytes_eq x s ≡ t → (t || is_key_among xs s) ≡ true → (is_key_among xs s ≡ true → P s) → P s
    by_case true same h later = subst P ((bytes_eq-Decides x s).0 same) all.0
    by_case false other h later = later h

-- what all senders have is all that is expected, where nothing is expected of others
has_all : (senders : List (List ℕ)) (expected : List ℕ → List Row) (rows : List Row) → AreNamed senders rows → ((s : List ℕ) → is_key_among senders s ≡ true → IsPermutation (filter (of_sender s) rows) (expected s))
    → ((s : List ℕ) → is_key_among senders s ≡ false → expected s ≡ []) → HasRows is_named expected rows
has_all senders expected rows named each none t = by_case (is_key_among senders t) refl
  where
    same : filter (of_sender t) rows ≡ filter (is_named t) rows
    same = filter_same (of_sender t) (is_named t) rows (same_sender senders t rows named)

    by_case : (x : Bool) → is_key_among senders t ≡ x → IsPermutation (expected t) (filter (is_named t) rows)
    by_case true is = IsPermutation-sym (filter (is_named t) rows) (expected t) (subst (λ (l : List Row). IsPermutation l (expected t)) same (each t is))
    by_case false is =
        subst (λ (l : List Row). IsPermutation l (filter (is_named t) rows)) (sym (none t is))
        (subst (IsPermutation []) (sym (unnamed senders t is rows named)) (IsPermutation-refl []))

module _ (o : Office) (b : Book) (senders : List (List ℕ)) (db : Trees) (these : AreSenders b senders) (lines : AllByRecursion (λ s. HasLine o b s db) senders) (named : AreLinesOf senders db) where
  its : (s : List ℕ) → is_key_among senders s ≡ true → HasLine o b s db
  its s is = of_each (λ s. HasLine o b s db) senders lines s is

  nobody : (s : List ℕ) → is_key_among senders s ≡ false → knows_sender b s ≡ false
  nobody s none = sym (these.all s) ∙ none

  -- with the lines of all senders of a book, and rows of no others, a database has all that is derived of its lines
  pub all_fronts : HasRows is_named (front_rows o b) (rows_in layout.fronts db)
  all_fronts =
      has_all senders (front_rows o b) (rows_in layout.fronts db) named.fronts
      (λ s is. subst (λ (x : Bool). IsPermutation (filter (of_sender s) (rows_in layout.fronts db)) (cond x ((Text s ∷ Int (pos (front b s)) ∷ Int (pos (works_to o b s)) ∷ []) ∷ []) []))
      (sym (of_each (λ q. knows_sender b q ≡ true) senders these.each s is)) (its s is).fronts)
      (λ s none. unknown_front o b s (nobody s none))

  pub all_verdicts : HasRows is_named (told_to_front tells_verdict o b) (rows_in layout.verdicts db)
  all_verdicts = has_all senders (told_to_front tells_verdict o b) (rows_in layout.verdicts db) named.verdicts (λ s is. (its s is).verdicts) (λ s none. nothing_told tells_verdict o b s (nobody s none))

  pub all_versions : HasRows is_named (told_to_front tells_version o b) (rows_in layout.versions db)
  all_versions = has_all senders (told_to_front tells_version o b) (rows_in layout.versions db) named.versions (λ s is. (its s is).versions) (λ s none. nothing_told tells_version o b s (nobody s none))

  pub all_recordings : HasRows is_named (told_to_front tells_recordings o b) (rows_in layout.recordings db)
  all_recordings = has_all senders (told_to_front tells_recordings o b) (rows_in layout.recordings db) named.recordings (λ s is. (its s is).recordings) (λ s none. nothing_told tells_recordings o b s (nobody s none))
