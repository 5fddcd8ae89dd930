-- Which senders the rows of what is derived of lines begin with.
use Rattle.book_audit.specs.Entries.{is_text}
use Rattle.std.proofs.Common.{◌≡◌, ◌∙◌, ◌⊎◌, ◌&&◌, ◌==◌, ◌||◌, if◌then◌else◌, ℕ, pos, Bool, true, false, cond, List, [], ◌∷◌, Option, Some, None, Ok, Err, inl, inr, is_none, is_ok, is_some, flat_map, refl, ap, ap₂, sym, subst, filter, map, length, bytes_eq}
use Rattle.std.specs.FinMap as finite
use Rattle.std.specs.BTreeSet.{BTreeSet, IsFromIterResult, contains}
use Rattle.std.specs.List.{AllByRecursion, list_all, list_any}
use Rattle.std.specs.Ordering.{eq_by_cmp}
use Rattle.std.proofs.lemmas.Bool.{false≢true}
use Rattle.std.proofs.lemmas.List.Sorted.{IsPermutation-sym}
use Rattle.std.proofs.lemmas.Map.Text.{is_eq-slice_cmp}
use Rattle.std.proofs.lemmas.Slice.Eq.{bytes_eq-Decides}
use Rattle.share_rules.specs.declared.office.Office.{Office}
use Rattle.sender_segments.specs.Ways.{End}
use Rattle.sqlite_keyed.proofs.ListLemmas.{all_weaker}
use Rattle.sqlite_trees.proofs.ListLemmas.{all-permutation}
use Rattle.sqlite_trees.specs.Tree.{Trees}
use Rattle.sqlite_schema.specs.declared.schema.Table.{Table}
use Rattle.sqlite_value.specs.declared.value.Value.{Value}
use Rattle.sqlite_value.specs.declared.value.Value.TheVariants.{Int, Text}
use Rattle.sqlite_value.specs.Order.{Row, column}
use Rattle.society_core.specs.Book.{Book, IsSound, body_at, end_at, front, is_one_of, is_there, line, numbers_led_through}
use Rattle.society_core.specs.Keys.{bytes_cmp}
use Rattle.society_core.specs.declared.segment_key.SegmentKey.{SegmentKey}
use Rattle.society_core.specs.declared.transmission_key.TransmissionKey.{TransmissionKey}
use Rattle.society_core.proofs.lemmas.Books.{end_says}
use Rattle.society_core.proofs.lemmas.KeyOrders.{exact_segments, segments_total}
use Rattle.society_rows.specs.Layout as layout
use Rattle.society_rows.specs.FirstColumns.{ListsFirstColumn, first_of, derived_table}
use Rattle.society_rows.specs.Stored.{rows_in}
use Rattle.society_rows.specs.declared.derived_tables.DerivedTable.{DerivedTable}
use Rattle.society_book.specs.Columns.{HasRows, text_at, text_of}
use Rattle.society_book.specs.DerivedRows.{Telling, front_rows, has_sent, has_stated, is_named, knows_sender, tells_recordings, tells_verdict, tells_version, told_by, told_to_front, works_to}
use Rattle.society_book.specs.Kept.{HoldsBook}
use Rattle.society_arrivals.specs.Runs.{is_key_among}
use Rattle.society_book.proofs.lemmas.lines.KnownSenders.{key_there, sent_there}
use Rattle.society_book.proofs.lemmas.rows_alike.KeyRows.{either_way}
use Rattle.society_book.proofs.lemmas.rows_alike.RowLemmas.{all_rows}
use Rattle.society_book.proofs.lemmas.shown.AskLemmas.{first_true, second_true}
use Rattle.book_audit.specs.Auditing.{AreLinesOf, AreNamed, AreSenders, is_of_one, is_of_sender}
use Rattle.book_audit.specs.LineSteps.{AreAllOfThese, AreOfThese}
use Rattle.book_audit.proofs.lemmas.lines.OwnLines.{Names, front_named, recordings_named, verdicts_named, versions_named}
use Rattle.cwr_files.specs.FileFault.{file_fault}
use Rattle.work_ids.specs.Characters.{is_capital_or_digit}
use Rattle.work_ids.specs.Segments.{is_transmission_number}
use Rattle.work_ids.specs.declared.fault.IdFault.TheVariants.{Character, Length}
use Rattle.work_ids.specs.SenderKey.{is_sender_key, sender_key_of}

-- ---- a list of senders and its set

flipped : (name : List ℕ) (xs : List (List ℕ)) → list_any (bytes_eq name) xs ≡ is_key_among xs name
flipped name [] = refl
flipped name (x ∷ xs) = ap₂ (λ (a b : Bool). a || b) (either_way name x) (flipped name xs)

any_bytes : (x : List ℕ) (xs : List (List ℕ)) → list_any (bytes_eq x) xs ≡ list_any (eq_by_cmp bytes_cmp x) xs
any_bytes x [] = refl
any_bytes x (y ∷ ys) = ap₂ (λ (a b : Bool). a || b) (sym (is_eq-slice_cmp x y)) (any_bytes x ys)

in_set : (senders : List (List ℕ)) (set : BTreeSet (List ℕ)) → IsFromIterResult bytes_cmp senders set → (name : List ℕ) → is_key_among senders name ≡ contains bytes_cmp set name
in_set senders set made name = sym (flipped name senders) ∙ any_bytes name senders ∙ sym (made.0 name)

-- ---- rows of a table by their first columns

first_back : (set : BTreeSet (List ℕ)) (rows : List Row) → AllByRecursion (λ r. is_of_one set r ≡ true) (map first_of rows) → AllByRecursion (λ r. is_of_one set r ≡ true) rows
first_back set [] all = tt
first_back set (r ∷ rows) all = (all.0, first_back set rows all.1)

first_on : (set : BTreeSet (List ℕ)) (rows : List Row) → AllByRecursion (λ r. is_of_one set r ≡ true) rows → AllByRecursion (λ r. is_of_one set r ≡ true) (map first_of rows)
first_on set [] all = tt
first_on set (r ∷ rows) all = (all.0, first_on set rows all.1)

-- what was listed is of these where the table is
pub these_listed : (set : BTreeSet (List ℕ)) (table : DerivedTable) (db : Trees) (found : List Row) → ListsFirstColumn table db found → AllByRecursion (λ r. is_of_one set r ≡ true) found → AreOfThese set (derived_table table) db
these_listed set table db found lists all =
    let firsts : List Row = map first_of (rows_in (derived_table table) db) in
    first_back set (rows_in (derived_table table) db) (all-permutation (λ r. is_of_one set r ≡ true) found firsts (IsPermutation-sym firsts found lists) all)

pub listed_these : (set : BTreeSet (List ℕ)) (table : DerivedTable) (db : Trees) (found : List Row) → ListsFirstColumn table db found → AreOfThese set (derived_table table) db → AllByRecursion (λ r. is_of_one set r ≡ true) found
listed_these set table db found lists all =
    all-permutation (λ r. is_of_one set r ≡ true) (map first_of (rows_in (derived_table table) db)) found lists (first_on set (rows_in (derived_table table) db) all)

-- ---- rows of these senders are lines of theirs

named_row : (senders : List (List ℕ)) (set : BTreeSet (List ℕ)) → IsFromIterResult bytes_cmp senders set → (r : Row) → is_of_one set r ≡ true → (is_text (column r 0) ≡ true) × (is_key_among senders (text_at 0 r) ≡ true)
named_row senders set made r is = (
  first_true (is_text (column r 0)) _ (first_true (is_of_sender r) (contains bytes_cmp set (text_at 0 r)) is),
  in_set senders set made (text_at 0 r) ∙ second_true (is_of_sender r) (contains bytes_cmp set (text_at 0 r)) is,
)

pub lines_of_these : (senders : List (List ℕ)) (set : BTreeSet (List ℕ)) → IsFromIterResult bytes_cmp senders set → (db : Trees) → AreAllOfThese set db → AreLinesOf senders db
lines_of_these senders set made db all = record { fronts = named layout.fronts all.fronts; verdicts = named layout.verdicts all.verdicts; versions = named layout.versions all.versions; recordings = named layout.recordings all.recordings }
  where
    named : (table : Table) → AreOfThese set table db → AreNamed senders (rows_in table db)
    named table = all_weaker (λ r. is_of_one set r ≡ true) (λ r. (is_text (column r 0) ≡ true) × (is_key_among senders (text_at 0 r) ≡ true)) (named_row senders set made) (rows_in table db)

-- ---- senders of a sound book

-- of a list of which nothing passes nothing is kept
none_kept : {X : Type 0} (p : X → Bool) (xs : List X) → list_any p xs ≡ false → filter p xs ≡ []
none_kept p [] h = refl
none_kept p (x ∷ xs) h = by_case (p x) refl h (none_kept p xs)
  where
    by_case : (b : Bool) → p x ≡ b → (b || list_any p xs) ≡ false → (list_any p xs ≡ false → filter p xs ≡ []) → cond b (x ∷ filter p xs) (filter p xs) ≡ []
    by_case true is h later = absurd (false≢true (sym h))
    by_case false is h later = later h

not_first : (x y : Bool) → (x || y) ≡ false → x ≡ false
not_first false y h = refl
not_first true y h = absurd (false≢true (sym h))

-- a sender of whom a book has nothing has no line
line_of_nobody : (b : Book) (s : List ℕ) → knows_sender b s ≡ false → line b s ≡ []
unfolding line
line_of_nobody b s h =
    ap (λ (keys : List TransmissionKey). filter (is_one_of (numbers_led_through b s)) (map (λ key. key.number) keys))
    (none_kept (λ (key : TransmissionKey). bytes_eq key.sender s) (finite.keys b.transmissions) (not_first (has_sent b s) (has_stated b s) h))

-- so it tells nothing
pub nothing_told : (tells : Telling) (o : Office) (b : Book) (s : List ℕ) → knows_sender b s ≡ false → told_to_front tells o b s ≡ []
nothing_told tells o b s none = ap (flat_map (told_by tells o b s)) (line_of_nobody b s none)

-- and has no front
pub unknown_front : (o : Office) (b : Book) (s : List ℕ) → knows_sender b s ≡ false → front_rows o b s ≡ []
unknown_front o b s none = ap (λ t. cond t ((Text s ∷ Int (pos (front b s)) ∷ Int (pos (works_to o b s)) ∷ []) ∷ []) []) none

one_of_two : (a b : Bool) → (a || b) ≡ true → (a ≡ true) ⊎ (b ≡ true)
one_of_two true b h = inl refl
one_of_two false b h = inr h

key_reads : (key : List ℕ) → is_sender_key key ≡ true → is_ok (sender_key_of key) ≡ true
key_reads key is =
    ap is_ok
    (ap (λ (x : Bool). if x then (if list_all is_capital_or_digit key then Ok key else Err Character) else Err Length) (first_true (length key == 11) (list_all is_capital_or_digit key) is)
    ∙ ap (λ (x : Bool). if x then Ok key else Err Character) (second_true (length key == 11) (list_all is_capital_or_digit key) is))

-- a sender that a sound book knows has a sender's key
known_key : (b : Book) → IsSound b → (s : List ℕ) → knows_sender b s ≡ true → is_ok (sender_key_of s) ≡ true
known_key b sound s known = key_reads s (elim (one_of_two (has_sent b s) (has_stated b s) known) [ inl sent ↦ by_sent (sent_there b s sent) | inr stated ↦ by_stated stated ])
  where
    by_body : (n : ℕ) (o : Option (List ℕ)) → body_at b s n ≡ o → is_some o ≡ true → is_sender_key s ≡ true
    by_body n None is some = absurd (false≢true some)
    by_body n (Some body) is some = first_true (is_sender_key s) (is_transmission_number n) (first_true (is_sender_key s && is_transmission_number n) (is_none (file_fault s body)) (sound.transmissions s n body is))

    by_sent : (n : ℕ) × (is_there b s n ≡ true) → is_sender_key s ≡ true
    by_sent found = by_body found.0 (body_at b s found.0) refl found.1

    by_end : (t : List ℕ) (g : ℕ) (o : Option End) → end_at b t g ≡ o → is_some o ≡ true → is_sender_key t ≡ true
    by_end t g None is some = absurd (false≢true some)
    by_end t g (Some end) is some = (end_says t g end (sound.ends t g end is)).key

    by_stated : has_stated b s ≡ true → is_sender_key s ≡ true
    by_stated stated =
        let found = key_there segments_total exact_segments (λ (key : SegmentKey). key.sender) b.ends s stated in
        subst (λ (t : List ℕ). is_sender_key t ≡ true) found.1 (by_end found.0.sender found.0.segment (end_at b found.0.sender found.0.segment) refl found.2)

-- ---- the rows of tables that hold their book are of its senders

text_is : (v : Value) (s : List ℕ) → v ≡ Text s → is_text v ≡ true
text_is v s is = ap is_text is

module _ (o : Office) (b : Book) (db : Trees) (holds : HoldsBook o b db) (senders : List (List ℕ)) (are : AreSenders b senders) (set : BTreeSet (List ℕ)) (made : IsFromIterResult bytes_cmp senders set) where
  of_one : (q : List ℕ) → knows_sender b q ≡ true → (r : Row) → Names q r → is_of_one set r ≡ true
  of_one q known r names =
      let name : text_at 0 r ≡ q = ap text_of names in
      ap₂ (λ (x y : Bool). x && y)
      (ap₂ (λ (x y : Bool). x && y) (text_is (column r 0) q names) (ap (λ (t : List ℕ). is_ok (sender_key_of t)) name ∙ known_key b holds.sound q known))
      (ap (contains bytes_cmp set) name ∙ sym (in_set senders set made q) ∙ are.all q ∙ known)

  table_of : (table : Table) (expected : List ℕ → List Row) → ((q : List ℕ) → AllByRecursion (Names q) (expected q)) → ((q : List ℕ) → knows_sender b q ≡ false → expected q ≡ []) → HasRows is_named expected (rows_in table db) → AreOfThese set table db
  table_of table expected named none has =
      all_rows is_named (text_at 0) (λ r. (bytes_eq-Decides (text_at 0 r) (text_at 0 r)).1 refl) (λ r. is_of_one set r ≡ true) expected (rows_in table db) has (λ q. by_case q (knows_sender b q) refl)
    where
      by_case : (q : List ℕ) (x : Bool) → knows_sender b q ≡ x → AllByRecursion (λ r. is_of_one set r ≡ true) (expected q)
      by_case q true known = all_weaker (Names q) (λ r. is_of_one set r ≡ true) (of_one q known) (expected q) (named q)
      by_case q false unknown = subst (AllByRecursion (λ r. is_of_one set r ≡ true)) (sym (none q unknown)) tt

  pub own_these : AreAllOfThese set db
  own_these = record {
    fronts = table_of layout.fronts (front_rows o b) (front_named o b) (unknown_front o b) holds.derived.fronts;
    verdicts = table_of layout.verdicts (told_to_front tells_verdict o b) (verdicts_named o b) (nothing_told tells_verdict o b) holds.derived.verdicts;
    versions = table_of layout.versions (told_to_front tells_version o b) (versions_named o b) (nothing_told tells_version o b) holds.derived.versions;
    recordings = table_of layout.recordings (told_to_front tells_recordings o b) (recordings_named o b) (nothing_told tells_recordings o b) holds.derived.recordings;
  }
