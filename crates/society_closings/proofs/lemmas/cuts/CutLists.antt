-- Works that are listed under recordings: by a row, by the rows of a sender, and by those of all that are wanted.
use Rattle.std.proofs.Common.{◌≡◌, ◌∙◌, ◌||◌, ◌&&◌, ◌++◌, Bool, Option, Some, None, Ok, Result, Err, OnOk, Vec, append-nil, is_some, true, false, cond, eqb, ℕ, List, [], ◌∷◌, ap, ap₂, refl, sym, subst, filter, length, take, bytes_eq, arith}
use Rattle.std.proofs.lemmas.Bool.Decides.{nat_tests}
use Rattle.std.proofs.lemmas.Map.Text.{is_eq-slice_cmp}
use Rattle.std.specs.List.{list_all, AllByRecursion, list_any}
use Rattle.std.specs.BTreeMap as tree
use Rattle.std.specs.Ordering.{eq_by_cmp}
use Rattle.std.specs.declared.alloc.Global.{Global}
use Rattle.society_rows.specs.declared.fault.RowFault.{RowFault}
use Rattle.work_ids.specs.Blanks.{is_blank_byte}
use Rattle.work_ids.specs.Characters.{is_capital}
use Rattle.std.proofs.lemmas.Bool.{false≢true, and_from, or_left, or_right}
use Rattle.std.proofs.lemmas.List.Folds.{list_any-append}
use Rattle.std.proofs.lemmas.List.Sorted.{IsPermutation-sym}
use Rattle.std.proofs.lemmas.Slice.Eq.{bytes_eq-Decides}
use Rattle.std.specs.BTreeSet.{BTreeSet, contains}
use Rattle.society_core.proofs.lemmas.Fronts.{first_holds, second_holds}
use Rattle.perf_returns.specs.declared.performance.Performance.{Performance}
use Rattle.share_rules.specs.declared.office.Office.{Office}
use Rattle.society_core.specs.Book.{Book}
use Rattle.society_core.specs.Keys.{bytes_cmp}
use Rattle.society_core.specs.Orders.{Order}
use Rattle.society_core.specs.Points.{Tallies, is_performance_of, is_tallied, points_in, rows_named}
use Rattle.society_core.specs.declared.points.Tally.{Tally}
use Rattle.society_book.specs.Sources.{HoldsWorks}
use Rattle.society_closings.specs.Closings.{ListsOrder, is_reported}
use Rattle.society_core.specs.declared.transmission_key.TransmissionKey.{TransmissionKey}
use Rattle.society_rows.specs.Layout as layout
use Rattle.society_rows.specs.Reads.{Lists, has_at, has_key}
use Rattle.society_rows.specs.Stored.{rows_in}
use Rattle.society_rows.proofs.lemmas.readings.KeyEquality.{text_decides}
use Rattle.society_closings.proofs.lemmas.cuts.CutNotes.{all_listed_still}
use Rattle.society_closings.specs.CutWorks.{IsListed, IsNoted, ListsMore, ListsRow, ListsSender, ListsWorks, NotesListed, NotesMore, NotesRecordings, Wants, is_listed, is_noted, is_of_cut, items_or_none, listed_at, notes_of_sender, wants, wants_for, works_listed}
use Rattle.society_book.specs.Columns.{text_at, text_of}
use Rattle.society_closings.specs.declared.named_works.NamedWorks.{NamedWorks}
use Rattle.society_closings.specs.declared.pool_works.PoolWorks.{PoolWorks}
use Rattle.society_closings.specs.declared.wanted.Wanted.{Wanted}
use Rattle.society_closings.specs.declared.works_by_recording.WorksByRecording.{WorksByRecording}
use Rattle.sqlite_rules.proofs.ListLemmas.{all_from, all_has, some_has}
use Rattle.sqlite_schema.specs.Rules.{equal}
use Rattle.sqlite_trees.proofs.ListLemmas.{all-permutation, all_both, all_weaker}
use Rattle.sqlite_trees.specs.Tree.{Trees}
use Rattle.sqlite_value.specs.Order.{Row, column}
use Rattle.sqlite_value.specs.declared.keys.Collation.TheVariants.{Binary}
use Rattle.sqlite_value.specs.declared.value.Value.{Value}
use Rattle.sqlite_value.specs.declared.value.Value.TheVariants.{Blob, Int, Null, Real, Text}
use Rattle.work_ids.specs.Isrc.{has_isrc_form, is_isrc, isrc_field_of, isrc_of}
use Rattle.work_ids.specs.SenderKey.{is_sender_key}
use Rattle.sqlite_keyed.proofs.ListLemmas.{all_kept}
use Rattle.society_book.proofs.lemmas.rows_alike.KeyRows.{either_way}
use Rattle.society_book.proofs.lemmas.rows_alike.RowLemmas.{any_same}

-- more, and more again
pub lists_then : (old mid new : WorksByRecording) → ListsMore old mid → ListsMore mid new → ListsMore old new
lists_then old mid new first second isrc s w listed = second isrc s w (first isrc s w listed)

-- a row whose work is listed still is
row_still : (wanted : BTreeSet (List ℕ)) (old new : WorksByRecording) → ListsMore old new → (row : Row) → ListsRow wanted old row → ListsRow wanted new row
row_still wanted old new more row lists isrc right is at = more isrc _ _ (lists isrc right is at)

pub rows_still : (wanted : BTreeSet (List ℕ)) (old new : WorksByRecording) → ListsMore old new → (rows : List Row) → AllByRecursion (ListsRow wanted old) rows → AllByRecursion (ListsRow wanted new) rows
rows_still wanted old new more rows all = all_weaker (ListsRow wanted old) (ListsRow wanted new) (row_still wanted old new more) rows all

-- a row that begins with the text of a sender is one of the sender's, as SQL finds them
key_of_sender : (s : List ℕ) (row : Row) → is_sender_key s ≡ true → bytes_eq s (text_at 0 row) ≡ true → has_key (Text s ∷ []) row ≡ true
key_of_sender s row key = by_value (column row 0)
  where
    none_such : bytes_eq s [] ≡ true → ⊥
    none_such same = false≢true (subst (λ (x : List ℕ). is_sender_key x ≡ true) ((bytes_eq-Decides s []).0 same) key)

    by_value : (v : Value) → bytes_eq s (text_of v) ≡ true → (equal Binary v (Text s) && true) ≡ true
    by_value (Text t) same = ap (λ (b : Bool). b && true) ((text_decides t s).1 (sym ((bytes_eq-Decides s t).0 same)))
    by_value (Int n) same = absurd (none_such same)
    by_value (Real x) same = absurd (none_such same)
    by_value (Blob bytes) same = absurd (none_such same)
    by_value Null same = absurd (none_such same)

-- once the rows of a sender were gone over, the works of its recordings that are wanted are listed
pub sender_listed : (wanted : BTreeSet (List ℕ)) (works : WorksByRecording) (s : List ℕ) (db : Trees) (found shown : List Row) → is_sender_key s ≡ true → Lists layout.recordings (has_key (Text s ∷ [])) 4 db found → shown ≡ found → AllByRecursion (ListsRow wanted works) shown → ListsSender (bytes_eq s) wanted works db
sender_listed wanted works s db found shown key lists same all =
    let rows = rows_in layout.recordings db in
    let passes = has_key (Text s ∷ []) in
    let each = all_kept (ListsRow wanted works) passes rows (all-permutation (ListsRow wanted works) found (filter passes rows) (IsPermutation-sym (filter passes rows) found lists.rows) (subst (AllByRecursion (ListsRow wanted works)) same all)) in
    all_weaker (λ row. passes row ≡ true → ListsRow wanted works row) (λ row. bytes_eq s (text_at 0 row) ≡ true → ListsRow wanted works row) (λ row lists is. lists (key_of_sender s row key is)) rows each

-- of no sender
pub no_senders : (wanted : BTreeSet (List ℕ)) (works : WorksByRecording) (db : Trees) → ListsSender (λ _. false) wanted works db
no_senders wanted works db = all_from (λ row. false ≡ true → ListsRow wanted works row) (rows_in layout.recordings db) (λ row has never. absurd (false≢true never))

-- of one sender more
pub one_sender_more : (wanted : BTreeSet (List ℕ)) (old new : WorksByRecording) (s : List ℕ) (before after : List ℕ → Bool) (db : Trees) → ((q : List ℕ) → after q ≡ (before q || bytes_eq s q)) → ListsMore old new → ListsSender before wanted old db → ListsSender (bytes_eq s) wanted new db → ListsSender after wanted new db
one_sender_more wanted old new s before after db next more =
    all_both (λ row. before (text_at 0 row) ≡ true → ListsRow wanted old row) (λ row. bytes_eq s (text_at 0 row) ≡ true → ListsRow wanted new row) (λ row. after (text_at 0 row) ≡ true → ListsRow wanted new row)
    (λ row was is asked. by_case row was is (before (text_at 0 row)) refl (sym (next (text_at 0 row)) ∙ asked)) (rows_in layout.recordings db)
  where
    by_case : (row : Row) → (before (text_at 0 row) ≡ true → ListsRow wanted old row) → (bytes_eq s (text_at 0 row) ≡ true → ListsRow wanted new row) → (b : Bool) → before (text_at 0 row) ≡ b → (b || bytes_eq s (text_at 0 row)) ≡ true → ListsRow wanted new row
    by_case row was is true here asked = row_still wanted old new more row (was here)
    by_case row was is false here asked = is asked

-- bytes that are among some, compared the other way round
pub among_turned : (x : List ℕ) (xs : List (List ℕ)) → list_any (λ y. bytes_eq y x) xs ≡ list_any (bytes_eq x) xs
among_turned x xs = any_same (λ y. bytes_eq y x) (bytes_eq x) (λ y. either_way y x) xs

-- once the rows of all senders were gone over that are looked for, their works are listed under the recordings that are
pub all_senders_listed : (wanted : Wanted) (works : WorksByRecording) (senders : List ℕ → Bool) (db : Trees) → ((s : List ℕ) → contains bytes_cmp wanted.senders s ≡ true → senders s ≡ true) → ListsSender senders wanted.recordings works db → ListsWorks (wants wanted) db works
all_senders_listed wanted works senders db each lists isrc right =
    all_weaker (λ row. senders (text_at 0 row) ≡ true → ListsRow wanted.recordings works row) (λ row. wants wanted (text_at 0 row) isrc ≡ true → has_at 3 (Text isrc) row ≡ true → IsListed works isrc row)
    (λ row of_sender is at. of_sender (each (text_at 0 row) (first_holds _ _ is)) isrc right (second_holds (contains bytes_cmp wanted.senders (text_at 0 row)) _ is) at) (rows_in layout.recordings db) lists

-- where more was looked for than is wanted, what is wanted is listed
pub lists_fewer : (many few : List ℕ → List ℕ → Bool) (db : Trees) (works : WorksByRecording) → ((s isrc : List ℕ) → few s isrc ≡ true → many s isrc ≡ true) → ListsWorks many db works → ListsWorks few db works
lists_fewer many few db works fewer lists isrc right =
    all_weaker (λ row. many (text_at 0 row) isrc ≡ true → has_at 3 (Text isrc) row ≡ true → IsListed works isrc row) (λ row. few (text_at 0 row) isrc ≡ true → has_at 3 (Text isrc) row ≡ true → IsListed works isrc row)
    (λ row listed is at. listed (fewer (text_at 0 row) isrc is) at) (rows_in layout.recordings db) (lists isrc right)

-- a work that is listed is noted, where all that are listed are
noted_among : (named : NamedWorks) (s w : List ℕ) (works : List (List ℕ × List ℕ)) → NotesListed works named → list_any (λ one. bytes_eq one.0 s && bytes_eq one.1 w) works ≡ true → notes_of_sender named s ≡ true → is_noted named s w ≡ true
noted_among named s w works all any asked =
    let found = some_has (λ (one : List ℕ × List ℕ). bytes_eq one.0 s && bytes_eq one.1 w) works any in
    let one = found.0 in
    let sender : one.0 ≡ s = (bytes_eq-Decides one.0 s).0 (first_holds (bytes_eq one.0 s) (bytes_eq one.1 w) found.2) in
    let work : one.1 ≡ w = (bytes_eq-Decides one.1 w).0 (second_holds (bytes_eq one.0 s) (bytes_eq one.1 w) found.2) in
    let noted = all_has (λ (x : List ℕ × List ℕ). notes_of_sender named x.0 ≡ true → is_noted named x.0 x.1 ≡ true) works one all found.1 in
    subst (λ (x : List ℕ). is_noted named s x ≡ true) work (subst (λ (x : List ℕ). is_noted named x one.1 ≡ true) sender (noted (subst (λ (x : List ℕ). notes_of_sender named x ≡ true) (sym sender) asked)))

-- what is listed under one recording more is noted
pub one_recording_more : (works : WorksByRecording) (old new : NamedWorks) (isrc : List ℕ) (before after : List ℕ → Bool) → ((q : List ℕ) → after q ≡ (before q || bytes_eq q isrc)) → NotesMore old new → is_isrc isrc ≡ true → NotesListed (works_listed works isrc) new
    → ((q : List ℕ) → before q ≡ true → (is_isrc q ≡ true) × NotesListed (works_listed works q) old) → (q : List ℕ) → after q ≡ true → (is_isrc q ≡ true) × NotesListed (works_listed works q) new
one_recording_more works old new isrc before after next more right here was q is = by_case (before q) refl (sym (next q) ∙ is)
  where
    by_case : (b : Bool) → before q ≡ b → (b || bytes_eq q isrc) ≡ true → (is_isrc q ≡ true) × NotesListed (works_listed works q) new
    by_case true e any = (let its = was q e in (its.0, all_listed_still old new more (works_listed works q) its.1))
    by_case false e any = subst (λ (x : List ℕ). (is_isrc x ≡ true) × NotesListed (works_listed works x) new) (sym ((bytes_eq-Decides q isrc).0 any)) (right, here)

-- where the works are listed that are wanted of a cut's senders, and what is listed under these recordings is noted, the works of these recordings are noted
pub recordings_noted : (cut : List TransmissionKey) (of_these : List ℕ → Bool) (db : Trees) (works : WorksByRecording) (named : NamedWorks) → ListsWorks (wants_for cut of_these) db works → ((s : List ℕ) → notes_of_sender named s ≡ is_of_cut cut s)
    → ((isrc : List ℕ) → of_these isrc ≡ true → (is_isrc isrc ≡ true) × NotesListed (works_listed works isrc) named) → NotesRecordings db of_these named
recordings_noted cut of_these db works named lists senders notes isrc is =
    let its = notes isrc is in
    all_weaker (λ row. wants_for cut of_these (text_at 0 row) isrc ≡ true → has_at 3 (Text isrc) row ≡ true → IsListed works isrc row) (λ row. has_at 3 (Text isrc) row ≡ true → IsNoted named row)
    (λ row listed at asked. noted_among named (text_at 0 row) _ (works_listed works isrc) its.1 (listed (and_from (is_of_cut cut (text_at 0 row)) (of_these isrc) (sym (senders (text_at 0 row)) ∙ asked) is) at) asked) (rows_in layout.recordings db) (lists isrc its.0)

-- ---- what is listed

-- a work is behind those of its recording, by what is kept there then
pub appended : (old : WorksByRecording) (isrc : List ℕ) (one : List ℕ × List ℕ) (after : Vec (List ℕ × List ℕ) Global) → after.items ≡ works_listed old isrc ++ one ∷ []
    → (q : List ℕ) (found : Option (Vec (List ℕ × List ℕ) Global)) → found ≡ cond (eq_by_cmp bytes_cmp isrc q) (Some after) (tree.get bytes_cmp old.by_recording q) → items_or_none found ≡ works_listed old q ++ listed_at q isrc one
appended old isrc one after behind q found is = ap items_or_none is ∙ by_case (eq_by_cmp bytes_cmp isrc q) refl
  where
    by_case : (c : Bool) → eq_by_cmp bytes_cmp isrc q ≡ c → items_or_none (cond c (Some after) (tree.get bytes_cmp old.by_recording q)) ≡ works_listed old q ++ cond c (one ∷ []) []
    by_case true same = behind ∙ ap (λ (x : List ℕ). works_listed old x ++ one ∷ []) ((bytes_eq-Decides isrc q).0 (sym (is_eq-slice_cmp isrc q) ∙ same))
    by_case false apart = sym (append-nil (works_listed old q))

module _ (old new : WorksByRecording) (isrc s w : List ℕ) (adds : (q : List ℕ) → works_listed new q ≡ works_listed old q ++ listed_at q isrc (s, w)) where
  -- a work more is listed
  pub list_more : ListsMore old new
  list_more q sender work listed =
      let is_it = λ (one : List ℕ × List ℕ). bytes_eq one.0 sender && bytes_eq one.1 work in
      ap (list_any is_it) (adds q) ∙ list_any-append is_it (works_listed old q) (listed_at q isrc (s, w)) ∙ or_left (list_any is_it (works_listed old q)) (list_any is_it (listed_at q isrc (s, w))) listed

  -- it is that work
  pub list_here : is_listed new isrc s w ≡ true
  list_here =
      let itself = λ (x : List ℕ). (bytes_eq-Decides x x).1 refl in
      let is_it = λ (one : List ℕ × List ℕ). bytes_eq one.0 s && bytes_eq one.1 w in
      ap (list_any is_it) (adds isrc) ∙ list_any-append is_it (works_listed old isrc) (listed_at isrc isrc (s, w))
      ∙ or_right (list_any is_it (works_listed old isrc)) (list_any is_it (listed_at isrc isrc (s, w)))
      (ap (λ (b : Bool). list_any is_it (cond b ((s, w) ∷ []) [])) (is_eq-slice_cmp isrc isrc ∙ itself isrc) ∙ ap₂ (λ (a b : Bool). (a && b) || false) (itself s) (itself w))

-- an ISRC is what a field has that holds it
isrc_in_field : (text : List ℕ) → is_isrc text ≡ true → isrc_field_of text ≡ Ok (Some text)
unfolding isrc_of has_isrc_form
isrc_in_field [] is = absurd (false≢true is)
isrc_in_field (x ∷ xs) is =
    let long = first_holds (eqb (length (x ∷ xs)) 12) (has_isrc_form (x ∷ xs)) is in
    let formed = second_holds (eqb (length (x ∷ xs)) 12) (has_isrc_form (x ∷ xs)) is in
    let starts : list_all is_capital (take 2 (x ∷ xs)) ≡ true = first_holds _ _ (first_holds _ _ formed) in
    let capital : is_capital x ≡ true = first_holds (is_capital x) _ starts in
    let filled : is_blank_byte x ≡ false = grind (arith, nat_tests) in
    rw (long, filled, formed) refl

-- a text that is a wanted ISRC is found
pub found_isrc : (text isrc : List ℕ) → is_isrc isrc ≡ true → text ≡ isrc → isrc_field_of text ≡ Ok (Some isrc)
found_isrc text isrc right is = ap isrc_field_of is ∙ isrc_in_field isrc right

-- what follows of an answer
pub on_ok_more : (r : Result (Unit {0}) RowFault) {P Q : Type 0} → (P → Q) → OnOk r P → OnOk r Q
on_ok_more (Ok x) follows h = follows h
on_ok_more (Err e) follows h = tt

-- a row lists its work under the recording that it has
pub row_listed : (wanted : BTreeSet (List ℕ)) (works : WorksByRecording) (row values : Row) (text found : List ℕ) → values ≡ row → ((isrc : List ℕ) → has_at 3 (Text isrc) values ≡ true → text ≡ isrc)
    → ((isrc : List ℕ) → is_isrc isrc ≡ true → contains bytes_cmp wanted isrc ≡ true → text ≡ isrc → found ≡ isrc) → IsListed works found values → ListsRow wanted works row
row_listed wanted works row values text found same is_text finds listed isrc right is at =
    let named = is_text isrc (subst (λ (r : Row). has_at 3 (Text isrc) r ≡ true) (sym same) at) in
    subst (λ (r : Row). IsListed works isrc r) same (subst (λ (x : List ℕ). IsListed works x values) (finds isrc right is named) listed)

-- and none where it has none that is wanted
pub row_unlisted : (wanted : BTreeSet (List ℕ)) (works : WorksByRecording) (row values : Row) (text : List ℕ) → values ≡ row → ((isrc : List ℕ) → has_at 3 (Text isrc) values ≡ true → text ≡ isrc)
    → ((isrc : List ℕ) → is_isrc isrc ≡ true → contains bytes_cmp wanted isrc ≡ true → text ≡ isrc → ⊥) → ListsRow wanted works row
row_unlisted wanted works row values text same is_text never isrc right is at = absurd (never isrc right is (is_text isrc (subst (λ (r : Row). has_at 3 (Text isrc) r ≡ true) (sym same) at)))

-- a set has one more, where it is among some
pub among_more : (first any same was : Bool) → was ≡ (first || any) → cond same true was ≡ (first || (any || same))
among_more true any true was e = refl
among_more false true true was e = refl
among_more false false true was e = refl
among_more true any false was e = e
among_more false true false was e = e
among_more false false false was e = e

-- ---- what is wanted

-- of the same recordings the same is wanted
pub wants_alike : (cut : List TransmissionKey) (one other : List ℕ → Bool) → ((isrc : List ℕ) → one isrc ≡ other isrc) → (s isrc : List ℕ) → wants_for cut one s isrc ≡ true → wants_for cut other s isrc ≡ true
wants_alike cut one other same s isrc is = sym (ap (λ (b : Bool). is_of_cut cut s && b) (same isrc)) ∙ is

-- a tally has the recordings that its performances report
reported : (tally : Tally) (rows : List Performance) → Tallies tally rows → (isrc : List ℕ) → is_tallied tally isrc ≡ list_any (is_performance_of isrc) rows
reported tally rows tallied isrc = ap is_some (tallied.points isrc) ∙ by_case (list_any (is_performance_of isrc) rows) (points_in rows isrc)
  where
    by_case : (b : Bool) (n : ℕ) → is_some (cond b (Some n) None) ≡ b
    by_case true n = refl
    by_case false n = refl

-- so where what a tally has is wanted, what the returns report is
pub wants_reported : (b : Book) (order : Order) (wanted : Wanted) (tally : Tally) → Tallies tally (rows_named b order) → Wants wanted order.cut (is_tallied tally) → Wants wanted order.cut (is_reported b order)
wants_reported b order wanted tally tallied wants s isrc is =
    wants s isrc (wants_alike order.cut (is_reported b order) (is_tallied tally) (λ i. sym (reported tally (rows_named b order) tallied i)) s isrc is)

-- so what an order looks for is what its tally has
pub lists_tallied : (o : Office) (b : Book) (order : Order) (db : Trees) (works : PoolWorks) (tally : Tally) → HoldsWorks o b db → Tallies tally (rows_named b order) → ListsOrder o order db works → ListsWorks (wants_for order.cut (is_tallied tally)) db works.listed
lists_tallied o b order db works tally holds tallied lists =
    lists_fewer (wants_for order.cut (is_reported b order)) (wants_for order.cut (is_tallied tally)) db works.listed (wants_alike order.cut (is_tallied tally) (is_reported b order) (reported tally (rows_named b order) tallied)) (lists.0 o b holds)
