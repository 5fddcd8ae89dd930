-- The senders of the transmissions and of the ends of a database are those of the book that these stand for.
use Rattle.std.proofs.Common.{◌≡◌, ◌∙◌, ◌||◌, ◌&&◌, ◌==◌, ◌++◌, Bool, true, false, cond, List, [], ◌∷◌, ℕ, Ordering, ap, ap₂, bytes_eq, filter, is_some, length, map, refl, subst, sym}
use Rattle.std.specs.Cmp.{IsTotalOrder}
use Rattle.std.specs.FinMap as finite
use Rattle.std.specs.FinMap.{IsAntisymmetric}
use Rattle.std.specs.List.{AllByRecursion, list_any}
use Rattle.std.specs.Ordering.{eq_by_cmp}
use Rattle.std.proofs.lemmas.Bool.{false≢true, or_left, or_right}
use Rattle.std.proofs.lemmas.Bool.Decides.{Decides-eqb}
use Rattle.std.proofs.lemmas.Cmp.{nat_list_cmp_total}
use Rattle.std.proofs.lemmas.Map.Lookups.{exact_bytes}
use Rattle.std.proofs.lemmas.Slice.Eq.{bytes_eq-Decides}
use Rattle.sqlite_keyed.proofs.ListLemmas.{all_weaker}
use Rattle.sqlite_trees.specs.Tree.{Trees}
use Rattle.sqlite_value.specs.Order.{Row}
use Rattle.society_core.specs.Keys.{ascending, bytes_cmp}
use Rattle.society_core.specs.declared.segment_key.SegmentKey.{SegmentKey}
use Rattle.society_core.specs.declared.transmission_key.TransmissionKey.{TransmissionKey}
use Rattle.society_core.proofs.lemmas.Ascending.{ascending_again}
use Rattle.society_core.proofs.lemmas.KeyOrders.{exact_segments, exact_transmissions, segments_total, transmissions_total}
use Rattle.society_rows.specs.Layout as layout
use Rattle.society_rows.specs.Stored.{rows_in}
use Rattle.book_audit.specs.Auditing.{AreSenders}
use Rattle.book_audit.specs.Entries.{HoldsEntries, senders_in}
use Rattle.society_book.specs.BookRows.{book_of, end_entry, is_end_row, is_transmission_row, segment_key_of, transmission_entry, transmission_key_of}
use Rattle.society_book.specs.Columns.{segment_place_at, text_at, whole_number_at}
use Rattle.society_book.specs.DerivedRows.{has_sent, has_stated, knows_sender}
use Rattle.society_arrivals.specs.Runs.{is_key_among}
use Rattle.society_book.proofs.lemmas.shown.AskLemmas.{first_true}
use Rattle.society_book.proofs.lemmas.rows_alike.BookLemmas.{segments_tie, transmissions_tie}
use Rattle.society_book.proofs.lemmas.lines.KnownSenders.{has_of, has_there, key_there}
use Rattle.society_book.proofs.lemmas.rows_alike.KeyRows.{same_truth}
use Rattle.society_book.proofs.lemmas.rows_alike.RowLemmas.{first_value, found_first}
use Rattle.society_arrivals.proofs.lemmas.RunLines.{among_ascending}

-- what is kept of rows has a first one where one of them is kept
first_kept : {K X : Type 0} (entry : Row → K × X) (p : Row → Bool) (rows : List Row) → is_some (first_value entry (filter p rows)) ≡ list_any p rows
first_kept entry p [] = refl
first_kept entry p (r ∷ rows) = by_case (p r) (first_kept entry p rows)
  where
    by_case : (t : Bool) → is_some (first_value entry (filter p rows)) ≡ list_any p rows → is_some (first_value entry (cond t (r ∷ filter p rows) (filter p rows))) ≡ (t || list_any p rows)
    by_case true later = refl
    by_case false later = later

-- rows under keys that have senders
module _ {K X : Type 0} {R : K → K → Ordering} (total : IsTotalOrder R) (exact : IsAntisymmetric R) (is_of : K → Row → Bool) (entry : Row → K × X) (agrees : (q : K) (r : Row) → eq_by_cmp R q (entry r).0 ≡ is_of q r)
    (sender_of : K → List ℕ) (its : (r : Row) → sender_of (entry r).0 ≡ text_at 0 r) (named : (q : K) (r : Row) → is_of q r ≡ true → sender_of q ≡ text_at 0 r) (own : (r : Row) → is_of (entry r).0 r ≡ true) (rows : List Row) where
  abbrev names : List Row → List (List ℕ)
  names rs = map (text_at 0) rs

  -- the sender of a row that has a key is among those of the rows
  key_named : (q : K) (rs : List Row) → list_any (is_of q) rs ≡ true → is_key_among (names rs) (sender_of q) ≡ true
  key_named q [] h = absurd (false≢true h)
  key_named q (r ∷ rs) h = by_case (is_of q r) refl h (key_named q rs)
    where
      by_case : (t : Bool) → is_of q r ≡ t → (t || list_any (is_of q) rs) ≡ true → (list_any (is_of q) rs ≡ true → is_key_among (names rs) (sender_of q) ≡ true) → (bytes_eq (text_at 0 r) (sender_of q) || is_key_among (names rs) (sender_of q)) ≡ true
      by_case true is h later = or_left (bytes_eq (text_at 0 r) (sender_of q)) (is_key_among (names rs) (sender_of q)) ((bytes_eq-Decides (text_at 0 r) (sender_of q)).1 (sym (named q r is)))
      by_case false is h later = or_right (bytes_eq (text_at 0 r) (sender_of q)) (is_key_among (names rs) (sender_of q)) (later h)

  -- a key of a sender under which there is a row
  record HasKey (s : List ℕ) (rs : List Row) : Type 0 where
    key : K
    of : sender_of key ≡ s
    there : list_any (is_of key) rs ≡ true

  -- and one of them has a row under some key
  named_key : (s : List ℕ) (rs : List Row) → is_key_among (names rs) s ≡ true → HasKey s rs
  named_key s [] h = absurd (false≢true h)
  named_key s (r ∷ rs) h = by_case (bytes_eq (text_at 0 r) s) refl h (named_key s rs)
    where
      by_case : (t : Bool) → bytes_eq (text_at 0 r) s ≡ t → (t || is_key_among (names rs) s) ≡ true → (is_key_among (names rs) s ≡ true → HasKey s rs) → HasKey s (r ∷ rs)
      by_case true is h later = record {
        key = (entry r).0;
        of = its r ∙ (bytes_eq-Decides (text_at 0 r) s).0 is;
        there = or_left (is_of (entry r).0 r) (list_any (is_of (entry r).0) rs) (own r);
      }
      by_case false is h later = let found = later h in record { key = found.key; of = found.of; there = or_right (is_of found.key r) (list_any (is_of found.key) rs) found.there }

  abbrev those : finite.FinMap R X
  those = finite.from_entries {R = R} (map entry rows)

  -- the map that rows make has a key where a row has it
  key_found : (q : K) → is_some (finite.get those q) ≡ list_any (is_of q) rows
  key_found q = ap is_some (finite.get-from_entries total (map entry rows) q ∙ found_first total exact is_of entry agrees q rows) ∙ first_kept entry (is_of q) rows

  -- the senders of rows are those of the map that they make
  pub named_where : (s : List ℕ) → is_key_among (names rows) s ≡ has_of total exact sender_of (finite.keys those) s
  named_where s =
      same_truth (is_key_among (names rows) s) (has_of total exact sender_of (finite.keys those) s)
      (λ h. let found = named_key s rows h in subst (λ (t : List ℕ). has_of total exact sender_of (finite.keys those) t ≡ true) found.of (has_there total exact sender_of those found.key (key_found found.key ∙ found.there)))
      (λ h. let found = key_there total exact sender_of those s h in subst (λ (t : List ℕ). is_key_among (names rows) t ≡ true) found.1 (key_named found.0 rows (sym (key_found found.0) ∙ found.2)))

-- each of a list is among what has all of the list
each_among : (xs ys : List (List ℕ)) → ((s : List ℕ) → is_key_among xs s ≡ true → is_key_among ys s ≡ true) → AllByRecursion (λ s. is_key_among ys s ≡ true) xs
each_among [] ys all = tt
each_among (x ∷ xs) ys all = (
  all x (or_left (bytes_eq x x) (is_key_among xs x) ((bytes_eq-Decides x x).1 refl)),
  each_among xs ys (λ s h. all s (or_right (bytes_eq x s) (is_key_among xs s) h)),
)

among_either : (xs ys : List (List ℕ)) (s : List ℕ) → is_key_among (xs ++ ys) s ≡ (is_key_among xs s || is_key_among ys s)
among_either [] ys s = refl
among_either (x ∷ xs) ys s = ap (λ t. bytes_eq x s || t) (among_either xs ys s) ∙ sym (regroup (bytes_eq x s) (is_key_among xs s) (is_key_among ys s))
  where
    regroup : (a b c : Bool) → ((a || b) || c) ≡ (a || (b || c))
    regroup true b c = refl
    regroup false b c = refl

module _ (these : List (List ℕ)) (db : Trees) (holds : HoldsEntries these db) where
  named_sent : (s : List ℕ) → is_key_among (map (text_at 0) (rows_in layout.transmissions db)) s ≡ has_sent (book_of db) s
  unfolding book_of
  named_sent s =
      named_where transmissions_total exact_transmissions is_transmission_row transmission_entry (λ q r. transmissions_tie q (transmission_key_of r)) (λ (key : TransmissionKey). key.sender) (λ r. refl)
      (λ q r is. (bytes_eq-Decides q.sender (text_at 0 r)).0 (first_true (bytes_eq q.sender (text_at 0 r)) (q.number == whole_number_at 1 r) is))
      (λ r. ap₂ (λ x y. x && y) ((bytes_eq-Decides (text_at 0 r) (text_at 0 r)).1 refl) ((Decides-eqb (whole_number_at 1 r) (whole_number_at 1 r)).1 refl))
      (rows_in layout.transmissions db) s

  named_stated : (s : List ℕ) → is_key_among (map (text_at 0) (rows_in layout.segment_ends db)) s ≡ has_stated (book_of db) s
  unfolding book_of
  named_stated s =
      named_where segments_total exact_segments is_end_row end_entry (λ q r. segments_tie q (segment_key_of r)) (λ (key : SegmentKey). key.sender) (λ r. refl)
      (λ q r is. (bytes_eq-Decides q.sender (text_at 0 r)).0 (first_true (bytes_eq q.sender (text_at 0 r)) (q.segment == segment_place_at 1 r) is))
      (λ r. ap₂ (λ x y. x && y) ((bytes_eq-Decides (text_at 0 r) (text_at 0 r)).1 refl) ((Decides-eqb (segment_place_at 1 r) (segment_place_at 1 r)).1 refl))
      (rows_in layout.segment_ends db) s

  all_named : (s : List ℕ) → is_key_among these s ≡ knows_sender (book_of db) s
  all_named s =
      ap (λ (names : List (List ℕ)). is_key_among names s) holds.senders
      ∙ among_ascending (senders_in db) s
      ∙ among_either (map (text_at 0) (rows_in layout.transmissions db)) (map (text_at 0) (rows_in layout.segment_ends db)) s
      ∙ ap₂ (λ x y. x || y) (named_sent s) (named_stated s)

  pub senders_of_entries : AreSenders (book_of db) these
  senders_of_entries = record {
    each = all_weaker (λ s. is_key_among these s ≡ true) (λ s. knows_sender (book_of db) s ≡ true) (λ s among. sym (all_named s) ∙ among) these (each_among these these (λ s h. h));
    once = subst (λ (names : List (List ℕ)). length (ascending bytes_cmp names) ≡ length names) (sym holds.senders) (ap length (ascending_again nat_list_cmp_total exact_bytes (senders_in db)));
    all = all_named;
  }
