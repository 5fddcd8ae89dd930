-- The rows of a sender's ends, and the lists of ends that are read of them.
use Rattle.std.proofs.Common.{◌≡◌, ◌∙◌, ◌<◌, ◌≤◌, ◌&&◌, ◌==◌, ◌++◌, ℕ, Bool, true, false, cond, List, [], ◌∷◌, Option, Some, None, find, filter, is_none, option_map, refl, ap, ap₂, sym, subst, bytes_eq, IsPermutation}
use Rattle.std.specs.FinMap as finite
use Rattle.std.specs.List.{AllByRecursion, list_all}
use Rattle.std.specs.Option.{option_or}
use Rattle.std.proofs.lemmas.Bool.{false≢true}
use Rattle.std.proofs.lemmas.Bool.Decides.{Decides-eqb}
use Rattle.std.proofs.lemmas.List.Folds.{find-append}
use Rattle.std.proofs.lemmas.List.Sorted.{IsPermutation-trans}
use Rattle.std.proofs.lemmas.Slice.Eq.{bytes_eq-Decides}
use Rattle.sqlite_keyed.proofs.ListLemmas.{IsPermutation-filter, all_of}
use Rattle.sqlite_trees.proofs.ListLemmas.{filter_same}
use Rattle.sqlite_trees.specs.Tree.{Trees}
use Rattle.sqlite_value.specs.declared.value.Value.TheVariants.{Text}
use Rattle.sqlite_value.specs.Order.{Row}
use Rattle.sender_segments.specs.Ways.{AreRight, End, LeadToYears, StatedEnds, end_stated}
use Rattle.society_core.specs.Book.{Book, end_at, ends_of, with_end}
use Rattle.society_core.specs.Ends.{fault_stated, place_stated}
use Rattle.society_core.specs.Keys.{segment_key}
use Rattle.society_core.specs.declared.segment_key.SegmentKey.{SegmentKey}
use Rattle.society_core.proofs.lemmas.Changes.{stated_possible, stated_year}
use Rattle.society_core.proofs.lemmas.Fronts.{first_holds, second_holds}
use Rattle.society_core.proofs.lemmas.KeyOrders.{segments_total}
use Rattle.society_rows.specs.Layout as layout
use Rattle.society_rows.specs.Reads.{Lists, has_key}
use Rattle.society_rows.specs.Stored.{rows_in}
use Rattle.society_book.specs.BookRows.{end_of, end_row, end_rows, is_end_row, row_of_some, same_segment_key, segment_key_of}
use Rattle.society_book.specs.Columns.{segment_place_at, text_at}
use Rattle.society_book.specs.DerivedRows.{is_named}
use Rattle.society_book.specs.EndLists.{end_listed, end_shown, is_faultless}
use Rattle.society_book.specs.Sources.{HasEnds}
use Rattle.society_book.proofs.lemmas.rows_alike.BookLemmas.{end_back, segments_tie}
use Rattle.society_book.proofs.lemmas.rows_alike.KeyRows.{both_same, either_way, numbers_either_way}
use Rattle.society_book.proofs.lemmas.rows_alike.NamedRows.{HasName, keyed_as_named}
use Rattle.society_book.proofs.lemmas.rows_alike.RowLemmas.{all_rows, filter_both, only}
use Rattle.work_ids.specs.SegmentEnds.{StatedEnd}
use Rattle.work_ids.specs.Segments.{most_in}

-- keys of segments that are the same are one
pub same_segment_is : (a b : SegmentKey) → same_segment_key a b ≡ true → a ≡ b
same_segment_is a b h =
    let name : a.sender ≡ b.sender = (bytes_eq-Decides a.sender b.sender).0 (first_holds (bytes_eq a.sender b.sender) (a.segment == b.segment) h) in
    let place : a.segment ≡ b.segment = (Decides-eqb a.segment b.segment).0 (second_holds (bytes_eq a.sender b.sender) (a.segment == b.segment) h) in
    ap₂ segment_key name place

-- a row of a segment at a place
abbrev is_at_place : ℕ → Row → Bool
is_at_place g row = segment_place_at 1 row == g

-- what the first of some rows says
abbrev first_end : List Row → Option End
first_end [] = None
first_end (row ∷ rows) = Some (end_of row)

-- the first row that passes is the first of those that pass
first_passing : (p : Row → Bool) (rows : List Row) → option_map end_of (find p rows) ≡ first_end (filter p rows)
first_passing p [] = refl
first_passing p (row ∷ rows) = by_case (p row) (first_passing p rows)
  where
    by_case : (c : Bool) → option_map end_of (find p rows) ≡ first_end (filter p rows) → option_map end_of (cond c (Some row) (find p rows)) ≡ first_end (cond c (row ∷ filter p rows) (filter p rows))
    by_case true later = refl
    by_case false later = later

ends_named : (key : SegmentKey) (o : Option End) → AllByRecursion HasName (row_of_some (end_row key) o)
ends_named key None = tt
ends_named key (Some end) = (refl, tt)

first_back : (key : SegmentKey) (o : Option End) → first_end (row_of_some (end_row key) o) ≡ o
first_back key None = refl
first_back key (Some end) = ap Some (end_back key end)

module _ (b : Book) (db : Trees) (has : HasEnds b db) (s : List ℕ) where
  abbrev rows : List Row
  rows = rows_in layout.segment_ends db

  as_key : (g : ℕ) (row : Row) → is_end_row (segment_key s g) row ≡ (is_named s row && is_at_place g row)
  as_key g row = ap₂ (λ x y. x && y) (either_way s (text_at 0 row)) (numbers_either_way g (segment_place_at 1 row))

  module _ (found : List Row) (lists : Lists layout.segment_ends (has_key (Text s ∷ [])) 2 db found) where
    found_there : (g : ℕ) → IsPermutation (end_rows b (segment_key s g)) (filter (is_at_place g) found)
    found_there g =
        let keyed = all_rows is_end_row segment_key_of (λ r. both_same (text_at 0 r) (segment_place_at 1 r)) HasName (end_rows b) rows has (λ q. ends_named q (end_at b q.sender q.segment)) in
        let named : filter (has_key (Text s ∷ [])) rows ≡ filter (is_named s) rows = filter_same (has_key (Text s ∷ [])) (is_named s) rows (keyed_as_named s rows keyed) in
        let of_key : filter (is_end_row (segment_key s g)) rows ≡ filter (is_at_place g) (filter (is_named s) rows) =
        filter_same (is_end_row (segment_key s g)) (λ r. is_named s r && is_at_place g r) rows (all_of (λ r. is_end_row (segment_key s g) r ≡ (is_named s r && is_at_place g r)) (as_key g) rows)
        ∙ filter_both (is_named s) (is_at_place g) rows in
        IsPermutation-trans (end_rows b (segment_key s g)) (filter (is_end_row (segment_key s g)) rows) (filter (is_at_place g) found) (has (segment_key s g))
        (subst (λ (l : List Row). IsPermutation l (filter (is_at_place g) found)) (sym of_key)
        (IsPermutation-filter (is_at_place g) (filter (is_named s) rows) found (subst (λ (l : List Row). IsPermutation l found) named lists.rows)))

    shown_at : (g : ℕ) → end_shown found g ≡ end_at b s g
    shown_at g =
        first_passing (is_at_place g) found
        ∙ ap first_end (only (end_row (segment_key s g)) (end_at b s g) (filter (is_at_place g) found) (found_there g))
        ∙ first_back (segment_key s g) (end_at b s g)

    -- what is found of a sender's ends shows them
    pub ends_found : end_shown found ≡ ends_of b s
    ends_found = λ i g. shown_at g i

-- ---- lists of ends

map_or : {X Y : Type 0} (f : X → Y) (a b : Option X) → option_map f (option_or a b) ≡ option_or (option_map f a) (option_map f b)
map_or f None b = refl
map_or f (Some x) b = refl

one_stated : (end : StatedEnd) (g : ℕ) (c : Bool) → option_map end_stated (cond c (Some end) None) ≡ cond c (Some (end_stated end)) None
one_stated end g true = refl
one_stated end g false = refl

one_shown : (row : Row) (c : Bool) → option_map end_of (cond c (Some row) None) ≡ cond c (Some (end_of row)) None
one_shown row true = refl
one_shown row false = refl

-- one end more counts where its segment has none yet
pub listed_push : (list : List StatedEnd) (end : StatedEnd) (g : ℕ) → end_listed (list ++ end ∷ []) g ≡ option_or (end_listed list g) (cond (place_stated end == g) (Some (end_stated end)) None)
listed_push list end g =
    ap (option_map end_stated) (find-append (λ (x : StatedEnd). place_stated x == g) list (end ∷ []))
    ∙ map_or end_stated (find (λ (x : StatedEnd). place_stated x == g) list) (cond (place_stated end == g) (Some end) None)
    ∙ ap (option_or (end_listed list g)) (one_stated end g (place_stated end == g))

shown_push : (rows : List Row) (row : Row) (g : ℕ) → end_shown (rows ++ row ∷ []) g ≡ option_or (end_shown rows g) (cond (segment_place_at 1 row == g) (Some (end_of row)) None)
shown_push rows row g =
    ap (option_map end_of) (find-append (is_at_place g) rows (row ∷ []))
    ∙ map_or end_of (find (is_at_place g) rows) (cond (is_at_place g row) (Some row) None)
    ∙ ap (option_or (end_shown rows g)) (one_shown row (segment_place_at 1 row == g))

-- so does one row more
pub listed_shown : (list : List StatedEnd) (rows : List Row) (end : StatedEnd) (row : Row) → end_listed list ≡ end_shown rows → place_stated end ≡ segment_place_at 1 row → end_stated end ≡ end_of row → end_listed (list ++ end ∷ []) ≡ end_shown (rows ++ row ∷ [])
listed_shown list rows end row same place is = λ i g. at_place g i
  where
    at_place : (g : ℕ) → end_listed (list ++ end ∷ []) g ≡ end_shown (rows ++ row ∷ []) g
    at_place g =
        listed_push list end g
        ∙ ap₂ option_or (ap (λ (ends : StatedEnds). ends g) same) (ap₂ (λ (h : ℕ) (e : End). cond (h == g) (Some e) None) place is)
        ∙ sym (shown_push rows row g)

-- with an end that is stated of a free segment a list has the ends of the book with it
pub listed_stated : (b : Book) (s : List ℕ) (list : List StatedEnd) (end : StatedEnd) → end_listed list ≡ ends_of b s → end_at b s (place_stated end) ≡ None → end_listed (list ++ end ∷ []) ≡ ends_of (with_end b s (place_stated end) (end_stated end)) s
listed_stated b s list end same free = λ i g. at_place g i
  where
    there : Option End → ℕ → Option End
    there o g = cond (g == place_stated end) (Some (end_stated end)) o

    after : (g : ℕ) → end_at (with_end b s (place_stated end) (end_stated end)) s g ≡ there (end_at b s g) g
    after g =
        finite.get-insert segments_total b.ends (segment_key s (place_stated end)) (end_stated end) (segment_key s g)
        ∙ ap (λ x. cond x (Some (end_stated end)) (end_at b s g)) (segments_tie (segment_key s g) (segment_key s (place_stated end)) ∙ ap (λ x. x && (g == place_stated end)) ((bytes_eq-Decides s s).1 refl))

    by_case : (g : ℕ) (c : Bool) → (place_stated end == g) ≡ c → option_or (end_at b s g) (cond c (Some (end_stated end)) None) ≡ cond c (Some (end_stated end)) (end_at b s g)
    by_case g true is =
        let none : end_at b s g ≡ None = ap (end_at b s) (sym ((Decides-eqb (place_stated end) g).0 is)) ∙ free in
        ap (λ (o : Option End). option_or o (Some (end_stated end))) none
    by_case g false is = by_option (end_at b s g)
      where
        by_option : (o : Option End) → option_or o None ≡ o
        by_option None = refl
        by_option (Some x) = refl

    at_place : (g : ℕ) → end_listed (list ++ end ∷ []) g ≡ end_at (with_end b s (place_stated end) (end_stated end)) s g
    at_place g =
        listed_push list end g
        ∙ ap (λ (ends : StatedEnds). option_or (ends g) (cond (place_stated end == g) (Some (end_stated end)) None)) same
        ∙ by_case g (place_stated end == g) refl
        ∙ ap (λ x. cond x (Some (end_stated end)) (end_at b s g)) (numbers_either_way (place_stated end) g)
        ∙ sym (after g)

-- ---- ends without a fault

none_some : {X : Type 0} (x : X) → ◌≡◌ {A = Option X} None (Some x) → ⊥
none_some x e = cc

some_same : {X : Type 0} (x y : X) → ◌≡◌ {A = Option X} (Some x) (Some y) → x ≡ y
some_same x y e = cc

pub no_fault : {X : Type 0} (o : Option X) → is_none o ≡ true → o ≡ None
no_fault None h = refl
no_fault (Some x) h = absurd (false≢true h)

-- an end of a list has no fault
record IsListed (g : ℕ) (end : End) : Type 0 where
  stated : StatedEnd
  right : fault_stated stated ≡ None
  place : place_stated stated ≡ g
  is : end_stated stated ≡ end

is_listed : (list : List StatedEnd) → list_all is_faultless list ≡ true → (g : ℕ) (end : End) → end_listed list g ≡ Some end → IsListed g end
is_listed [] all g end h = absurd (none_some end h)
is_listed (x ∷ list) all g end h = by_case (place_stated x == g) refl (is_listed list (second_holds (is_faultless x) (list_all is_faultless list) all) g end)
  where
    by_case : (c : Bool) → (place_stated x == g) ≡ c → (end_listed list g ≡ Some end → IsListed g end) → IsListed g end
    by_case true is later =
        let first : Some (end_stated x) ≡ Some end = sym (ap (λ (c : Bool). option_map end_stated (cond c (Some x) (find (λ (y : StatedEnd). place_stated y == g) list))) is) ∙ h in
        record {
          stated = x;
          right = no_fault (fault_stated x) (first_holds (is_faultless x) (list_all is_faultless list) all);
          place = (Decides-eqb (place_stated x) g).0 is;
          is = some_same (end_stated x) end first;
        }
    by_case false is later = later (sym (ap (λ (c : Bool). option_map end_stated (cond c (Some x) (find (λ (y : StatedEnd). place_stated y == g) list))) is) ∙ h)

-- so each leads to a later year
pub listed_right : (list : List StatedEnd) → list_all is_faultless list ≡ true → AreRight (end_listed list)
listed_right list all = record {
  within = λ g end there.
      let listed = is_listed list all g end there in
      subst (λ (e : End). e.last ≤ most_in g) listed.is
      (subst (λ (h : ℕ). (end_stated listed.stated).last ≤ most_in h) listed.place (stated_possible listed.stated listed.right).last);
  later = λ g end there.
      let listed = is_listed list all g end there in
      subst (λ (e : End). g < e.next) listed.is
      (subst (λ (h : ℕ). h < (end_stated listed.stated).next) listed.place (stated_possible listed.stated listed.right).later);
}

pub listed_years : (list : List StatedEnd) → list_all is_faultless list ≡ true → LeadToYears (end_listed list)
listed_years list all = λ g end there.
    let listed = is_listed list all g end there in
    subst (λ (e : End). e.next ≤ 100) listed.is (stated_year listed.stated listed.right)
