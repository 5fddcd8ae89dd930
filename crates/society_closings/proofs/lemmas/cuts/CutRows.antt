-- The version of a work at a cut out of the rows of its versions.
use Rattle.std.proofs.Common.{◌≡◌, ◌∙◌, ◌<◌, ◌≤◌, ◌+◌, ◌&&◌, ◌++◌, ℕ, Bool, true, false, cond, not, List, [], ◌∷◌, Option, Some, None, refl, ap, ap₂, sym, subst, arith, find, filter, reverse, IsPermutation, Less, nat_le, nat_lt, option_map}
use Rattle.std.proofs.lemmas.Bool.Decides.{nat_tests}
use Rattle.std.proofs.lemmas.List.{append-nil, reverse-append}
use Rattle.std.proofs.lemmas.List.Elements.{filter-append}
use Rattle.std.proofs.lemmas.Slice.Eq.{bytes_eq-Decides}
use Rattle.std.specs.List.{AllByRecursion}
use Rattle.share_rules.specs.declared.office.Office.{Office}
use Rattle.sender_segments.specs.Ways.{AreRight}
use Rattle.society_core.proofs.lemmas.Books.{sound_order}
use Rattle.society_core.proofs.lemmas.LineNumbers.{line_rises_to}
use Rattle.society_core.specs.Book.{Book, ends_of, front, line, version_in}
use Rattle.society_core.proofs.lemmas.Lines.{line_over, over_rises, over_up_to}
use Rattle.society_rows.specs.Layout as layout
use Rattle.society_rows.specs.Reads.{Lists, has_key}
use Rattle.society_book.specs.Columns.{whole_number_at, text_at}
use Rattle.society_book.specs.DerivedRows.{is_named, tells_version, told_to_front}
use Rattle.society_book.specs.Sources.{HoldsWorks}
use Rattle.society_book.specs.Shown.{version_shown}
use Rattle.society_book.proofs.lemmas.lines.LineRows.{HasBack, HasTexts, IsBack, cut_line, is_of_work, line_back, one_by, placed_over, tested, texts_told, told_line, version_row, version_rows, version_told}
use Rattle.society_book.proofs.lemmas.rows_alike.RowLemmas.{found_among}
use Rattle.society_book.proofs.lemmas.rows_alike.SortedRows.{one_order, rises_third}
use Rattle.sqlite_keyed.proofs.ListLemmas.{all-append, ascending-append}
use Rattle.sqlite_sql.specs.Query.{key_cmp}
use Rattle.sqlite_trees.proofs.ListLemmas.{all_weaker}
use Rattle.sqlite_trees.specs.Tree.{IsAscending, Trees}
use Rattle.sqlite_value.specs.Keys.{rising}
use Rattle.sqlite_value.specs.Order.{Row}
use Rattle.sqlite_value.specs.declared.value.Value.TheVariants.{Text}
use Rattle.work_ids.specs.Blanks.{without_trailing_blanks}
use Rattle.works_core.proofs.lemmas.CutLemmas.{work_at_upto}
use Rattle.works_core.proofs.lemmas.TrackLemmas.{last_upto}
use Rattle.works_core.specs.Numbered.{JudgedTransmission}
use Rattle.works_core.specs.Verdicts.{verdict_of, versions_of}
use Rattle.works_core.specs.Versions.{Placed, is_version, judged_of, last_version, placed_line, version_of, work_at}
use Rattle.works_core.specs.declared.version.WorkVersion.{WorkVersion}

-- the last of some rows whose transmission is up to a cut
abbrev pub row_up_to : ℕ → List Row → Option Row
row_up_to cut rows = find (λ row. nat_le (whole_number_at 3 row) cut) (reverse rows)

-- with one row more
pub up_to_push : (cut : ℕ) (rows : List Row) (row : Row) → row_up_to cut (rows ++ row ∷ []) ≡ cond (nat_le (whole_number_at 3 row) cut) (Some row) (row_up_to cut rows)
up_to_push cut rows row = ap (find (λ r. nat_le (whole_number_at 3 r) cut)) (reverse-append rows (row ∷ []))

-- the rows of a work's versions, the first one first
abbrev pub rising_rows : List ℕ → List ℕ → List Placed → List Row
rising_rows s w [] = []
rising_rows s w (t ∷ past) = rising_rows s w past ++ cond (is_version w past t) (version_row s w (version_of w past t) ∷ []) []

module _ (s w : List ℕ) (back : IsBack w) where
  -- they are those of the versions that are of the work
  rows_rising : (past : List Placed) → AllByRecursion (λ t. HasBack t.judged) past → filter (is_of_work w) (version_rows s past) ≡ rising_rows s w past
  rows_rising [] all = refl
  rows_rising (t ∷ past) all =
      filter-append (is_of_work w) (version_rows s past) (version_told s t (verdict_of (judged_of past) t.judged))
      ∙ ap₂ ◌++◌ (rows_rising past all.1) (one_by s w back past t.transmission t.place t.judged (verdict_of (judged_of past) t.judged) all.0 refl)

module _ (s w : List ℕ) where
  -- a version before another rises to it
  rises : (v u : WorkVersion) → v.revision < u.revision → key_cmp 0 (rising 3 []) (version_row s w v) (version_row s w u) ≡ Less
  rises v u less = rises_third (version_row s w v) (version_row s w u) v.revision u.revision refl refl refl refl less

  all_rise : (u : WorkVersion) (past : List Placed) → versions_of w (judged_of past) ≤ u.revision → AllByRecursion (λ row. key_cmp 0 (rising 3 []) row (version_row s w u) ≡ Less) (rising_rows s w past)
  all_rise u [] most = tt
  all_rise u (t ∷ past) most = by_case (is_version w past t) most (all_rise u past)
    where
      by_case : (c : Bool) → cond c (versions_of w (judged_of past) + 1) (versions_of w (judged_of past)) ≤ u.revision →
          (versions_of w (judged_of past) ≤ u.revision → AllByRecursion (λ row. key_cmp 0 (rising 3 []) row (version_row s w u) ≡ Less) (rising_rows s w past)) →
          AllByRecursion (λ row. key_cmp 0 (rising 3 []) row (version_row s w u) ≡ Less) (rising_rows s w past ++ cond c (version_row s w (version_of w past t) ∷ []) [])
      by_case true most before =
          all-append (λ row. key_cmp 0 (rising 3 []) row (version_row s w u) ≡ Less) (rising_rows s w past) (version_row s w (version_of w past t) ∷ []) (before (omega (arith, most)))
          (rises (version_of w past t) u (omega (arith, most)), tt)
      by_case false most before = all-append (λ row. key_cmp 0 (rising 3 []) row (version_row s w u) ≡ Less) (rising_rows s w past) [] (before most) tt

  -- the rows of the work rise by their revisions
  work_rises : (past : List Placed) → IsAscending (λ a b. key_cmp 0 (rising 3 []) a b ≡ Less) (rising_rows s w past)
  work_rises [] = tt
  work_rises (t ∷ past) = by_case (is_version w past t) (work_rises past)
    where
      by_case : (c : Bool) → IsAscending (λ a b. key_cmp 0 (rising 3 []) a b ≡ Less) (rising_rows s w past) → IsAscending (λ a b. key_cmp 0 (rising 3 []) a b ≡ Less) (rising_rows s w past ++ cond c (version_row s w (version_of w past t) ∷ []) [])
      by_case true up =
          ascending-append (λ a b. key_cmp 0 (rising 3 []) a b ≡ Less) (rising_rows s w past) (version_row s w (version_of w past t) ∷ []) up (tt, tt)
          (all_weaker (λ row. key_cmp 0 (rising 3 []) row (version_row s w (version_of w past t)) ≡ Less) (λ row. AllByRecursion (λ b. key_cmp 0 (rising 3 []) row b ≡ Less) (version_row s w (version_of w past t) ∷ [])) (λ row h. (h, tt)) (rising_rows s w past) (all_rise (version_of w past t) past (omega arith)))
      by_case false up = subst (IsAscending (λ a b. key_cmp 0 (rising 3 []) a b ≡ Less)) (sym (append-nil (rising_rows s w past))) up

  not_above : (n cut : ℕ) → nat_le n cut ≡ not (nat_lt cut n)
  not_above n cut = grind (arith, nat_tests)

  -- the last of them up to a cut is the last version up to it
  row_last : (cut : ℕ) (past : List Placed) → row_up_to cut (rising_rows s w past) ≡ option_map (version_row s w) (last_upto cut w past)
  row_last cut [] = refl
  row_last cut (t ∷ past) = by_case (is_version w past t) (row_last cut past)
    where
      by_test : (b : Bool) → row_up_to cut (rising_rows s w past) ≡ option_map (version_row s w) (last_upto cut w past) →
          cond b (Some (version_row s w (version_of w past t))) (row_up_to cut (rising_rows s w past)) ≡ option_map (version_row s w) (cond b (Some (version_of w past t)) (last_upto cut w past))
      by_test true e = refl
      by_test false e = e

      by_case : (c : Bool) → row_up_to cut (rising_rows s w past) ≡ option_map (version_row s w) (last_upto cut w past) →
          row_up_to cut (rising_rows s w past ++ cond c (version_row s w (version_of w past t) ∷ []) []) ≡ option_map (version_row s w) (cond (c && not (nat_lt cut t.transmission)) (Some (version_of w past t)) (last_upto cut w past))
      by_case true e =
          up_to_push cut (rising_rows s w past) (version_row s w (version_of w past t))
          ∙ by_test (nat_le t.transmission cut) e
          ∙ ap (λ (b : Bool). option_map (version_row s w) (cond b (Some (version_of w past t)) (last_upto cut w past))) (not_above t.transmission cut)
      by_case false e = ap (row_up_to cut) (append-nil (rising_rows s w past)) ∙ e

shown_back : (s w : List ℕ) (v : Option WorkVersion) → option_map version_shown (option_map (version_row s w) v) ≡ v
shown_back s w None = refl
shown_back s w (Some v) = refl

module _ (o : Office) (b : Book) (s : List ℕ) (right : AreRight (ends_of b s)) where
  -- the version at a cut is the last one up to it of the whole line
  cut_version : (w : List ℕ) (cut : ℕ) → last_upto cut w (placed_over o b s (line b s)) ≡ version_in o b s w cut
  unfolding work_at
  cut_version w cut =
      sym (work_at_upto (line_over o b s (line b s)) w cut (over_rises o b s 0 (front b s) (line b s) (line_rises_to b s right)))
      ∙ ap (λ (l : List JudgedTransmission). last_version w (placed_line l)) (over_up_to o b s cut (line b s))
      ∙ cut_line o b s w cut

-- what is found of a work's versions are the rows of all of them, the first one first
rows_found : (o : Office) (b : Book) (db : Trees) → HoldsWorks o b db → (s w : List ℕ) → IsBack w → (found : List Row) → Lists layout.versions (has_key (Text s ∷ Text (without_trailing_blanks w) ∷ [])) 3 db found →
    found ≡ rising_rows s w (placed_over o b s (line b s))
rows_found o b db holds s w back found lists =
    let whole = placed_over o b s (line b s) in
    let told : filter (is_of_work w) (told_to_front tells_version o b s) ≡ rising_rows s w whole = ap (filter (is_of_work w)) (told_line o b s (sound_order b holds.sound s).right) ∙ rows_rising s w back whole (line_back o b s (line b s)) in
    one_order 3 (rising_rows s w whole) found (work_rises s w whole)
    (subst (λ l. IsPermutation l found) told
    (found_among HasTexts is_named (text_at 0) (λ r. (bytes_eq-Decides (text_at 0 r) (text_at 0 r)).1 refl) s (has_key (Text s ∷ Text (without_trailing_blanks w) ∷ [])) (is_of_work w) (tested s w)
    layout.versions (told_to_front tells_version o b) db found holds.derived.versions (λ q. texts_told o b q (sound_order b holds.sound q).right) lists.rows))
    lists.sorted

-- the last of them up to a cut shows the version there
pub version_found : (o : Office) (b : Book) (db : Trees) → HoldsWorks o b db → (s w : List ℕ) (cut : ℕ) → IsBack w → (found : List Row) → Lists layout.versions (has_key (Text s ∷ Text (without_trailing_blanks w) ∷ [])) 3 db found →
    option_map version_shown (row_up_to cut found) ≡ version_in o b s w cut
version_found o b db holds s w cut back found lists =
    let whole = placed_over o b s (line b s) in
    ap (λ (rows : List Row). option_map version_shown (row_up_to cut rows)) (rows_found o b db holds s w back found lists)
    ∙ ap (option_map version_shown) (row_last s w cut whole)
    ∙ shown_back s w (last_upto cut w whole)
    ∙ cut_version o b s (sound_order b holds.sound s).right w cut
