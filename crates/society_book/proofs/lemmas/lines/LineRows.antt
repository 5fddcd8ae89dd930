-- A sender's line, one transmission after another, and the rows of its versions.
use Rattle.std.proofs.Common.{◌≡◌, ◌∙◌, ◌<◌, ◌≤◌, ◌+◌, ◌-◌, ◌&&◌, ◌++◌, ℕ, pos, Bool, true, false, cond, List, [], ◌∷◌, Option, Some, None, length, refl, ap, ap₂, sym, subst, arith, map, filter, take, get_or, IsPermutation, unwrap_or, Less, Equal, bytes_eq, replicate, Ok, nat_le, append_assoc}
use Rattle.std.specs.List.{AllByRecursion, flat_map, list_all, suffix_len}
use Rattle.std.specs.Ordering.{ordering_then}
use Rattle.std.proofs.lemmas.Cmp.{tied_itself}
use Rattle.sqlite_sql.specs.Query.{key_cmp}
use Rattle.sqlite_trees.specs.Tree.{IsAscending, Trees}
use Rattle.sqlite_value.proofs.KeyLemmas.{by_key_total}
use Rattle.sqlite_value.specs.Keys.{by_key}
use Rattle.sqlite_value.specs.declared.keys.Collation.TheVariants.{Binary}
use Rattle.sqlite_value.specs.declared.keys.Key.{Key}
use Rattle.sqlite_value.specs.declared.value.Value.{Value}
use Rattle.society_rows.specs.Reads.{IsFirstOf, falling, has_key}
use Rattle.society_book.specs.Shown.{ShowVersion}
use Rattle.work_ids.specs.Characters.{is_printable}
use Rattle.work_ids.specs.WorkNumber.{work_number_of}
use Rattle.work_ids.specs.declared.fault.IdFault.TheVariants.{Length, Character}
use Rattle.society_book.specs.BookRows.{row_of_some}
use Rattle.society_book.specs.Columns.{text_at}
use Rattle.sqlite_keyed.proofs.ListLemmas.{all-append, filter-filter}
use Rattle.sqlite_keyed.proofs.SortLemmas.{sorted_unique}
use Rattle.sqlite_schema.specs.Rules.{equal}
use Rattle.sqlite_sql.proofs.QueryLemmas.{key_cmp_total}
use Rattle.society_rows.specs.Layout as layout
use Rattle.society_book.specs.Kept.{HoldsBook}
use Rattle.society_rows.proofs.lemmas.readings.KeyEquality.{text_equal}
use Rattle.society_book.proofs.lemmas.rows_alike.KeyRows.{either_way, last_truth, let_through, same_truth}
use Rattle.society_book.proofs.lemmas.rows_alike.RowLemmas.{found_among}
use Rattle.society_book.proofs.lemmas.rows_alike.SortedRows.{numbers_rise}
use Rattle.std.proofs.lemmas.List.{append-nil, get_or-append_right, get_or-replicate, get_or_append_left, length-append, length-replicate, take_at}
use Rattle.std.proofs.lemmas.List.Sums.{suffix_len_is}
use Rattle.cwr_files.specs.Transaction.{first_work, submitter_number}
use Rattle.cwr_records.specs.declared.work.TransactionKind.{TransactionKind}
use Rattle.work_ids.proofs.lemmas.Refilled.{left_last}
use Rattle.std.proofs.lemmas.List.Elements.{filter-append}
use Rattle.std.proofs.lemmas.List.Sorted.{IsPermutation-append_comm, IsPermutation-append_right, IsPermutation-refl, IsPermutation-trans}
use Rattle.std.proofs.lemmas.Slice.Eq.{bytes_eq-Decides}
use Rattle.cwr_files.specs.Contents.{transactions_of, transmission_in}
use Rattle.cwr_files.specs.declared.transmission.Transaction.{Transaction}
use Rattle.cwr_files.specs.declared.transmission.Transmission.{Transmission}
use Rattle.share_rules.specs.Fault.{fault_of}
use Rattle.share_rules.specs.declared.office.Office.{Office}
use Rattle.sender_segments.specs.Ascends.{Ascends}
use Rattle.sender_segments.specs.Ways.{AreRight}
use Rattle.society_core.specs.Book.{Book, body_at, ends_of, front, line, numbers_to, verdicts_in, version_in}
use Rattle.society_core.proofs.lemmas.Books.{sound_order}
use Rattle.society_core.proofs.lemmas.LineNumbers.{all_up_to, line_rises_to, none_up_to, whole_line}
use Rattle.society_core.proofs.lemmas.Lines.{judged_under, line_over, line_to, over_below, over_push, over_rises, over_up_to}
use Rattle.sqlite_value.specs.declared.value.Value.TheVariants.{Int, Text}
use Rattle.sqlite_value.specs.Order.{Row, column}
use Rattle.society_book.specs.DerivedRows.{is_named, tells_version, told_by, told_from, told_to_front, line_at_front}
use Rattle.work_ids.specs.Blanks.{fill, is_blank_byte, without_trailing_blanks}
use Rattle.works_core.proofs.lemmas.EndLemmas.{IsTaken, refused, taken}
use Rattle.works_core.proofs.lemmas.KeptLemmas.{placed_push}
use Rattle.works_core.proofs.lemmas.NumberLemmas.{verdicts_last}
use Rattle.works_core.proofs.lemmas.TrackLemmas.{same_bytes}
use Rattle.works_core.specs.Line.{filled_number, judged, judged_by, judged_in, verdicts_at}
use Rattle.works_core.specs.Tracks.{number_in}
use Rattle.works_core.specs.Numbered.{JudgedTransmission}
use Rattle.works_core.specs.Verdicts.{concerns, is_accepted, ordinal_of, verdict_of, verdicts_from, versions_of}
use Rattle.works_core.specs.Versions.{Placed, is_version, judged_of, last_version, placed_at, placed_behind, placed_line, version_of, work_at}
use Rattle.works_core.specs.declared.judged.Judged.{Judged}
use Rattle.works_core.specs.declared.judged.Judged.TheVariants.{Clean, Faulty}
use Rattle.works_core.specs.declared.verdict.Verdict.{Verdict}
use Rattle.works_core.specs.declared.verdict.Verdict.TheVariants.{Accepted, Rejected}
use Rattle.works_core.specs.declared.version.WorkVersion.{WorkVersion}

-- what a verdict adds to the table of versions, by its place and what is judged
abbrev pub version_told : List ℕ → Placed → Verdict → List Row
version_told s t (Rejected fault) = []
version_told s t (Accepted ordinal revision) =
    (Text s ∷ Text (without_trailing_blanks (number_in t.judged)) ∷ Int (pos revision) ∷ Int (pos t.transmission) ∷ Int (pos t.place) ∷ Int (pos ordinal) ∷ []) ∷ []

-- the rows of the versions of a line, the first one first
abbrev pub version_rows : List ℕ → List Placed → List Row
version_rows s [] = []
version_rows s (t ∷ past) = version_rows s past ++ version_told s t (verdict_of (judged_of past) t.judged)

-- numbers that ascend, cut before one of them
rises_before : (low high : ℕ) (before more : List ℕ) (n : ℕ) → Ascends low (before ++ n ∷ more) high → Ascends low before n
rises_before low high [] more n rise = let first = rise.0 in omega (arith, first)
rises_before low high (m ∷ before) more n rise = (rise.0, rises_before m high before more n rise.1)

rises_with : (low high : ℕ) (before more : List ℕ) (n : ℕ) → Ascends low (before ++ n ∷ more) high → Ascends low (before ++ n ∷ []) n × Ascends n more high
rises_with low high [] more n rise = ((rise.0, omega arith), rise.1)
rises_with low high (m ∷ before) more n rise = let later = rises_with m high before more n rise.1 in ((rise.0, later.0), later.1)

module _ (o : Office) (b : Book) (s : List ℕ) where
  -- a transmission of the sender
  abbrev pub sent : ℕ → Transmission
  sent n = transmission_in (unwrap_or (body_at b s n) [])

  -- the transactions of the sender's transmissions under some numbers, at their places
  abbrev pub placed_over : List ℕ → List Placed
  placed_over ns = placed_line (line_over o b s ns)

  -- a line goes on with the next transmission
  pub line_goes : (ns : List ℕ) (n : ℕ) → placed_over (ns ++ n ∷ []) ≡ placed_behind (placed_over ns) n 0 (judged_in o (sent n))
  line_goes ns n = ap placed_line (over_push o b s ns n) ∙ placed_push [] (line_over o b s ns) (judged_under o b s n)

  module _ (right : AreRight (ends_of b s)) where
    module _ (before more : List ℕ) (n : ℕ) (is : line b s ≡ before ++ n ∷ more) where
      rising : Ascends 0 (before ++ n ∷ more) (front b s)
      rising = subst (λ (ns : List ℕ). Ascends 0 ns (front b s)) is (line_rises_to b s right)

      -- up to one of its numbers the line is what stands before it, and it
      numbers_at : numbers_to b s n ≡ before ++ n ∷ []
      numbers_at =
          let parts = rises_with 0 (front b s) before more n rising in
          ap (filter (λ m. nat_le m n)) (is ∙ sym (append_assoc before (n ∷ []) more))
          ∙ filter-append (λ m. nat_le m n) (before ++ n ∷ []) more
          ∙ ap₂ ◌++◌ (all_up_to 0 n n (before ++ n ∷ []) parts.0 (omega arith)) (none_up_to n (front b s) n more parts.1 (omega arith))
          ∙ append-nil (before ++ n ∷ [])

      -- its verdicts are those behind what stands before it
      pub verdicts_go : verdicts_in o b s n ≡ verdicts_from (judged_of (placed_over before)) (judged_in o (sent n))
      verdicts_go =
          ap (λ (ns : List ℕ). verdicts_at (line_over o b s ns) n) numbers_at
          ∙ ap (λ (line : List JudgedTransmission). verdicts_at line n) (over_push o b s before n)
          ∙ verdicts_last (line_over o b s before) (judged_under o b s n) (over_rises o b s 0 n before (rises_before 0 (front b s) before more n rising)) (over_below o b s 0 (front b s) before more n rising)

  by_verdict : (x : Transaction) (n p : ℕ) (v : Verdict) → tells_version s n p x v ≡ version_told s (placed_at n p (Clean x.kind (filled_number x))) v
  by_verdict x n p (Accepted ordinal revision) = refl
  by_verdict x n p (Rejected fault) = refl

  by_fault : (x : Transaction) (n p : ℕ) (past : List Judged) (f : Option ℕ) →
      tells_version s n p x (verdict_of past (judged_by x.kind (filled_number x) f)) ≡ version_told s (placed_at n p (judged_by x.kind (filled_number x) f)) (verdict_of past (judged_by x.kind (filled_number x) f))
  by_fault x n p past (Some f) = refl
  by_fault x n p past None = by_verdict x n p (verdict_of past (Clean x.kind (filled_number x)))

  behind_rows : (n p : ℕ) (past : List Placed) (xs : List Transaction) →
      version_rows s (placed_behind past n p (map (judged o) xs)) ≡ version_rows s past ++ told_from tells_version s n p xs (verdicts_from (judged_of past) (map (judged o) xs))
  behind_rows n p past [] = sym (append-nil (version_rows s past))
  behind_rows n p past (x ∷ xs) =
      let t = placed_at n p (judged o x) in
      let v = verdict_of (judged_of past) (judged o x) in
      let more = told_from tells_version s n (p + 1) xs (verdicts_from (judged o x ∷ judged_of past) (map (judged o) xs)) in
      behind_rows n (p + 1) (t ∷ past) xs
      ∙ append_assoc (version_rows s past) (version_told s t v) more
      ∙ ap (λ (rows : List Row). version_rows s past ++ (rows ++ more)) (sym (by_fault x n p (judged_of past) (fault_of o x)))

  module _ (right : AreRight (ends_of b s)) where
    told_next : (before more : List ℕ) (n : ℕ) → line b s ≡ before ++ n ∷ more → version_rows s (placed_over (before ++ n ∷ [])) ≡ version_rows s (placed_over before) ++ told_by tells_version o b s n
    unfolding judged_in
    told_next before more n is =
        let xs = transactions_of (sent n) in
        ap (version_rows s) (line_goes before n)
        ∙ behind_rows n 0 (placed_over before) xs
        ∙ ap (λ (vs : List Verdict). version_rows s (placed_over before) ++ told_from tells_version s n 0 xs vs) (sym (verdicts_go right before more n is))

    told_on : (before more : List ℕ) → line b s ≡ before ++ more → version_rows s (placed_over (before ++ more)) ≡ version_rows s (placed_over before) ++ flat_map (told_by tells_version o b s) more
    told_on before [] is = ap (λ (ns : List ℕ). version_rows s (placed_over ns)) (append-nil before) ∙ sym (append-nil (version_rows s (placed_over before)))
    told_on before (n ∷ more) is =
        let again = append_assoc before (n ∷ []) more in
        ap (λ (ns : List ℕ). version_rows s (placed_over ns)) (sym again)
        ∙ told_on (before ++ n ∷ []) more (is ∙ sym again)
        ∙ ap (λ (rows : List Row). rows ++ flat_map (told_by tells_version o b s) more) (told_next before more n is)
        ∙ append_assoc (version_rows s (placed_over before)) (told_by tells_version o b s n) (flat_map (told_by tells_version o b s) more)

    -- what the transmissions of the line tell of versions are the versions of the line
    pub told_line : told_to_front tells_version o b s ≡ version_rows s (placed_over (line b s))
    told_line = sym (told_on [] (line b s) refl)

    -- the line up to the front is the whole one
    pub at_front : line_at_front o b s ≡ placed_over (line b s)
    at_front = ap placed_over (whole_line b s right)

-- ---- the versions of one work

-- the row of a version of a work
abbrev pub version_row : List ℕ → List ℕ → WorkVersion → Row
version_row s w v = Text s ∷ Text (without_trailing_blanks w) ∷ Int (pos v.revision) ∷ Int (pos v.transmission) ∷ Int (pos v.place) ∷ Int (pos v.ordinal) ∷ []

-- the rows of a work's versions, the last one first
abbrev pub work_rows : List ℕ → List ℕ → List Placed → List Row
work_rows s w [] = []
work_rows s w (t ∷ past) = cond (is_version w past t) (version_row s w (version_of w past t) ∷ work_rows s w past) (work_rows s w past)

-- the first of them is the row of the last version
pub first_row : (s w : List ℕ) (past : List Placed) → take 1 (work_rows s w past) ≡ row_of_some (version_row s w) (last_version w past)
first_row s w [] = refl
first_row s w (t ∷ past) = by_case (is_version w past t) (first_row s w past)
  where
    by_case : (c : Bool) → take 1 (work_rows s w past) ≡ row_of_some (version_row s w) (last_version w past) →
        take 1 (cond c (version_row s w (version_of w past t) ∷ work_rows s w past) (work_rows s w past)) ≡ row_of_some (version_row s w) (cond c (Some (version_of w past t)) (last_version w past))
    by_case true e = refl
    by_case false e = e

-- whether a row is of a work
abbrev pub is_of_work : List ℕ → Row → Bool
is_of_work w row = bytes_eq (without_trailing_blanks w) (text_at 1 row)

-- a work number is read back from its text
abbrev pub IsBack : List ℕ → Type 0
IsBack w = fill 14 (without_trailing_blanks w) ≡ w

-- so is that of a clean transaction
abbrev pub HasBack : Judged → Type 0
HasBack (Clean kind number) = IsBack number
HasBack (Faulty fault) = Unit {0}

-- work numbers that are read back are one where their texts are
same_work : (w n : List ℕ) → IsBack w → IsBack n → bytes_eq (without_trailing_blanks w) (without_trailing_blanks n) ≡ bytes_eq n w
same_work w n back_w back_n =
    same_truth (bytes_eq (without_trailing_blanks w) (without_trailing_blanks n)) (bytes_eq n w)
    (λ e. (bytes_eq-Decides n w).1 (sym back_n ∙ ap (fill 14) (sym ((bytes_eq-Decides (without_trailing_blanks w) (without_trailing_blanks n)).0 e)) ∙ back_w))
    (λ e. (bytes_eq-Decides (without_trailing_blanks w) (without_trailing_blanks n)).1 (ap without_trailing_blanks (sym ((bytes_eq-Decides n w).0 e))))

module _ (s w : List ℕ) (back : IsBack w) where
  taken_row : (past : List Placed) (t : Placed) (n : List ℕ) (r k : ℕ) → number_in t.judged ≡ n → IsBack n → IsTaken (judged_of past) t.judged k r → is_accepted (judged_of past) t.judged && concerns w t.judged ≡ bytes_eq n w →
      filter (is_of_work w) (version_told s t (Accepted k r)) ≡ cond (is_version w past t) (version_row s w (version_of w past t) ∷ []) []
  taken_row past t n r k same back_n is concerned =
      ap (λ (z : List ℕ). cond (bytes_eq (without_trailing_blanks w) (without_trailing_blanks z)) (row_with z) []) same
      ∙ ap (λ (c : Bool). cond c (row_with n) []) (same_work w n back back_n)
      ∙ by_case (bytes_eq n w) refl
      ∙ ap (λ (c : Bool). cond c (version_row s w (version_of w past t) ∷ []) []) (sym concerned)
    where
      row_with : List ℕ → List Row
      row_with z = (Text s ∷ Text (without_trailing_blanks z) ∷ Int (pos r) ∷ Int (pos t.transmission) ∷ Int (pos t.place) ∷ Int (pos k) ∷ []) ∷ []

      by_case : (c : Bool) → bytes_eq n w ≡ c → cond c (row_with n) [] ≡ cond c (version_row s w (version_of w past t) ∷ []) []
      by_case true e =
          let one = same_bytes n w e in
          ap row_with one
          ∙ ap₂ (λ (x y : ℕ). (Text s ∷ Text (without_trailing_blanks w) ∷ Int (pos x) ∷ Int (pos t.transmission) ∷ Int (pos t.place) ∷ Int (pos y) ∷ []) ∷ [])
          (sym is.revision ∙ ap (λ (z : List ℕ). versions_of z (judged_of past)) (same ∙ one))
          (sym is.ordinal ∙ ap (λ (z : List ℕ). ordinal_of z (t.judged ∷ judged_of past)) (same ∙ one))
      by_case false e = refl

  pub one_by : (past : List Placed) (n p : ℕ) (x : Judged) (v : Verdict) → HasBack x → verdict_of (judged_of past) x ≡ v →
      filter (is_of_work w) (version_told s (placed_at n p x) v) ≡ cond (is_version w past (placed_at n p x)) (version_row s w (version_of w past (placed_at n p x)) ∷ []) []
  one_by past n p x (Rejected f) ok e =
      let no_more = refused (judged_of past) x f e in
      sym (ap (λ (a : Bool). cond (a && concerns w x) (version_row s w (version_of w past (placed_at n p x)) ∷ []) []) no_more)
  one_by past n p (Faulty f) (Accepted k r) ok e = absurd (let h = e in cc)
  one_by past n p (Clean kind number) (Accepted k r) ok e =
      let is = taken (judged_of past) (Clean kind number) k r e in
      taken_row past (placed_at n p (Clean kind number)) number r k refl ok is (ap (λ (a : Bool). a && bytes_eq number w) is.accepted)

  one_more : (c : Bool) (row : Row) (rows : List Row) → cond c (row ∷ rows) rows ≡ cond c (row ∷ []) [] ++ rows
  one_more true row rows = refl
  one_more false row rows = refl

  -- the rows of the work, in any order
  pub rows_of_work : (past : List Placed) → AllByRecursion (λ t. HasBack t.judged) past → IsPermutation (work_rows s w past) (filter (is_of_work w) (version_rows s past))
  rows_of_work [] all = IsPermutation-refl []
  rows_of_work (t ∷ past) all =
      let its = cond (is_version w past t) (version_row s w (version_of w past t) ∷ []) [] in
      let before = filter (is_of_work w) (version_rows s past) in
      let told = version_told s t (verdict_of (judged_of past) t.judged) in
      let one : filter (is_of_work w) told ≡ its = one_by past t.transmission t.place t.judged (verdict_of (judged_of past) t.judged) all.0 refl in
      let all_told : filter (is_of_work w) (version_rows s past ++ told) ≡ before ++ its = filter-append (is_of_work w) (version_rows s past) told ∙ ap (λ (rows : List Row). before ++ rows) one in
      subst (λ (l : List Row). IsPermutation l (filter (is_of_work w) (version_rows s past ++ told))) (sym (one_more (is_version w past t) (version_row s w (version_of w past t)) (work_rows s w past)))
      (subst (λ (l : List Row). IsPermutation (its ++ work_rows s w past) l) (sym all_told)
      (IsPermutation-trans (its ++ work_rows s w past) (its ++ before) (before ++ its)
      (IsPermutation-append_right its (work_rows s w past) before (rows_of_work past all.1))
      (IsPermutation-append_comm its before)))

  numbers_fall : (p q : ℕ) → q < p → by_key (record { collation = Binary; descending = true }) (Int (pos p)) (Int (pos q)) ≡ Less
  numbers_fall p q h = numbers_rise q p h

  -- a version before another falls behind it
  falls : (v u : WorkVersion) → u.revision < v.revision → key_cmp 0 (falling 3) (version_row s w v) (version_row s w u) ≡ Less
  falls v u less =
      let down : Key = record { collation = Binary; descending = true } in
      ap (λ c. ordering_then c (ordering_then (by_key down (Text (without_trailing_blanks w)) (Text (without_trailing_blanks w))) (ordering_then (by_key down (Int (pos v.revision)) (Int (pos u.revision))) Equal))) (tie_down (Text s))
      ∙ ap (λ c. ordering_then c (ordering_then (by_key down (Int (pos v.revision)) (Int (pos u.revision))) Equal)) (tie_down (Text (without_trailing_blanks w)))
      ∙ ap (λ c. ordering_then c Equal) (numbers_fall v.revision u.revision less)
    where
      tie_down : (x : Value) → by_key (record { collation = Binary; descending = true }) x x ≡ Equal
      tie_down x = tied_itself (by_key_total (record { collation = Binary; descending = true })) x

  all_fall : (v : WorkVersion) (past : List Placed) → versions_of w (judged_of past) ≤ v.revision → AllByRecursion (λ row. key_cmp 0 (falling 3) (version_row s w v) row ≡ Less) (work_rows s w past)
  all_fall v [] most = tt
  all_fall v (t ∷ past) most = by_case (is_version w past t) most (all_fall v past)
    where
      by_case : (c : Bool) → cond c (versions_of w (judged_of past) + 1) (versions_of w (judged_of past)) ≤ v.revision →
          (versions_of w (judged_of past) ≤ v.revision → AllByRecursion (λ row. key_cmp 0 (falling 3) (version_row s w v) row ≡ Less) (work_rows s w past)) →
          AllByRecursion (λ row. key_cmp 0 (falling 3) (version_row s w v) row ≡ Less) (cond c (version_row s w (version_of w past t) ∷ work_rows s w past) (work_rows s w past))
      by_case true most before = (falls v (version_of w past t) (omega (arith, most)), before (omega (arith, most)))
      by_case false most before = before most

  -- the rows of the work fall by their revisions
  pub work_falls : (past : List Placed) → IsAscending (λ a b. key_cmp 0 (falling 3) a b ≡ Less) (work_rows s w past)
  work_falls [] = tt
  work_falls (t ∷ past) = by_case (is_version w past t) (work_falls past)
    where
      by_case : (c : Bool) → IsAscending (λ a b. key_cmp 0 (falling 3) a b ≡ Less) (work_rows s w past) → IsAscending (λ a b. key_cmp 0 (falling 3) a b ≡ Less) (cond c (version_row s w (version_of w past t) ∷ work_rows s w past) (work_rows s w past))
      by_case true e = (all_fall (version_of w past t) past (omega arith), e)
      by_case false e = e

-- ---- work numbers are read back

-- bytes without the blanks at their end are what is left once blanks are put behind them
left_again : (y : List ℕ) (k : ℕ) → without_trailing_blanks (without_trailing_blanks y ++ replicate k 32) ≡ without_trailing_blanks y
left_again y k =
    let xs = without_trailing_blanks y in
    let n = length xs in
    let blanks : List ℕ = replicate k 32 in
    let size = length-append xs blanks in
    let count = length-replicate {A = ℕ} k 32 in
    let behind : (j : ℕ) → n ≤ j → j < length (xs ++ blanks) → is_blank_byte (get_or (xs ++ blanks) j 0) ≡ true = λ j h w. ap is_blank_byte (get_or-append_right xs blanks n j 0 refl h ∙ get_or-replicate k (j - n) 32 0 (omega arith)) in
    let before : 0 < n → is_blank_byte (get_or (xs ++ blanks) (n - 1) 0) ≡ false = λ h. ap is_blank_byte (get_or_append_left xs blanks 0 (n - 1) (omega arith)) ∙ left_last y h in
    let cut = suffix_len_is is_blank_byte (xs ++ blanks) n 0 (omega arith) behind before in
    let kept : length (xs ++ blanks) - suffix_len is_blank_byte (xs ++ blanks) ≡ n = omega arith in
    ap (λ (m : ℕ). take m (xs ++ blanks)) kept ∙ take_at xs blanks n refl

-- a transaction's work number is read back
pub number_back : (x : Transaction) → IsBack (filled_number x)
number_back x =
    let number = submitter_number (first_work x.records) in
    ap (fill 14) (left_again number (14 - length (without_trailing_blanks number)))

judged_back : (kind : TransactionKind) (number : List ℕ) (fault : Option ℕ) → IsBack number → HasBack (judged_by kind number fault)
judged_back kind number (Some fault) back = tt
judged_back kind number None back = back

all_back : (o : Office) (n p : ℕ) (past : List Placed) (xs : List Transaction) → AllByRecursion (λ t. HasBack t.judged) past → AllByRecursion (λ t. HasBack t.judged) (placed_behind past n p (map (judged o) xs))
all_back o n p past [] all = all
all_back o n p past (x ∷ xs) all = all_back o n (p + 1) (placed_at n p (judged o x) ∷ past) xs (judged_back x.kind (filled_number x) (fault_of o x) (number_back x), all)

over_back : (o : Office) (b : Book) (s : List ℕ) (before more : List ℕ) → AllByRecursion (λ t. HasBack t.judged) (placed_over o b s before) → AllByRecursion (λ t. HasBack t.judged) (placed_over o b s (before ++ more))
unfolding judged_in
over_back o b s before [] all = subst (λ (ns : List ℕ). AllByRecursion (λ t. HasBack t.judged) (placed_over o b s ns)) (sym (append-nil before)) all
over_back o b s before (n ∷ more) all =
    subst (λ (ns : List ℕ). AllByRecursion (λ t. HasBack t.judged) (placed_over o b s ns)) (append_assoc before (n ∷ []) more)
    (over_back o b s (before ++ n ∷ []) more
    (subst (AllByRecursion (λ t. HasBack t.judged)) (sym (line_goes o b s before n)) (all_back o n 0 (placed_over o b s before) (transactions_of (sent o b s n)) all)))

-- so are those of a line
pub line_back : (o : Office) (b : Book) (s : List ℕ) (ns : List ℕ) → AllByRecursion (λ t. HasBack t.judged) (placed_over o b s ns)
line_back o b s ns = over_back o b s [] ns tt

-- ---- what is found of a work's last version

-- the first two columns are texts
abbrev pub HasTexts : Row → Type 0
HasTexts row = (column row 0 ≡ Text (text_at 0 row)) × (column row 1 ≡ Text (text_at 1 row))

told_texts : (s : List ℕ) (t : Placed) (v : Verdict) → AllByRecursion HasTexts (version_told s t v)
told_texts s t (Rejected f) = tt
told_texts s t (Accepted k r) = ((refl, refl), tt)

rows_texts : (s : List ℕ) (past : List Placed) → AllByRecursion HasTexts (version_rows s past)
rows_texts s [] = tt
rows_texts s (t ∷ past) = all-append HasTexts (version_rows s past) (version_told s t (verdict_of (judged_of past) t.judged)) (rows_texts s past) (told_texts s t (verdict_of (judged_of past) t.judged))

-- what SQL tests of a row with two texts in front
pub tested : (s w : List ℕ) (row : Row) → HasTexts row → has_key (Text s ∷ Text (without_trailing_blanks w) ∷ []) row ≡ (is_named s row && is_of_work w row)
tested s w row h =
    ap₂ (λ x y. x && y)
    (ap (λ v. equal Binary v (Text s)) h.0 ∙ text_equal (text_at 0 row) s)
    (last_truth (equal Binary (column row 1) (Text (without_trailing_blanks w))) ∙ ap (λ v. equal Binary v (Text (without_trailing_blanks w))) h.1 ∙ text_equal (text_at 1 row) (without_trailing_blanks w) ∙ either_way (text_at 1 row) (without_trailing_blanks w))

-- what a sender's transmissions tell of versions begins with two texts
pub texts_told : (o : Office) (b : Book) (q : List ℕ) → AreRight (ends_of b q) → AllByRecursion HasTexts (told_to_front tells_version o b q)
texts_told o b q right = subst (AllByRecursion HasTexts) (sym (told_line o b q right)) (rows_texts q (placed_over o b q (line b q)))

module _ (o : Office) (b : Book) (db : Trees) (holds : HoldsBook o b db) (s w : List ℕ) where
  -- what is found is the row of the last version of the work at the front
  pub last_found : IsBack w → (found : List Row) → IsFirstOf layout.versions (has_key (Text s ∷ Text (without_trailing_blanks w) ∷ [])) 3 db found →
      found ≡ row_of_some (version_row s w) (last_version w (line_at_front o b s))
  last_found back found is =
      let right = (sound_order b holds.sound s).right in
      let whole = placed_over o b s (line b s) in
      let told : told_to_front tells_version o b s ≡ version_rows s whole = told_line o b s right in
      let among = found_among HasTexts is_named (text_at 0) (λ r. (bytes_eq-Decides (text_at 0 r) (text_at 0 r)).1 refl) s (has_key (Text s ∷ Text (without_trailing_blanks w) ∷ [])) (is_of_work w) (tested s w)
      layout.versions (told_to_front tells_version o b) db is.all holds.derived.versions (λ q. texts_told o b q (sound_order b holds.sound q).right) is.rows in
      let ordered : is.all ≡ work_rows s w whole =
      sorted_unique (key_cmp 0 (falling 3)) (key_cmp_total (falling 3) 0) (work_rows s w whole) is.all (work_falls s w back whole)
      (IsPermutation-trans (work_rows s w whole) (filter (is_of_work w) (version_rows s whole)) is.all (rows_of_work s w back whole (line_back o b s (line b s)))
      (subst (λ (l : List Row). IsPermutation (filter (is_of_work w) l) is.all) told among))
      is.sorted in
      is.first ∙ ap (take 1) ordered ∙ first_row s w whole ∙ ap (λ (past : List Placed). row_of_some (version_row s w) (last_version w past)) (sym (at_front o b s right))

-- ---- the version at the front

-- the last version of the line up to a cut is the version at the cut
pub cut_line : (o : Office) (b : Book) (s w : List ℕ) (cut : ℕ) → last_version w (placed_line (line_to o b s cut)) ≡ version_in o b s w cut
unfolding work_at
cut_line o b s w cut =
    ap (λ (line : List JudgedTransmission). last_version w (placed_line line))
    (sym (over_up_to o b s cut (numbers_to b s cut) ∙ ap (line_over o b s) (filter-filter (λ m. nat_le m cut) (λ m. nat_le m cut) (λ m h. h) (line b s))))

-- so is that up to the front
pub front_version : (o : Office) (b : Book) (s w : List ℕ) → last_version w (placed_line (line_to o b s (front b s))) ≡ version_in o b s w (front b s)
front_version o b s w = cut_line o b s w (front b s)

shows : (s w : List ℕ) (v : Option WorkVersion) → ShowVersion v (row_of_some (version_row s w) v)
shows s w None = refl
shows s w (Some v) = (s, without_trailing_blanks w, refl)

-- what is found of a work's last version shows it
pub version_shows : (o : Office) (b : Book) (db : Trees) → HoldsBook o b db → (s w : List ℕ) → IsBack w → (found : List Row) → IsFirstOf layout.versions (has_key (Text s ∷ Text (without_trailing_blanks w) ∷ [])) 3 db found → ShowVersion (version_in o b s w (front b s)) found
version_shows o b db holds s w back found is =
    let line = line_at_front o b s in
    subst (λ v. ShowVersion v found) (front_version o b s w)
    (subst (ShowVersion (last_version w line)) (sym (last_found o b db holds s w back found is)) (shows s w (last_version w line)))

-- a work number that a text spells is the text, filled with blanks
pub filled_of : (w text : List ℕ) → work_number_of text ≡ Ok w → fill 14 (without_trailing_blanks text) ≡ w
filled_of w text spelt =
    let short = without_trailing_blanks text in
    (let_through (nat_le 1 (length short) && nat_le (length short) 14) (list_all is_printable short) (fill 14 short) w Character Length spelt).1

-- blanks at the end are left once
pub left_once : (y : List ℕ) → without_trailing_blanks (without_trailing_blanks y) ≡ without_trailing_blanks y
left_once y = ap without_trailing_blanks (sym (append-nil (without_trailing_blanks y))) ∙ left_again y 0

-- a work number that its text spells is read back
pub back_by : (w text : List ℕ) → text ≡ without_trailing_blanks w → work_number_of text ≡ Ok w → IsBack w
back_by w text is back =
    let same : without_trailing_blanks text ≡ without_trailing_blanks w = ap without_trailing_blanks is ∙ left_once w in
    ap (fill 14) (sym same) ∙ filled_of w text back
