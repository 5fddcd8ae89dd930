-- A version at a cut that names a recording is told in the table of recordings, so its work is noted.
use Rattle.std.proofs.Common.{◌≡◌, ◌∙◌, ◌⊎◌, inl, inr, ◌+◌, ◌++◌, ◌==◌, ℕ, suc, zero, pos, Bool, true, false, cond, List, [], ◌∷◌, Option, Some, None, Result, Ok, Err, refl, ap, ◌||◌, sym, subst, arith, filter, map, append-nil, append_assoc, bytes_eq, nat_le, slice_get}
use Rattle.std.proofs.lemmas.Bool.{false≢true, leb-false}
use Rattle.std.specs.Cmp.{unsigned_Decides}
use Rattle.std.proofs.lemmas.List.Sorted.{IsPermutation-sym}
use Rattle.std.proofs.lemmas.Cmp.{nat_list_cmp_total}
use Rattle.std.proofs.lemmas.Slice.Eq.{bytes_eq-Decides}
use Rattle.std.specs.List.{AllByRecursion, flat_map, list_any}
use Rattle.cwr_files.specs.Contents.{transactions_of}
use Rattle.cwr_files.specs.Transaction.{first_work, number_of_work, submitter_number}
use Rattle.cwr_files.specs.declared.transmission.Transaction.{Transaction}
use Rattle.share_rules.specs.declared.office.Office.{Office}
use Rattle.society_core.proofs.lemmas.Ascending.{ascending_has}
use Rattle.society_core.proofs.lemmas.CandidateLemmas.{both}
use Rattle.sender_segments.specs.Ascends.{Ascends}
use Rattle.sender_segments.specs.Ways.{AreRight}
use Rattle.society_core.proofs.lemmas.Books.{sound_order}
use Rattle.society_core.proofs.lemmas.Gaps.{version_in_line}
use Rattle.society_core.proofs.lemmas.LineNumbers.{in_line_of_to, line_rises_to, none_up_to}
use Rattle.society_core.proofs.lemmas.Lines.{line_to}
use Rattle.society_core.specs.Book.{Book, ends_of, front, is_in_line, is_one_of, line, numbers_to, verdicts_in, version_in}
use Rattle.society_core.specs.Candidates.{transactions_sent}
use Rattle.society_core.specs.Keys.{ascending, bytes_cmp}
use Rattle.society_core.specs.Owners.{cut_work, is_at, is_version_at, names_recording}
use Rattle.society_core.specs.declared.transmission_key.TransmissionKey.{TransmissionKey}
use Rattle.society_rows.specs.Layout as layout
use Rattle.society_rows.specs.Reads.{has_at}
use Rattle.society_rows.specs.Stored.{rows_in}
use Rattle.society_closings.specs.CutWorks.{Chooses, ChoosesNaming, IsNoted, NotesRecording, NotesRecordings, is_chosen, is_noted, notes_of_sender}
use Rattle.society_book.specs.DerivedRows.{is_named, tells_recordings, told_by, told_from, told_to_front, work_text}
use Rattle.society_book.specs.Sources.{HoldsWorks}
use Rattle.society_closings.specs.declared.chosen.Chosen.{Chosen}
use Rattle.society_closings.specs.declared.named_works.NamedWorks.{NamedWorks}
use Rattle.society_closings.proofs.lemmas.cuts.CutChoices.{some_is}
use Rattle.society_closings.proofs.lemmas.cuts.CutNotes.{any_bytes}
use Rattle.society_rows.proofs.lemmas.readings.KeyEquality.{text_equal}
use Rattle.society_book.proofs.lemmas.lines.LineRows.{filled_of, cut_line, left_once, line_goes, number_back, placed_over, sent, verdicts_go}
use Rattle.sqlite_trees.proofs.ListLemmas.{all-filter, all-permutation}
use Rattle.sqlite_trees.specs.Tree.{Trees}
use Rattle.sqlite_value.specs.Order.{Row}
use Rattle.sqlite_value.specs.declared.value.Value.TheVariants.{Int, Text}
use Rattle.work_ids.specs.Blanks.{fill, without_trailing_blanks}
use Rattle.work_ids.specs.declared.fault.IdFault.{IdFault}
use Rattle.works_core.proofs.lemmas.EndLemmas.{refused}
use Rattle.works_core.proofs.lemmas.TrackLemmas.{both_of}
use Rattle.works_core.specs.Line.{filled_number, judged, judged_in}
use Rattle.works_core.specs.Recordings.{isrcs_of}
use Rattle.works_core.specs.Verdicts.{concerns, is_accepted, verdict_of, verdicts_from}
use Rattle.works_core.specs.Versions.{Placed, is_version, judged_of, last_version, placed_at, placed_behind, placed_line, version_of}
use Rattle.works_core.specs.declared.judged.Judged.{Judged}
use Rattle.works_core.specs.declared.verdict.Verdict.{Verdict}
use Rattle.works_core.specs.declared.verdict.Verdict.TheVariants.{Accepted, Rejected}
use Rattle.works_core.specs.declared.version.WorkVersion.{WorkVersion}
use Rattle.sqlite_rules.proofs.ListLemmas.{all_has, some_has}
use Rattle.sqlite_keyed.proofs.ListLemmas.{all_unmap}

-- ---- a version stands at an accepted transaction

-- a transaction at a place of a transmission, accepted
pub record IsTold (transactions : List Transaction) (verdicts : List Verdict) (place : ℕ) : Type 0 where
  pub transaction : Transaction
  pub ordinal : ℕ
  pub revision : ℕ
  pub there : slice_get transactions place ≡ Some transaction
  pub verdict : slice_get verdicts place ≡ Some (Accepted ordinal revision)

none_is : {X : Type 0} (x : X) → ◌≡◌ {A = Option X} None (Some x) → ⊥
none_is x e = cc

-- an accepted transaction has an ordinal and a revision
accepted_as : (past : List Judged) (x : Judged) → is_accepted past x ≡ true → (ordinal : ℕ) × (revision : ℕ) × (verdict_of past x ≡ Accepted ordinal revision)
accepted_as past x is = by_case (verdict_of past x) refl
  where
    by_case : (v : Verdict) → verdict_of past x ≡ v → (ordinal : ℕ) × (revision : ℕ) × (verdict_of past x ≡ Accepted ordinal revision)
    by_case (Accepted ordinal revision) e = (ordinal, revision, e)
    by_case (Rejected fault) e = absurd (false≢true (sym (refused past x fault e) ∙ is))

-- where a version is of a transmission whose transactions from a place on have come
pub record IsTakenFrom (transmission from : ℕ) (transactions : List Transaction) (verdicts : List Verdict) (version : WorkVersion) : Type 0 where
  pub offset : ℕ
  pub number : version.transmission ≡ transmission
  pub place : version.place ≡ from + offset
  pub told : IsTold transactions verdicts offset

module _ (o : Office) (w : List ℕ) (v : WorkVersion) where
  -- the last version of a work stands before a transmission or in it
  taken_in : (n p : ℕ) (past : List Placed) (xs : List Transaction) → last_version w (placed_behind past n p (map (judged o) xs)) ≡ Some v →
      (last_version w past ≡ Some v) ⊎ IsTakenFrom n p xs (verdicts_from (judged_of past) (map (judged o) xs)) v
  taken_in n p past [] e = inl e
  taken_in n p past (x ∷ xs) e =
      let t = placed_at n p (judged o x) in
      by_rest (taken_in n (p + 1) (t ∷ past) xs e)
    where
      by_case : (c : Bool) → is_version w past (placed_at n p (judged o x)) ≡ c → cond c (Some (version_of w past (placed_at n p (judged o x)))) (last_version w past) ≡ Some v →
          (last_version w past ≡ Some v) ⊎ IsTakenFrom n p (x ∷ xs) (verdicts_from (judged_of past) (map (judged o) (x ∷ xs))) v
      by_case false is later = inl later
      by_case true is here =
          let same : version_of w past (placed_at n p (judged o x)) ≡ v = some_is (version_of w past (placed_at n p (judged o x))) v here in
          let so = accepted_as (judged_of past) (judged o x) (both_of (is_accepted (judged_of past) (judged o x)) (concerns w (judged o x)) is).0 in
          inr (record {
            offset = 0;
            number = ap (λ (u : WorkVersion). u.transmission) (sym same);
            place = ap (λ (u : WorkVersion). u.place) (sym same) ∙ (let e : p ≡ p + 0 = omega arith in e);
            told = record { transaction = x; ordinal = so.0; revision = so.1; there = refl; verdict = ap Some so.2 };
          })

      by_rest : (last_version w (placed_at n p (judged o x) ∷ past) ≡ Some v) ⊎ IsTakenFrom n (p + 1) xs (verdicts_from (judged o x ∷ judged_of past) (map (judged o) xs)) v →
          (last_version w past ≡ Some v) ⊎ IsTakenFrom n p (x ∷ xs) (verdicts_from (judged_of past) (map (judged o) (x ∷ xs))) v
      by_rest (inl before) = by_case (is_version w past (placed_at n p (judged o x))) refl before
      by_rest (inr taken) = inr (record {
        offset = suc taken.offset;
        number = taken.number;
        place = taken.place ∙ (let e : p + 1 + taken.offset ≡ p + suc taken.offset = omega arith in e);
        told = record { transaction = taken.told.transaction; ordinal = taken.told.ordinal; revision = taken.told.revision; there = taken.told.there; verdict = taken.told.verdict };
      })

  module _ (b : Book) (s : List ℕ) (right : AreRight (ends_of b s)) where
    abbrev Told : Type 0
    Told = IsTold (transactions_sent b s v.transmission) (verdicts_in o b s v.transmission) v.place

    -- the last version of a line up to a transmission is an accepted transaction where it stands
    told_next : (before more : List ℕ) (n : ℕ) → line b s ≡ before ++ n ∷ more → (last_version w (placed_over o b s before) ≡ Some v → Told) → last_version w (placed_over o b s (before ++ n ∷ [])) ≡ Some v → Told
    unfolding judged_in
    told_next before more n is earlier e = by_case (taken_in n 0 (placed_over o b s before) (transactions_of (sent o b s n)) (ap (last_version w) (sym (line_goes o b s before n)) ∙ e))
      where
        by_case : (last_version w (placed_over o b s before) ≡ Some v) ⊎ IsTakenFrom n 0 (transactions_of (sent o b s n)) (verdicts_from (judged_of (placed_over o b s before)) (map (judged o) (transactions_of (sent o b s n)))) v → Told
        by_case (inl so) = earlier so
        by_case (inr taken) =
            let place : taken.offset ≡ v.place = omega (arith, taken.place) in
            subst (λ (k : ℕ). IsTold (transactions_sent b s v.transmission) (verdicts_in o b s v.transmission) k) place
            (subst (λ (m : ℕ). IsTold (transactions_sent b s m) (verdicts_in o b s m) taken.offset) (sym taken.number)
            (subst (λ (vs : List Verdict). IsTold (transactions_sent b s n) vs taken.offset) (sym (verdicts_go o b s right before more n is)) taken.told))

    told_on : (before more rest : List ℕ) → line b s ≡ (before ++ more) ++ rest → (last_version w (placed_over o b s before) ≡ Some v → Told) → last_version w (placed_over o b s (before ++ more)) ≡ Some v → Told
    told_on before [] rest is earlier e = earlier (ap (λ (ns : List ℕ). last_version w (placed_over o b s ns)) (sym (append-nil before)) ∙ e)
    told_on before (n ∷ more) rest is earlier e =
        let again = append_assoc before (n ∷ []) more in
        told_on (before ++ n ∷ []) more rest (is ∙ ap (λ (ns : List ℕ). ns ++ rest) (sym again))
        (told_next before (more ++ rest) n (is ∙ append_assoc before (n ∷ more) rest) earlier)
        (ap (λ (ns : List ℕ). last_version w (placed_over o b s ns)) again ∙ e)

    -- the numbers up to a cut, and those behind it
    cut_apart : (low high cut : ℕ) (ns : List ℕ) → Ascends low ns high → (rest : List ℕ) × (ns ≡ filter (λ m. nat_le m cut) ns ++ rest)
    cut_apart low high cut [] rise = ([], refl)
    cut_apart low high cut (n ∷ ns) rise = by_case (nat_le n cut) refl (cut_apart n high cut ns rise.1)
      where
        by_case : (c : Bool) → nat_le n cut ≡ c → (rest : List ℕ) × (ns ≡ filter (λ m. nat_le m cut) ns ++ rest) → (rest : List ℕ) × (n ∷ ns ≡ cond c (n ∷ filter (λ m. nat_le m cut) ns) (filter (λ m. nat_le m cut) ns) ++ rest)
        by_case true le later = (later.0, ap (λ (l : List ℕ). n ∷ l) later.1)
        by_case false le later =
            let past = leb-false n cut le in
            (n ∷ ns, sym (ap (λ (l : List ℕ). l ++ n ∷ ns) (none_up_to n high cut ns rise.1 (omega (arith, past)))))

    last_told : (cut : ℕ) → last_version w (placed_line (line_to o b s cut)) ≡ Some v → Told
    last_told cut e =
        let apart = cut_apart 0 (front b s) cut (line b s) (line_rises_to b s right) in
        told_on [] (numbers_to b s cut) apart.0 apart.1 (λ none. absurd (none_is v none)) e

-- the version at a cut is an accepted transaction where it stands
pub version_told_at : (o : Office) (b : Book) (s w : List ℕ) (cut : ℕ) (v : WorkVersion) → AreRight (ends_of b s) → version_in o b s w cut ≡ Some v → IsTold (transactions_sent b s v.transmission) (verdicts_in o b s v.transmission) v.place
version_told_at o b s w cut v right e = last_told o w v b s right cut (cut_line o b s w cut ∙ e)

-- ---- what it tells of its recordings

-- what holds of a list of lists holds of each
all_first : {X : Type 0} (P : X → Type 0) (xs ys : List X) → AllByRecursion P (xs ++ ys) → AllByRecursion P xs
all_first P [] ys h = tt
all_first P (x ∷ xs) ys h = (h.0, all_first P xs ys h.1)

all_second : {X : Type 0} (P : X → Type 0) (xs ys : List X) → AllByRecursion P (xs ++ ys) → AllByRecursion P ys
all_second P [] ys h = h
all_second P (x ∷ xs) ys h = all_second P xs ys h.1

module _ (P : Row → Type 0) where
  all_in_list : (f : ℕ → List Row) (ns : List ℕ) (n : ℕ) → AllByRecursion P (flat_map f ns) → is_one_of ns n ≡ true → AllByRecursion P (f n)
  all_in_list f [] n all h = absurd (false≢true h)
  all_in_list f (k ∷ ns) n all h = by_case (k == n) refl h (all_in_list f ns n (all_second P (f k) (flat_map f ns) all))
    where
      by_case : (c : Bool) → (k == n) ≡ c → (c || is_one_of ns n) ≡ true → (is_one_of ns n ≡ true → AllByRecursion P (f n)) → AllByRecursion P (f n)
      by_case true e one later = subst (λ (m : ℕ). AllByRecursion P (f m)) ((unsigned_Decides k n).0 e) (all_first P (f k) (flat_map f ns) all)
      by_case false e one later = later one

  -- what holds of all that a transmission tells holds of what each transaction tells
  all_at_place : (s : List ℕ) (n p : ℕ) (xs : List Transaction) (vs : List Verdict) (k : ℕ) (t : Transaction) (ordinal revision : ℕ) → AllByRecursion P (told_from tells_recordings s n p xs vs) → slice_get xs k ≡ Some t → slice_get vs k ≡ Some (Accepted ordinal revision) →
      AllByRecursion P (map (λ isrc. Text s ∷ Text (work_text t) ∷ Int (pos revision) ∷ Text isrc ∷ []) (ascending bytes_cmp (isrcs_of t)))
  all_at_place s n p [] vs k t ordinal revision all there verdict = absurd (none_is t there)
  all_at_place s n p (x ∷ xs) [] k t ordinal revision all there verdict = absurd (none_is (Accepted ordinal revision) verdict)
  all_at_place s n p (x ∷ xs) (v ∷ vs) zero t ordinal revision all there verdict =
      let same : x ≡ t = some_is x t there in
      let is : v ≡ Accepted ordinal revision = some_is v (Accepted ordinal revision) verdict in
      subst (λ (y : Transaction). AllByRecursion P (tells_recordings s n p y (Accepted ordinal revision))) same
      (subst (λ (u : Verdict). AllByRecursion P (tells_recordings s n p x u)) is (all_first P (tells_recordings s n p x v) (told_from tells_recordings s n (p + 1) xs vs) all))
  all_at_place s n p (x ∷ xs) (v ∷ vs) (suc k) t ordinal revision all there verdict =
      all_at_place s n (p + 1) xs vs k t ordinal revision (all_second P (tells_recordings s n p x v) (told_from tells_recordings s n (p + 1) xs vs) all) there verdict

  all_named : (f : List ℕ → Row) (isrc : List ℕ) (listed : List (List ℕ)) → AllByRecursion P (map f listed) → list_any (bytes_eq isrc) listed ≡ true → P (f isrc)
  all_named f isrc listed all e =
      let found = some_has (bytes_eq isrc) listed e in
      subst (λ (x : List ℕ). P (f x)) (sym ((bytes_eq-Decides isrc found.0).0 found.2)) (all_has (λ x. P (f x)) listed found.0 (all_unmap P f listed all) found.1)

-- an ISRC that is named is among those in order
still_named : (isrc : List ℕ) (named : List (List ℕ)) → list_any (bytes_eq isrc) named ≡ true → list_any (bytes_eq isrc) (ascending bytes_cmp named) ≡ true
still_named isrc named e = any_bytes isrc (ascending bytes_cmp named) ∙ ascending_has nat_list_cmp_total isrc named ∙ sym (any_bytes isrc named) ∙ e

module _ (o : Office) (b : Book) (db : Trees) (holds : HoldsWorks o b db) (s : List ℕ) where
  -- what holds of all rows of recordings holds of what the transmissions up to the front tell
  all_told_front : (P : Row → Type 0) → AllByRecursion P (rows_in layout.recordings db) → AllByRecursion P (told_to_front tells_recordings o b s)
  all_told_front P all =
      let rows = filter (is_named s) (rows_in layout.recordings db) in
      let told = told_to_front tells_recordings o b s in
      all-permutation P rows told (IsPermutation-sym told rows (holds.derived.recordings s)) (all-filter P (is_named s) (rows_in layout.recordings db) all)

  -- a work whose version at the cut names a recording is noted with the recording
  pub noted_at_cut : (named : NamedWorks) (isrc : List ℕ) → NotesRecording db isrc named → notes_of_sender named s ≡ true → (cut : ℕ) → is_in_line b s cut ≡ true → (number place : ℕ) (t : Transaction) (w : List ℕ) → slice_get (transactions_sent b s number) place ≡ Some t → number_of_work t ≡ Ok w → is_at number place (version_in o b s w cut) ≡ true → names_recording isrc (cut_work s t) ≡ true →
      is_noted named s w ≡ true
  noted_at_cut named isrc notes asked cut within number place t w there spelt e named_by = by_version (version_in o b s w cut) refl e
    where
      by_version : (v : Option WorkVersion) → version_in o b s w cut ≡ v → is_at number place v ≡ true → is_noted named s w ≡ true
      by_version None is h = absurd (false≢true h)
      by_version (Some v) is h =
          let parts = both (v.transmission == number) (v.place == place) h in
          let numbered : v.transmission ≡ number = (unsigned_Decides v.transmission number).0 parts.0 in
          let placed : v.place ≡ place = (unsigned_Decides v.place place).0 parts.1 in
          let told = version_told_at o b s w cut v (sound_order b holds.sound s).right is in
          let P : Row → Type 0 = λ row. has_at 3 (Text isrc) row ≡ true → IsNoted named row in
          let all = all_in_list P (told_by tells_recordings o b s) (line b s) v.transmission (all_told_front P notes) (in_line_of_to b s cut v.transmission (version_in_line o b s w cut v is)) in
          let same : told.transaction ≡ t = some_is told.transaction t (sym told.there ∙ ap (λ (n : ℕ). slice_get (transactions_sent b s n) v.place) numbered ∙ ap (slice_get (transactions_sent b s number)) placed ∙ there) in
          let its = all_at_place P s v.transmission 0 (transactions_sent b s v.transmission) (verdicts_in o b s v.transmission) v.place told.transaction told.ordinal told.revision all told.there told.verdict in
          let of_t : AllByRecursion P (map (λ i. Text s ∷ Text (work_text t) ∷ Int (pos told.revision) ∷ Text i ∷ []) (ascending bytes_cmp (isrcs_of t))) = subst (λ (x : Transaction). AllByRecursion P (map (λ i. Text s ∷ Text (work_text x) ∷ Int (pos told.revision) ∷ Text i ∷ []) (ascending bytes_cmp (isrcs_of x)))) same its in
          let one = all_named P (λ i. Text s ∷ Text (work_text t) ∷ Int (pos told.revision) ∷ Text i ∷ []) isrc (ascending bytes_cmp (isrcs_of t)) of_t (still_named isrc (isrcs_of t) named_by) in
          let noted = one (text_equal isrc isrc ∙ (bytes_eq-Decides isrc isrc).1 refl) asked in
          let filled : filled_number t ≡ w = filled_of w (submitter_number (first_work t.records)) spelt in
          let number_is : fill 14 (without_trailing_blanks (work_text t)) ≡ w = ap (fill 14) (left_once (filled_number t)) ∙ number_back t ∙ filled in
          ap (is_noted named s) (sym number_is) ∙ noted

  -- so what is chosen of the works that are noted is what is a version at the cut, where it names one of these recordings
  pub chosen_right : (of_these : List ℕ → Bool) (named : NamedWorks) (known : List ℕ → Bool) (chosen : Chosen) (cut : ℕ) → NotesRecordings db of_these named → notes_of_sender named s ≡ true → is_in_line b s cut ≡ true → ((w : List ℕ) → known w ≡ is_noted named s w) →
      Chooses o b (record { sender = s; number = cut }) known chosen → ChoosesNaming o b (record { sender = s; number = cut }) of_these chosen
  chosen_right of_these named known chosen cut notes asked within same chooses = record { right = λ number place t isrc up there is names. by_number number place t isrc there is names (number_of_work t) refl; transmissions = chooses.transmissions; within = chooses.within }
    where
      key : TransmissionKey
      key = record { sender = s; number = cut }

      by_known : (number place : ℕ) (t : Transaction) (isrc w : List ℕ) → slice_get (transactions_sent b s number) place ≡ Some t → of_these isrc ≡ true → names_recording isrc (cut_work s t) ≡ true → number_of_work t ≡ Ok w → (k : Bool) → known w ≡ k → (v : Bool) → is_at number place (version_in o b s w cut) ≡ v → is_at number place (cond k (version_in o b s w cut) None) ≡ v
      by_known number place t isrc w there is names spelt true k v e = e
      by_known number place t isrc w there is names spelt false k false e = refl
      by_known number place t isrc w there is names spelt false k true e =
          absurd (false≢true (sym k ∙ same w ∙ noted_at_cut named isrc (notes isrc is) asked cut within number place t w there spelt e names))

      by_number : (number place : ℕ) (t : Transaction) (isrc : List ℕ) → slice_get (transactions_sent b s number) place ≡ Some t → of_these isrc ≡ true → names_recording isrc (cut_work s t) ≡ true → (r : Result (List ℕ) IdFault) → number_of_work t ≡ r → is_chosen chosen number place r ≡ is_version_at o b key number place r
      by_number number place t isrc there is names (Err fault) spelt = refl
      by_number number place t isrc there is names (Ok w) spelt =
          ap (is_at number place) (chooses.versions w)
          ∙ by_known number place t isrc w there is names spelt (known w) refl (is_at number place (version_in o b s w cut)) refl
