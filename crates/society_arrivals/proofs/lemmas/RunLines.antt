-- What the transactions of a run tell, by the line behind which they stand.
use Rattle.std.proofs.Common.{◌≡◌, ◌∙◌, ◌+◌, ◌++◌, ℕ, Bool, true, List, [], ◌∷◌, Option, Some, None, IsTrue, refl, ap, ap₂, sym, subst, map, append-nil, append_assoc, bytes_eq, flat_map, unwrap_or}
use Rattle.std.specs.List.{list_any}
use Rattle.std.specs.Ordering.{eq_by_cmp}
use Rattle.std.proofs.lemmas.Cmp.{nat_list_cmp_total}
use Rattle.std.proofs.lemmas.Grind.{flat_map-append}
use Rattle.std.proofs.lemmas.Map.Text.{is_eq-slice_cmp}
use Rattle.std.proofs.lemmas.Slice.Eq.{bytes_eq-Decides}
use Rattle.cwr_files.specs.Contents.{transactions_of}
use Rattle.cwr_files.specs.declared.transmission.Transaction.{Transaction}
use Rattle.share_rules.specs.Fault.{fault_of}
use Rattle.share_rules.specs.declared.office.Office.{Office}
use Rattle.sqlite_value.specs.Order.{Row}
use Rattle.society_core.proofs.lemmas.Ascending.{ascending_has}
use Rattle.sender_segments.specs.Ways.{AreRight}
use Rattle.society_core.specs.Book.{Book, body_at, ends_of, line}
use Rattle.society_core.specs.Keys.{ascending, bytes_cmp}
use Rattle.society_book.specs.DerivedRows.{Telling, tells_recordings, tells_verdict, tells_version, told_by, told_from}
use Rattle.society_arrivals.specs.Runs.{AreNoted, KnowsRun, Notes, Settled, behind_run, clean_works, is_key_among, notes_in, numbers_of_run, settled_from, settled_recordings, settled_run, settled_verdict, settled_version, clean_work_number}
use Rattle.society_book.proofs.lemmas.rows_alike.KeyRows.{either_way}
use Rattle.society_book.proofs.lemmas.lines.LineRows.{line_goes, placed_over, sent, verdicts_go}
use Rattle.works_core.specs.Ends.{EndsAt, KnowsWorks}
use Rattle.works_core.specs.Line.{filled_number, judged, judged_by, judged_in}
use Rattle.works_core.specs.Recordings.{isrcs_of}
use Rattle.works_core.specs.Verdicts.{verdict_of, verdicts_from}
use Rattle.works_core.specs.Versions.{Placed, judged_of, placed_behind}
use Rattle.works_core.specs.declared.judged.Judged.{Judged}
use Rattle.works_core.specs.declared.judged.Judged.TheVariants.{Clean, Faulty}
use Rattle.works_core.specs.declared.verdict.Verdict.{Verdict}
use Rattle.works_core.specs.declared.verdict.Verdict.TheVariants.{Accepted, Rejected}
use Rattle.std.proofs.lemmas.Bool.{or_left, or_right}
use Rattle.std.proofs.lemmas.List.Folds.{list_any-append}
use Rattle.society_book.proofs.lemmas.rows_alike.RowLemmas.{any_same}

-- the ISRCs of a transaction, ascending
abbrev pub its_isrcs : Transaction → List (List ℕ)
its_isrcs x = ascending bytes_cmp (isrcs_of x)

-- a transaction, settled
abbrev pub settled_as : Office → ℕ → ℕ → Transaction → Verdict → Settled
settled_as o n p x v = record { number = n; place = p; work = clean_work_number (judged o x); isrcs = its_isrcs x; verdict = v }

-- a way of telling that is seen of settled transactions
abbrev pub IsSeen : Office → Telling → (List ℕ → Settled → List Row) → Type 0
IsSeen o tells tell = (s : List ℕ) (n p : ℕ) (past : List Judged) (x : Transaction) → tells s n p x (verdict_of past (judged o x)) ≡ tell s (settled_as o n p x (verdict_of past (judged o x)))

pub sees_verdict : (o : Office) → IsSeen o tells_verdict (λ s x. settled_verdict s x ∷ [])
sees_verdict o s n p past x = refl

version_by_verdict : (s : List ℕ) (n p : ℕ) (x : Transaction) (isrcs : List (List ℕ)) (v : Verdict) → tells_version s n p x v ≡ settled_version s (record { number = n; place = p; work = clean_work_number (Clean x.kind (filled_number x)); isrcs = isrcs; verdict = v })
version_by_verdict s n p x isrcs (Accepted ordinal revision) = refl
version_by_verdict s n p x isrcs (Rejected fault) = refl

version_by_fault : (s : List ℕ) (n p : ℕ) (past : List Judged) (x : Transaction) (f : Option ℕ) →
    tells_version s n p x (verdict_of past (judged_by x.kind (filled_number x) f))
    ≡ settled_version s (record { number = n; place = p; work = clean_work_number (judged_by x.kind (filled_number x) f); isrcs = its_isrcs x; verdict = verdict_of past (judged_by x.kind (filled_number x) f) })
version_by_fault s n p past x (Some f) = refl
version_by_fault s n p past x None = version_by_verdict s n p x (its_isrcs x) (verdict_of past (Clean x.kind (filled_number x)))

pub sees_version : (o : Office) → IsSeen o tells_version settled_version
sees_version o s n p past x = version_by_fault s n p past x (fault_of o x)

recordings_by_verdict : (s : List ℕ) (n p : ℕ) (x : Transaction) (v : Verdict) → tells_recordings s n p x v ≡ settled_recordings s (record { number = n; place = p; work = clean_work_number (Clean x.kind (filled_number x)); isrcs = its_isrcs x; verdict = v })
recordings_by_verdict s n p x (Accepted ordinal revision) = refl
recordings_by_verdict s n p x (Rejected fault) = refl

recordings_by_fault : (s : List ℕ) (n p : ℕ) (past : List Judged) (x : Transaction) (f : Option ℕ) →
    tells_recordings s n p x (verdict_of past (judged_by x.kind (filled_number x) f))
    ≡ settled_recordings s (record { number = n; place = p; work = clean_work_number (judged_by x.kind (filled_number x) f); isrcs = its_isrcs x; verdict = verdict_of past (judged_by x.kind (filled_number x) f) })
recordings_by_fault s n p past x (Some f) = refl
recordings_by_fault s n p past x None = recordings_by_verdict s n p x (verdict_of past (Clean x.kind (filled_number x)))

pub sees_recordings : (o : Office) → IsSeen o tells_recordings settled_recordings
sees_recordings o s n p past x = recordings_by_fault s n p past x (fault_of o x)

-- a sender's transmission is noted under its number
abbrev IsNoted : Office → Book → List ℕ → Notes → Type 0
IsNoted o b s x = x ≡ notes_in o x.number (unwrap_or (body_at b s x.number) [])

module _ (o : Office) (b : Book) (s : List ℕ) where
  -- behind a transmission that is noted stands the line with it
  one_behind : (before : List ℕ) (x : Notes) → IsNoted o b s x → placed_behind (placed_over o b s before) x.number 0 x.judged ≡ placed_over o b s (before ++ x.number ∷ [])
  one_behind before x noted = ap (λ (y : Notes). placed_behind (placed_over o b s before) x.number 0 y.judged) noted ∙ sym (line_goes o b s before x.number)

  -- behind a run stands the line with it
  pub run_behind : (before : List ℕ) (notes : List Notes) → AreNoted o b s notes → behind_run (placed_over o b s before) notes ≡ placed_over o b s (before ++ numbers_of_run notes)
  run_behind before [] are = ap (placed_over o b s) (sym (append-nil before))
  run_behind before (x ∷ xs) are =
      ap (λ (p : List Placed). behind_run p xs) (one_behind before x are.0)
      ∙ run_behind (before ++ x.number ∷ []) xs are.1
      ∙ ap (placed_over o b s) (append_assoc before (x.number ∷ []) (numbers_of_run xs))

module _ (o : Office) (tells : Telling) (tell : List ℕ → Settled → List Row) (seen : IsSeen o tells tell) (s : List ℕ) where
  -- what a transmission tells is told of its settled transactions
  from_settled : (n p : ℕ) (past : List Judged) (xs : List Transaction) →
      told_from tells s n p xs (verdicts_from past (map (judged o) xs)) ≡ flat_map (tell s) (settled_from n p (map (judged o) xs) (map its_isrcs xs) (verdicts_from past (map (judged o) xs)))
  from_settled n p past [] = refl
  from_settled n p past (x ∷ xs) = ap₂ ◌++◌ (seen s n p past x) (from_settled n (p + 1) (judged o x ∷ past) xs)

  module _ (b : Book) (right : AreRight (ends_of b s)) where
    -- so with one that is noted
    one_settled : (before more : List ℕ) (x : Notes) → line b s ≡ before ++ x.number ∷ more → IsNoted o b s x →
        told_by tells o b s x.number ≡ flat_map (tell s) (settled_from x.number 0 x.judged x.isrcs (verdicts_from (judged_of (placed_over o b s before)) x.judged))
    unfolding judged_in
    one_settled before more x is noted =
        let past = judged_of (placed_over o b s before) in
        let xs = transactions_of (sent o b s x.number) in
        ap (told_from tells s x.number 0 xs) (verdicts_go o b s right before more x.number is)
        ∙ from_settled x.number 0 past xs
        ∙ sym (ap (λ (y : Notes). flat_map (tell s) (settled_from x.number 0 y.judged y.isrcs (verdicts_from past y.judged))) noted)

    -- what a run tells is told of its settled transactions
    pub run_settled : (before : List ℕ) (notes : List Notes) → line b s ≡ before ++ numbers_of_run notes → AreNoted o b s notes → flat_map (told_by tells o b s) (numbers_of_run notes) ≡ flat_map (tell s) (settled_run (placed_over o b s before) notes)
    run_settled before [] is are = refl
    run_settled before (x ∷ xs) is are =
        let past = placed_over o b s before in
        let behind = placed_behind past x.number 0 x.judged in
        let later : flat_map (told_by tells o b s) (numbers_of_run xs) ≡ flat_map (tell s) (settled_run behind xs) =
        run_settled (before ++ x.number ∷ []) xs (is ∙ sym (append_assoc before (x.number ∷ []) (numbers_of_run xs))) are.1
        ∙ ap (λ (p : List Placed). flat_map (tell s) (settled_run p xs)) (sym (one_behind o b s before x are.0)) in
        ap₂ ◌++◌ (one_settled before (numbers_of_run xs) x is are.0) later
        ∙ sym (flat_map-append (tell s) (settled_from x.number 0 x.judged x.isrcs (verdicts_from (judged_of past) x.judged)) (settled_run behind xs))

-- ---- the works of a run are known

first_among : (w : List ℕ) (works : List (List ℕ)) → is_key_among (w ∷ works) w ≡ true
first_among w works = or_left (bytes_eq w w) (is_key_among works w) ((bytes_eq-Decides w w).1 refl)

among_left : (xs ys : List (List ℕ)) (w : List ℕ) → is_key_among xs w ≡ true → is_key_among (xs ++ ys) w ≡ true
among_left xs ys w h = list_any-append (λ x. bytes_eq x w) xs ys ∙ or_left (is_key_among xs w) (is_key_among ys w) h

among_right : (xs ys : List (List ℕ)) (w : List ℕ) → is_key_among ys w ≡ true → is_key_among (xs ++ ys) w ≡ true
among_right xs ys w h = list_any-append (λ x. bytes_eq x w) xs ys ∙ or_right (is_key_among xs w) (is_key_among ys w) h

-- what is known among fewer works is known among more
knows_more : (p q : List ℕ → Bool) → ((w : List ℕ) → IsTrue (p w) → IsTrue (q w)) → (js : List Judged) → KnowsWorks p js → KnowsWorks q js
knows_more p q more [] all = tt
knows_more p q more (Clean kind number ∷ js) all = (more number all.0, knows_more p q more js all.1)
knows_more p q more (Faulty fault ∷ js) all = (all.0, knows_more p q more js all.1)

run_more : (p q : List ℕ → Bool) → ((w : List ℕ) → IsTrue (p w) → IsTrue (q w)) → (notes : List Notes) → KnowsRun p notes → KnowsRun q notes
run_more p q more [] all = tt
run_more p q more (x ∷ xs) all = (knows_more p q more x.judged all.0, run_more p q more xs all.1)

knows_clean : (js : List Judged) → KnowsWorks (is_key_among (clean_works js)) js
knows_clean [] = tt
knows_clean (Clean kind number ∷ js) =
    (first_among number (clean_works js), knows_more (is_key_among (clean_works js)) (is_key_among (number ∷ clean_works js)) (λ w h. or_right (bytes_eq number w) (is_key_among (clean_works js) w) h) js (knows_clean js))
knows_clean (Faulty fault ∷ js) = (tt, knows_clean js)

-- the works of the clean transactions of a run are all that have to be known
pub knows_all : (notes : List Notes) → KnowsRun (is_key_among (flat_map (λ (x : Notes). clean_works x.judged) notes)) notes
knows_all [] = tt
knows_all (x ∷ xs) =
    let here = clean_works x.judged in
    let later = flat_map (λ (y : Notes). clean_works y.judged) xs in (
      knows_more (is_key_among here) (is_key_among (here ++ later)) (λ w h. among_left here later w h) x.judged (knows_clean x.judged),
      run_more (is_key_among later) (is_key_among (here ++ later)) (λ w h. among_right here later w h) xs (knows_all xs),
    )

-- an end of which less is known
pub ends_less : {past : List Placed} (p q : List ℕ → Bool) (end : _) → ((w : List ℕ) → IsTrue (q w) → IsTrue (p w)) → EndsAt p past end → EndsAt q past end
ends_less p q end less at = record { works = at.works; last = λ w h. at.last w (less w h); right = at.right }

-- whether a work is among some, by their order
turned : (works : List (List ℕ)) (w : List ℕ) → is_key_among works w ≡ list_any (eq_by_cmp bytes_cmp w) works
turned works w = any_same (λ x. bytes_eq x w) (eq_by_cmp bytes_cmp w) (λ x. either_way x w ∙ sym (is_eq-slice_cmp w x)) works

-- each of them once is enough
pub among_ascending : (works : List (List ℕ)) (w : List ℕ) → is_key_among (ascending bytes_cmp works) w ≡ is_key_among works w
among_ascending works w = turned (ascending bytes_cmp works) w ∙ ascending_has nat_list_cmp_total w works ∙ sym (turned works w)

-- so the works of a run may be asked once
pub knows_each : (notes : List Notes) → KnowsRun (is_key_among (ascending bytes_cmp (flat_map (λ (x : Notes). clean_works x.judged) notes))) notes
knows_each notes =
    let works = flat_map (λ (x : Notes). clean_works x.judged) notes in
    run_more (is_key_among works) (is_key_among (ascending bytes_cmp works)) (λ w h. subst IsTrue (sym (among_ascending works w)) h) notes (knows_all notes)
