-- Why a run of transmissions is not gone over: the rows are those of no sound book.
use Rattle.std.proofs.Common.{◌≡◌, ◌⊎◌, ◌+◌, ◌++◌, ◌<◌, ◌≤◌, ◌&&◌, ◌^◌, ℕ, zero, suc, pos, true, is_none, nat_le, List, [], ◌∷◌, Option, Some, None, Result, Ok, Err, IfErr, length, arith, ap, refl, sym, subst, inl, inr}
use Rattle.std.specs.List.{AllByRecursion}
use Rattle.std.proofs.lemmas.Bool.{leb-true}
use Rattle.cwr_files.specs.FileFault.{file_fault}
use Rattle.sqlite.specs.State.{HasCleanDisk, State}
use Rattle.sqlite_trees.specs.Tree.{Trees}
use Rattle.sqlite_value.specs.Order.{Row}
use Rattle.sqlite_value.specs.declared.value.Value.TheVariants.{Int, Text}
use Rattle.sender_segments.proofs.lemmas.Ranks.{base_within, number_is}
use Rattle.society_core.specs.Book.{Book, IsSound, body_at}
use Rattle.society_core.specs.Keys.{transmission_key}
use Rattle.society_core.specs.declared.transmission_key.TransmissionKey.{TransmissionKey}
use Rattle.society_core.proofs.lemmas.Fronts.{first_holds, second_holds}
use Rattle.society_rows.specs.Effects.{Errs, ErrsByMedium, FaultSays}
use Rattle.society_rows.specs.Faults.{IsFailure}
use Rattle.society_rows.specs.Folds.{AreDoubled, AreFirstOfRun, AreFrom, HasNoGap, IsNoRun, RefusesRow, StopsRun}
use Rattle.society_rows.specs.Layout as layout
use Rattle.society_rows.specs.Reads.{Lists, has_key}
use Rattle.society_rows.specs.Stored.{HasLayout, rows_in}
use Rattle.society_rows.specs.declared.fault.RowFault.{RowFault}
use Rattle.society_rows.specs.declared.fault.RowFault.TheVariants as row
use Rattle.society_book.specs.BookRows.{is_transmission_row, row_of_some, transmission_key_of, transmission_row, transmission_rows}
use Rattle.society_book.specs.Columns.{HasRows, text_at, whole_number_at}
use Rattle.society_book.specs.Errors.{Blames}
use Rattle.society_arrivals.specs.Going.{IsRightSent}
use Rattle.society_book.specs.RightRows.{KeepsUnsound}
use Rattle.society_arrivals.specs.Runs.{RunValue, take_row}
use Rattle.society_book.proofs.lemmas.rows_alike.KeyRows.{both_same, transmission_listed}
use Rattle.society_book.proofs.lemmas.rows_alike.RowLemmas.{all_rows}
use Rattle.society_book.proofs.lemmas.together.ErrLemmas.{errs_of}
use Rattle.work_ids.specs.Segments.{is_transmission_number, most_in, segment_of, sequence_of}
use Rattle.work_ids.specs.SenderKey.{is_sender_key}
use Rattle.society_book.proofs.lemmas.lines.RightRows.{all_listed}

most : (g : ℕ) → most_in g ≤ 999999
most zero = omega arith
most (suc year) = omega arith

-- a number of a transmission is below 3,000,000
number_below : (n : ℕ) → is_transmission_number n ≡ true → n < 3000000
number_below n is =
    let made = number_is n in
    let base = base_within (segment_of n) (leb-true (segment_of n) 100 (second_holds (nat_le 1 (sequence_of n)) (nat_le (segment_of n) 100) is)) in
    let few = most (segment_of n) in
    omega (made.is, made.within, base, few, arith)

-- each row of a sound book's transmissions is such
pub all_right_sent : (b : Book) (rows : List Row) → IsSound b → HasRows is_transmission_row (transmission_rows b) rows → AllByRecursion IsRightSent rows
all_right_sent b rows sound has = all_rows is_transmission_row transmission_key_of (λ r. both_same (text_at 0 r) (whole_number_at 1 r)) IsRightSent (transmission_rows b) rows has (λ q. told q (body_at b q.sender q.number) refl)
  where
    told : (q : TransmissionKey) (o : Option (List ℕ)) → body_at b q.sender q.number ≡ o → AllByRecursion IsRightSent (row_of_some (transmission_row q) o)
    told q None is = tt
    told q (Some body) is = (record { form = refl; entry = sound.transmissions q.sender q.number body is }, tt)

module _ (b : Book) (s : List ℕ) (db : Trees) (sound : IsSound b) (has : HasRows is_transmission_row (transmission_rows b) (rows_in layout.transmissions db)) where
  abbrev At : ℕ → List Row → Type 0
  At n found = Lists layout.transmissions (has_key (Text s ∷ Int (pos n) ∷ [])) 2 db found

  one_at_most : (n : ℕ) (found : List Row) → At n found → length found ≤ 1
  one_at_most n found lists = by_body (body_at b s n) (transmission_listed b db has (transmission_key s n) found lists)
    where
      by_body : (kept : Option (List ℕ)) → found ≡ row_of_some (transmission_row (transmission_key s n)) kept → length found ≤ 1
      by_body None e = (let l = ap length e in omega (arith, l))
      by_body (Some body) e = (let l = ap length e in omega (arith, l))

  number_at : (n : ℕ) (r : Row) → At n (r ∷ []) → n < 3000000
  number_at n r lists = by_body (body_at b s n) refl (transmission_listed b db has (transmission_key s n) (r ∷ []) lists)
    where
      by_body : (kept : Option (List ℕ)) → body_at b s n ≡ kept → r ∷ [] ≡ row_of_some (transmission_row (transmission_key s n)) kept → n < 3000000
      by_body None is e = absurd (let h = e in cc)
      by_body (Some body) is e = number_below n (second_holds (is_sender_key s) (is_transmission_number n) (first_holds (is_sender_key s && is_transmission_number n) (is_none (file_fault s body)) (sound.transmissions s n body is)))

  few_from : (rows : List Row) (n : ℕ) → AreFrom s n db rows → n < 2 ^ 32 → length rows + n < 2 ^ 32
  few_from [] n are low = omega (arith, low)
  few_from (r ∷ rows) n are low =
      let here = number_at n r are.0 in
      let rest = few_from rows (suc n) are.1 (omega (arith, here)) in
      omega (arith, rest)

  last_of : (before : List Row) (r : Row) (n : ℕ) → AreFrom s n db (before ++ r ∷ []) → IsRightSent r
  last_of [] r n are = (all_listed IsRightSent layout.transmissions (has_key (Text s ∷ Int (pos n) ∷ [])) 2 db (r ∷ []) (all_right_sent b (rows_in layout.transmissions db) sound has) are.0).0
  last_of (x ∷ before) r n are = last_of before r (suc n) are.1

  no_doubled : (n : ℕ) → AreDoubled s n db → ⊥
  no_doubled n doubled =
      let few = one_at_most (length doubled.before + n) doubled.rows doubled.there in
      let several = doubled.several in
      omega (arith, few, several)

  no_full : (n : ℕ) → n < 2 ^ 32 → HasNoGap s n db → ⊥
  no_full n low full =
      let few = few_from full.rows n full.each low in
      let all = full.full in
      omega (arith, few, all)

-- why a run was not gone over up to its gap
pub run_errs : (s : List ℕ) (n : ℕ) (begun : RunValue) (old new : State) (r : Result (Unit {0}) RowFault) → n < 2 ^ 32
    → IfErr r (StopsRun take_row (λ _ found fault. Blames (IsRightSent found → ⊥) fault) old new s n begun)
    → ErrsByMedium old new r ⊎ IfErr r (λ fault. RefusesRow take_row (λ _ found fault. Blames (IsRightSent found → ⊥) fault) (AreFirstOfRun old new s n) begun fault ⊎ ((fault ≡ row.Damaged) × IsNoRun old new s n))
    → Errs KeepsUnsound old new r
run_errs s n begun old new (Ok x) low told medium clean inside has = tt
run_errs s n begun old new (Err fault) low told medium clean inside has = by_why told.why medium
  where
    Refuses : Type 0
    Refuses = RefusesRow take_row (λ _ found fault. Blames (IsRightSent found → ⊥) fault) (AreFirstOfRun old new s n) begun fault

    refused : Refuses → FaultSays KeepsUnsound old new fault
    refused refuses = by_fault fault refuses.refused
      where
        unsound : (IsRightSent refuses.row → ⊥) → KeepsUnsound old.now.trees
        unsound wrong b sound keeps = wrong (last_of b s old.now.trees sound keeps.transmissions refuses.before refuses.row n (refuses.first clean has))

        by_fault : (f : RowFault) → Blames (IsRightSent refuses.row → ⊥) f → FaultSays KeepsUnsound old new f
        by_fault row.Memory h = tt
        by_fault row.Schema h = unsound h
        by_fault row.Damaged h = unsound h
        by_fault row.Overflow h = tt
        by_fault (row.Refused error) h = absurd h

    stopped : (fault ≡ row.Damaged) × IsNoRun old new s n → FaultSays KeepsUnsound old new fault
    stopped both = subst (FaultSays KeepsUnsound old new) (sym both.0) (λ b sound keeps. elim (both.1 clean has) [
      | inl doubled ↦ no_doubled b s old.now.trees sound keeps.transmissions n doubled
      | inr full ↦ no_full b s old.now.trees sound keeps.transmissions n low full
    ])

    others : Refuses ⊎ ((fault ≡ row.Damaged) × IsNoRun old new s n) → FaultSays KeepsUnsound old new fault
    others (inl refuses) = refused refuses
    others (inr both) = stopped both

    by_why : (HasCleanDisk new → HasLayout old.now → IsFailure fault) ⊎ (Refuses ⊎ ((fault ≡ row.Damaged) × IsNoRun old new s n)) → ErrsByMedium {X = Unit {0}} old new (Err fault) ⊎ (Refuses ⊎ ((fault ≡ row.Damaged) × IsNoRun old new s n)) → FaultSays KeepsUnsound old new fault
    by_why (inr why) by_medium = others why
    by_why (inl fails) (inr why) = others why
    by_why (inl fails) (inl by_medium) = errs_of {X = Unit {0}} KeepsUnsound old new (Err fault) fails by_medium clean inside has
