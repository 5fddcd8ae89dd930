-- The rows and the fault of the records that were taken so far.
use Rattle.std.proofs.Common.{◌≡◌, ℕ, ◌+◌, ◌-◌, ◌<◌, ◌≤◌, ◌==◌, Bool, true, false, cond, List, [], ◌∷◌, ◌++◌, length, drop, Option, Some, None, Result, Ok, Err, refl, ap, sym, ◌∙◌, arith, if◌then◌else◌, nat_lt}
use Rattle.std.proofs.lemmas.Bool.Decides.{nat_tests}
use Rattle.std.proofs.lemmas.List.{append_assoc}
use Rattle.perf_returns.specs.Returns.{AnswersReturn, fault_of_records, first_row_fault, performances_of, told_at}
use Rattle.perf_returns.specs.Rows.{IsRowTaken, row_fault, fault_in, header_row_fault, row_added, row_of, too_many_rows, with_row}
use Rattle.perf_returns.specs.declared.fault.ReturnError.{ReturnError}
use Rattle.perf_returns.specs.declared.fault.ReturnError.TheVariants.{Csv, Memory}
use Rattle.perf_returns.specs.declared.fault.ReturnFault.{ReturnFault}
use Rattle.perf_returns.specs.declared.performance.Performance.{Performance}

told_none : (row : ℕ) (here : Option ℕ) (later : Option ReturnFault) → told_at row here later ≡ None → (here ≡ None) × (later ≡ None)
told_none row None later h = (refl, h)
told_none row (Some n) later h = absurd cc

-- the fault of the record behind those without one is the first
fault_behind : (k : ℕ) (seen : List (List (List ℕ))) (fields : List (List ℕ)) (more : List (List (List ℕ))) (row n : ℕ) → first_row_fault k seen ≡ None → row ≡ k + length seen → row_fault row fields ≡ Some n → first_row_fault k (seen ++ fields ∷ more) ≡ Some (record { number = n; row = row })
fault_behind k [] fields more row n none place fault =
    let same : row ≡ k = omega arith in
    rw (← same, fault) refl
fault_behind k (r ∷ seen) fields more row n none place fault =
    let parts = told_none k (row_fault k r) (first_row_fault (k + 1) seen) none in
    ap (λ (o : Option ℕ). told_at k o (first_row_fault (k + 1) (seen ++ fields ∷ more))) parts.0
    ∙ fault_behind (k + 1) seen fields more row n parts.1 (omega arith) fault

-- a record without a fault behind such ones
pub none_behind : (k : ℕ) (seen : List (List (List ℕ))) (fields : List (List ℕ)) (row : ℕ) → first_row_fault k seen ≡ None → row ≡ k + length seen → row_fault row fields ≡ None → first_row_fault k (seen ++ fields ∷ []) ≡ None
none_behind k [] fields row none place fault =
    let same : row ≡ k = omega arith in
    rw (← same, fault) refl
none_behind k (r ∷ seen) fields row none place fault =
    let parts = told_none k (row_fault k r) (first_row_fault (k + 1) seen) none in
    ap (λ (o : Option ℕ). told_at k o (first_row_fault (k + 1) (seen ++ fields ∷ []))) parts.0
    ∙ none_behind (k + 1) seen fields row parts.1 (omega arith) fault

-- where there is a record, the fault is that of the first row that has one
fault_of_some : (seen : List (List (List ℕ))) (fields : List (List ℕ)) (more : List (List (List ℕ))) → fault_of_records (seen ++ fields ∷ more) ≡ first_row_fault 1 (seen ++ fields ∷ more)
fault_of_some [] fields more = refl
fault_of_some (r ∷ seen) fields more = refl

-- the same of records that are some
pub fault_of_all : (seen : List (List (List ℕ))) → 0 < length seen → fault_of_records seen ≡ first_row_fault 1 seen
fault_of_all [] some = absurd (omega arith)
fault_of_all (r ∷ seen) some = refl

with_row_append : (r : Result Performance ℕ) (a b : List Performance) → with_row r (a ++ b) ≡ with_row r a ++ b
with_row_append (Ok row) a b = refl
with_row_append (Err n) a b = refl

rows_append : (xs : List (List (List ℕ))) (fields : List (List ℕ)) → performances_of (xs ++ fields ∷ []) ≡ performances_of xs ++ with_row (row_of fields) []
rows_append [] fields = refl
rows_append (x ∷ xs) fields = ap (with_row (row_of x)) (rows_append xs fields) ∙ with_row_append (row_of x) (performances_of xs) (with_row (row_of fields) [])

-- the rows of data with what one more record adds
pub rows_more : (seen : List (List (List ℕ))) (fields : List (List ℕ)) (row : ℕ) → row ≡ 1 + length seen → performances_of (drop 1 (seen ++ fields ∷ [])) ≡ performances_of (drop 1 seen) ++ row_added row fields
rows_more [] fields row place =
    let first : (row == 1) ≡ true = grind (arith, nat_tests) in
    rw first refl
rows_more (r ∷ seen) fields row place =
    let later : (row == 1) ≡ false = grind (arith, nat_tests) in
    rows_append seen fields ∙ ap (λ (b : Bool). performances_of seen ++ cond b [] (with_row (row_of fields) [])) (sym later)

-- a row without a fault is not one too many
pub not_too_many : (row : ℕ) (fields : List (List ℕ)) → row_fault row fields ≡ None → row ≤ 10001
not_too_many row fields none =
    by_case (row == 1) (nat_lt 10000 (row - 1)) refl refl none
  where
    by_case : (first late : Bool) → (row == 1) ≡ first → nat_lt 10000 (row - 1) ≡ late → (if first then header_row_fault fields else (if late then Some too_many_rows else fault_in (row_of fields))) ≡ None → row ≤ 10001
    by_case true late is more e = grind (arith, nat_tests)
    by_case false true is more e = absurd cc
    by_case false false is more e = grind (arith, nat_tests)

with_row_length : (r : Result Performance ℕ) (rows : List Performance) → length (with_row r rows) ≤ length rows + 1
with_row_length (Ok row) rows = omega arith
with_row_length (Err n) rows = omega arith

length-performances_of : (records : List (List (List ℕ))) → length (performances_of records) ≤ length records
length-performances_of [] = omega arith
length-performances_of (fields ∷ more) = omega (arith, with_row_length (row_of fields) (performances_of more), length-performances_of more)

-- there are fewer rows of data than records
pub rows_few : (seen : List (List (List ℕ))) → length (performances_of (drop 1 seen)) ≤ length seen - 1
rows_few [] = omega arith
rows_few (r ∷ seen) = omega (arith, length-performances_of seen)

-- what a row tells when it is refused is the fault of the body, where that is the row's
pub told_by : (fault : Option ReturnFault) (rows : List Performance) (row : ℕ) (fields : List (List ℕ)) (old new : List Performance) (e : ReturnError) → IsRowTaken row fields old new (Err e) → ((n : ℕ) → row_fault row fields ≡ Some n → fault ≡ Some (record { number = n; row = row })) → AnswersReturn fault rows (Err e)
told_by fault rows row fields old new (Csv told) takes first =
    let whole : Some (record { number = told.number; row = row }) ≡ Some told = ap (λ (n : ℕ). Some (record { number = told.number; row = n })) (sym takes.1) in
    first told.number takes.0 ∙ whole
told_by fault rows row fields old new Memory takes first = tt

-- no record was taken
pub none_seen : (seen : List (List (List ℕ))) → length seen ≡ 0 → seen ≡ []
none_seen [] none = refl
none_seen (r ∷ seen) none = absurd (omega arith)

-- the fault of records that begin so is that of the record behind those without one
pub fault_of_begun : (all seen : List (List (List ℕ))) (fields : List (List ℕ)) (more : List (List (List ℕ))) (row n : ℕ) → all ≡ (seen ++ fields ∷ []) ++ more → first_row_fault 1 seen ≡ None → row ≡ 1 + length seen → row_fault row fields ≡ Some n → fault_of_records all ≡ Some (record { number = n; row = row })
fault_of_begun all seen fields more row n begins none place fault =
    ap fault_of_records (begins ∙ append_assoc seen (fields ∷ []) more) ∙ fault_of_some seen fields more ∙ fault_behind 1 seen fields more row n none place fault
