-- A return, as CSV: its records, its rows of data, and its fault.
use Rattle.std.specs.Prelude.{ℕ, ◌≡◌, ◌+◌, List, [], ◌∷◌, Option, Some, None, Result, Ok, Err, ⊤, drop}
use Rattle.csv.specs.Reading.{default_config, records, strip_bom}
use Rattle.perf_returns.specs.Rows.{row_fault, row_of, with_row, wrong_header}
use Rattle.perf_returns.specs.declared.fault.ReturnError.{ReturnError}
use Rattle.perf_returns.specs.declared.fault.ReturnError.TheVariants.{Csv, Memory}
use Rattle.perf_returns.specs.declared.fault.ReturnFault.{ReturnFault}
use Rattle.perf_returns.specs.declared.performance.Performance.{Performance}
use Rattle.perf_returns.specs.declared.performances.Return.{Return}

-- the records of a body, each as its fields: a byte order mark at the start is dropped, and lines without a byte are no records (RFC 4180; profile)
abbrev pub records_in : List ℕ → List (List (List ℕ))
records_in body = records default_config (strip_bom body)

-- the fault of a row, where it has one, before that of the rows after it
abbrev pub told_at : ℕ → Option ℕ → Option ReturnFault → Option ReturnFault
told_at row (Some number) later = Some (record { number = number; row = row })
told_at row None later = later

-- the fault of the first row that has one, of records whose first one is this row (profile)
abbrev pub first_row_fault : ℕ → List (List (List ℕ)) → Option ReturnFault
first_row_fault row [] = None
first_row_fault row (fields ∷ more) = told_at row (row_fault row fields) (first_row_fault (row + 1) more)

-- the fault of the records of a return: at row 1 that there is no header, where there are none (profile)
abbrev pub fault_of_records : List (List (List ℕ)) → Option ReturnFault
fault_of_records [] = Some (record { number = wrong_header; row = 1 })
fault_of_records (header ∷ more) = first_row_fault 1 (header ∷ more)

-- the return fault of a body, none where it is a return (profile)
unfoldable pub return_fault : List ℕ → Option ReturnFault
return_fault body = fault_of_records (records_in body)

-- the rows of data that records are
abbrev pub performances_of : List (List (List ℕ)) → List Performance
performances_of [] = []
performances_of (fields ∷ more) = with_row (row_of fields) (performances_of more)

-- the rows of data of a return, in order: those of the records behind the header (profile)
unfoldable pub performances_in : List ℕ → List Performance
performances_in body = performances_of (drop 1 (records_in body))

-- a reader of returns answers these rows where there is no fault, and else this fault; memory may run out
abbrev pub AnswersReturn : Option ReturnFault → List Performance → Result Return ReturnError → Type 0
AnswersReturn fault rows (Ok r) = (fault ≡ None) × (r.rows ≡ rows)
AnswersReturn fault rows (Err (Csv told)) = fault ≡ Some told
AnswersReturn fault rows (Err Memory) = ⊤
