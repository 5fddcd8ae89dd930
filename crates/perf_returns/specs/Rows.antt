-- A row of a return: what it says, or its fault.
use Rattle.std.specs.Prelude.{ℕ, Bool, false, ⊤, ◌≡◌, ◌==◌, ◌&&◌, ◌++◌, List, [], ◌∷◌, Option, Some, None, Result, Ok, Err, bytes_eq, codes, if◌then◌else◌, nat_lt, ◌-◌}
use Rattle.perf_returns.specs.Numbers.{plays_of, seconds_of}
use Rattle.work_ids.specs.Isrc.{isrc_of_text}
use Rattle.work_ids.specs.declared.fault.IdFault.{IdFault}
use Rattle.perf_returns.specs.declared.fault.ReturnError.{ReturnError}
use Rattle.perf_returns.specs.declared.fault.ReturnError.TheVariants.{Csv, Memory}
use Rattle.perf_returns.specs.declared.performance.Performance.{Performance}

-- whether three fields are the words of the header, exactly (profile)
abbrev pub are_header_words : List ℕ → List ℕ → List ℕ → Bool
are_header_words first second third = bytes_eq first (codes "isrc") && bytes_eq second (codes "plays") && bytes_eq third (codes "seconds")

-- whether the fields of a record are the header (profile)
abbrev pub is_header_row : List (List ℕ) → Bool
is_header_row (first ∷ second ∷ third ∷ []) = are_header_words first second third
is_header_row _ = false

-- 1: there is no row, or the first is not the header (profile)
abbrev pub wrong_header : ℕ
wrong_header = 1

-- the fault of the first record, where it is not the header (profile)
abbrev pub header_row_fault : List (List ℕ) → Option ℕ
header_row_fault fields = if is_header_row fields then None else Some wrong_header

-- 3: the first field is no text of an ISRC (profile)
abbrev pub no_isrc : ℕ
no_isrc = 3

-- 4: the second field is no plays (profile)
abbrev pub wrong_plays : ℕ
wrong_plays = 4

-- 5: the third field is no seconds (profile)
abbrev pub wrong_seconds : ℕ
wrong_seconds = 5

-- a row of data by its three fields, the faults of the fields in this order (profile)
abbrev pub row_by : Result (List ℕ) IdFault → Option ℕ → Option ℕ → Result Performance ℕ
row_by (Err fault) plays seconds = Err no_isrc
row_by (Ok isrc) None seconds = Err wrong_plays
row_by (Ok isrc) (Some plays) None = Err wrong_seconds
row_by (Ok isrc) (Some plays) (Some seconds) = Ok (record { isrc = isrc; plays = plays; seconds = seconds })

-- 2: a row of data has not three fields (profile)
abbrev pub other_fields : ℕ
other_fields = 2

-- what a row of data says, or its fault (profile)
abbrev pub row_of : List (List ℕ) → Result Performance ℕ
row_of (isrc ∷ plays ∷ seconds ∷ []) = row_by (isrc_of_text isrc) (plays_of plays) (seconds_of seconds)
row_of _ = Err other_fields

-- the fault of a row that was read
abbrev pub fault_in : Result Performance ℕ → Option ℕ
fault_in (Ok row) = None
fault_in (Err number) = Some number

-- how many rows of data there are up to a row, the header being row 1
abbrev pub data_rows_to : ℕ → ℕ
data_rows_to row = row - 1

-- 6: there are more than 10,000 rows of data (profile)
abbrev pub too_many_rows : ℕ
too_many_rows = 6

-- the fault of a row of data: where too many rows of data have come that one, before all others (profile)
abbrev pub data_fault : ℕ → List (List ℕ) → Option ℕ
data_fault row fields = if nat_lt 10000 (data_rows_to row) then Some too_many_rows else fault_in (row_of fields)

-- the fault of a row, the header being row 1 (profile)
abbrev pub row_fault : ℕ → List (List ℕ) → Option ℕ
row_fault row fields = if row == 1 then header_row_fault fields else data_fault row fields

-- rows behind one that was read
abbrev pub with_row : Result Performance ℕ → List Performance → List Performance
with_row (Ok row) rows = row ∷ rows
with_row (Err number) rows = rows

-- what the record of a row adds to the rows of data
abbrev pub row_added : ℕ → List (List ℕ) → List Performance
row_added row fields = if row == 1 then [] else with_row (row_of fields) []

-- the record of a row was taken: it has no fault and joined the rows, or its fault was told; where memory ran out it has none
abbrev pub IsRowTaken : ℕ → List (List ℕ) → List Performance → List Performance → Result ⊤ ReturnError → Type 0
IsRowTaken row fields old new (Ok done) = (row_fault row fields ≡ None) × (new ≡ old ++ row_added row fields)
IsRowTaken row fields old new (Err (Csv fault)) = (row_fault row fields ≡ Some fault.number) × (fault.row ≡ row)
IsRowTaken row fields old new (Err Memory) = row_fault row fields ≡ None
