-- The forms of the rows that are read: what each column may hold.
use Rattle.std.specs.Prelude.{◌≡◌, ◌<◌, ◌≤◌, ◌^◌, ℕ, suc, ℤ, pos, FitsSigned, List, [], ◌∷◌, length, Result, IsOk}
use Rattle.std.specs.Int.{w64}
use Rattle.sqlite_value.specs.declared.value.Value.{Value}
use Rattle.sqlite_value.specs.declared.value.Value.TheVariants.{Int, Text, Blob}
use Rattle.sqlite_value.specs.Order.{Row, column}
use Rattle.society_rows.specs.declared.fault.RowFault.{RowFault}
use Rattle.society_rows.specs.SegmentColumns.{segment_column}

-- a text, bytes, a number from 0 that fits 32 bits, a whole number that fits 64 bits, a segment, or one number alone
pub data Form : Type 0 where
  Words : Form
  Bytes : Form
  Count : Form
  Amount : Form
  Segment : Form
  Only : ℕ → Form

-- the value is of the form
abbrev pub HasForm : Form → Value → Type 0
HasForm Words v = (text : List ℕ) × (v ≡ Text text)
HasForm Bytes v = (bytes : List ℕ) × (v ≡ Blob bytes)
HasForm Count v = (n : ℕ) × (v ≡ Int (pos n)) × (n < 2 ^ 32)
HasForm Amount v = (n : ℤ) × (v ≡ Int n) × FitsSigned w64 n
HasForm Segment v = (place : ℕ) × (v ≡ Int (segment_column place)) × (place ≤ 100)
HasForm (Only n) v = v ≡ Int (pos n)

-- the columns from a place on are of these forms
abbrev pub HaveForms : ℕ → List Form → Row → Type 0
HaveForms at [] row = Unit {0}
HaveForms at (form ∷ forms) row = HasForm form (column row at) × HaveForms (suc at) forms row

-- the row has a column for each of these forms, and of that form
abbrev pub IsOfForms : List Form → Row → Type 0
IsOfForms forms row = (length row ≡ length forms) × HaveForms 0 forms row

-- a row of these forms is read
abbrev pub IsRead : {X : Type 0} → List Form → Row → Result X RowFault → Type 0
IsRead forms row result = IsOfForms forms row → IsOk result

-- one, layout, society, territory, name, under some layout
abbrev pub office_forms_under : ℕ → List Form
office_forms_under layout = Only 1 ∷ Only layout ∷ Count ∷ Count ∷ Words ∷ []

-- the same under layout 3
abbrev pub office_forms : List Form
office_forms = office_forms_under 3

-- sender, number, body
abbrev pub transmission_forms : List Form
transmission_forms = Words ∷ Count ∷ Bytes ∷ []

-- sender, number
abbrev pub transmission_key_forms : List Form
transmission_key_forms = Words ∷ Count ∷ []

-- reporter, number, body
abbrev pub return_forms : List Form
return_forms = Words ∷ Count ∷ Bytes ∷ []

-- pool, amount
abbrev pub pool_forms : List Form
pool_forms = Count ∷ Amount ∷ []

-- pool, sender, number
abbrev pub pool_cut_forms : List Form
pool_cut_forms = Count ∷ Words ∷ Count ∷ []

-- reporter, number, pool
abbrev pub pool_return_forms : List Form
pool_return_forms = Words ∷ Count ∷ Count ∷ []

-- sender, front, works
abbrev pub front_forms : List Form
front_forms = Words ∷ Count ∷ Amount ∷ []

-- sender, number, place, fault, ordinal, revision
abbrev pub verdict_forms : List Form
verdict_forms = Words ∷ Count ∷ Count ∷ Count ∷ Amount ∷ Amount ∷ []

-- sender, work, revision, number, place, ordinal
abbrev pub version_forms : List Form
version_forms = Words ∷ Words ∷ Amount ∷ Count ∷ Count ∷ Amount ∷ []

-- sender, work, revision, isrc
abbrev pub recording_forms : List Form
recording_forms = Words ∷ Words ∷ Amount ∷ Words ∷ []

-- pool, line, isrc, account, units
abbrev pub credit_forms : List Form
credit_forms = Count ∷ Count ∷ Words ∷ Words ∷ Amount ∷ []

-- account, units
abbrev pub balance_forms : List Form
balance_forms = Words ∷ Amount ∷ []

-- sender, segment, last, next
abbrev pub segment_end_forms : List Form
segment_end_forms = Words ∷ Segment ∷ Count ∷ Count ∷ []

-- pool
abbrev pub mechanical_pool_forms : List Form
mechanical_pool_forms = Count ∷ []
