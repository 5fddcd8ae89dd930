-- What the columns of a stored row say, and rows by their keys (representation).
use Rattle.std.specs.Prelude.{ℕ, suc, pos, Bool, List, [], IsPermutation, filter}
use Rattle.sqlite_value.specs.declared.value.Value.{Value}
use Rattle.sqlite_value.specs.declared.value.Value.TheVariants.{Int, Text, Blob}
use Rattle.sqlite_value.specs.Order.{Row, column}

-- the bytes of a text, nothing of any other value
abbrev pub text_of : Value → List ℕ
text_of (Text bytes) = bytes
text_of _ = []

-- a whole number from 0, and 0 of any other value
abbrev pub whole_number_of : Value → ℕ
whole_number_of (Int (pos n)) = n
whole_number_of _ = 0

-- the place of the segment of a column: 0 of the plain one, which is below 0, and one more than the year of any other
abbrev pub segment_of_value : Value → ℕ
segment_of_value (Int (pos year)) = suc year
segment_of_value _ = 0

-- the bytes of a blob, nothing of any other value
abbrev pub blob_of : Value → List ℕ
blob_of (Blob bytes) = bytes
blob_of _ = []

-- the text in a column
abbrev pub text_at : ℕ → Row → List ℕ
text_at at row = text_of (column row at)

-- the whole number in a column
abbrev pub whole_number_at : ℕ → Row → ℕ
whole_number_at at row = whole_number_of (column row at)

-- the place of the segment in a column
abbrev pub segment_place_at : ℕ → Row → ℕ
segment_place_at at row = segment_of_value (column row at)

-- the bytes in a column
abbrev pub blob_at : ℕ → Row → List ℕ
blob_at at row = blob_of (column row at)

-- of each key the rows are exactly these, in any order
abbrev pub HasRows : {K : Type 0} → (K → Row → Bool) → (K → List Row) → List Row → Type 0
HasRows {K} is_of expected rows = (key : K) → IsPermutation (expected key) (filter (is_of key) rows)
