-- SQL's equality of a key and the first columns of a row, where these are texts, whole numbers that are at least 0 and segments; SQL's order of segments.
use Rattle.std.specs.Prelude.{◌≡◌, ℕ, pos, List, [], ◌∷◌}
use Rattle.std.specs.Bool.{Decides}
use Rattle.std.specs.Ordering.{nat_cmp}
use Rattle.sqlite_value.specs.declared.value.Value.TheVariants.{Int, Text}
use Rattle.sqlite_value.specs.Order.{Row, value_cmp}
use Rattle.society_rows.specs.Reads.{has_key}
use Rattle.society_rows.specs.SegmentColumns.{segment_column}

-- one text, as of a front or a balance
abbrev pub TextsAreKeys : Type 0
TextsAreKeys = (s t : List ℕ) (rest : Row) → Decides (has_key (Text t ∷ []) (Text s ∷ rest)) (s ≡ t)

-- one number, as of a pool
abbrev pub NumbersAreKeys : Type 0
NumbersAreKeys = (m n : ℕ) (rest : Row) → Decides (has_key (Int (pos n) ∷ []) (Int (pos m) ∷ rest)) (m ≡ n)

-- a text and a number, as of a transmission or a return
abbrev pub NumberedAreKeys : Type 0
NumberedAreKeys = (s t : List ℕ) (m n : ℕ) (rest : Row) → Decides (has_key (Text t ∷ Int (pos n) ∷ []) (Text s ∷ Int (pos m) ∷ rest)) ((s ≡ t) × (m ≡ n))

-- two texts, as of a version or a recording
abbrev pub PairsAreKeys : Type 0
PairsAreKeys = (s t a b : List ℕ) (rest : Row) → Decides (has_key (Text t ∷ Text b ∷ []) (Text s ∷ Text a ∷ rest)) ((s ≡ t) × (a ≡ b))

-- a text and a segment by its place, as of the end of a segment
abbrev pub SegmentsAreKeys : Type 0
SegmentsAreKeys = (s t : List ℕ) (m n : ℕ) (rest : Row) → Decides (has_key (Text t ∷ Int (segment_column n) ∷ []) (Text s ∷ Int (segment_column m) ∷ rest)) ((s ≡ t) × (m ≡ n))

-- SQL orders segments by their places: the plain one, then the years
abbrev pub SegmentsAreOrdered : Type 0
SegmentsAreOrdered = (m n : ℕ) → value_cmp (Int (segment_column m)) (Int (segment_column n)) ≡ nat_cmp m n
