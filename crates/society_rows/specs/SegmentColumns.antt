-- The column of a segment.
use Rattle.std.specs.Prelude.{ℕ, zero, suc, ℤ, pos, negsuc}

-- the column of the segment at a place among all: -1 of the plain one, the year of any other (profile)
abbrev pub segment_column : ℕ → ℤ
segment_column zero = negsuc 0
segment_column (suc year) = pos year
