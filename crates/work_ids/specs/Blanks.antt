-- Blanks (0x20) round an identifier and behind it.
use Rattle.std.specs.Prelude.{ℕ, Bool, List, ◌++◌, ◌-◌, ◌==◌, length, take, drop, replicate}
use Rattle.std.specs.List.{prefix_len, suffix_len}

-- a blank
abbrev pub is_blank_byte : ℕ → Bool
is_blank_byte byte = byte == 32

-- the bytes without the blanks at their end
abbrev pub without_trailing_blanks : List ℕ → List ℕ
without_trailing_blanks bytes = take (length bytes - suffix_len is_blank_byte bytes) bytes

-- the bytes without the blanks in front
abbrev pub without_leading_blanks : List ℕ → List ℕ
without_leading_blanks bytes = drop (prefix_len is_blank_byte bytes) bytes

-- the bytes without the blanks at both ends
unfoldable pub trimmed : List ℕ → List ℕ
trimmed bytes = without_leading_blanks (without_trailing_blanks bytes)

-- the bytes filled with blanks to a width
abbrev pub fill : ℕ → List ℕ → List ℕ
fill width bytes = bytes ++ replicate (width - length bytes) 32
