-- The characters of identifiers.
use Rattle.std.specs.Prelude.{ℕ, Bool, ◌-◌, ◌&&◌, ◌||◌, nat_le, if◌then◌else◌}

-- one of A-Z
abbrev pub is_capital : ℕ → Bool
is_capital byte = nat_le 65 byte && nat_le byte 90

-- one of 0-9
abbrev pub is_digit : ℕ → Bool
is_digit byte = nat_le 48 byte && nat_le byte 57

-- one of A-Z and 0-9
abbrev pub is_capital_or_digit : ℕ → Bool
is_capital_or_digit byte = is_capital byte || is_digit byte

-- printable ASCII, 0x20 to 0x7E
abbrev pub is_printable : ℕ → Bool
is_printable byte = nat_le 32 byte && nat_le byte 126

-- a small letter as the capital, any other byte as it is
abbrev pub capital : ℕ → ℕ
capital byte = if nat_le 97 byte && nat_le byte 122 then byte - 32 else byte
