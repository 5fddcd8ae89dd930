-- What an office may be.
use Rattle.std.specs.Prelude.{ℕ, Bool, List, length, ◌&&◌, nat_le}
use Rattle.std.specs.List.{list_all}
use Rattle.work_ids.specs.Characters.{is_printable}

-- what an office may be: a society of 1 to 999, a territory of 1 to 9,999, a name of 1 to 45 bytes of printable ASCII (profile)
abbrev pub is_office : ℕ → ℕ → List ℕ → Bool
is_office society territory name =
    nat_le 1 society && nat_le society 999 && (nat_le 1 territory && nat_le territory 9999) && (nat_le 1 (length name) && nat_le (length name) 45 && list_all is_printable name)
