-- Record types, and the transaction types of groups.
use Rattle.std.specs.Prelude.{ℕ, Bool, ◌||◌, List, codes, bytes_eq}
use Rattle.std.specs.List.{list_all}
use Rattle.work_ids.specs.Characters.{is_capital_or_digit}
use Rattle.cwr_records.specs.Places.{record_type_in}
use Rattle.cwr_records.specs.Records.{group_header_of}

-- the record type of a transmission header (CISAC CWR 2.2)
abbrev pub hdr : List ℕ
hdr = codes "HDR"

-- the record type of a group header (CISAC CWR 2.2)
abbrev pub grh : List ℕ
grh = codes "GRH"

-- the record type of a group trailer (CISAC CWR 2.2)
abbrev pub grt : List ℕ
grt = codes "GRT"

-- the record type of a transmission trailer (CISAC CWR 2.2)
abbrev pub trl : List ℕ
trl = codes "TRL"

-- whether a line is a record of a type (CISAC CWR 2.2)
unfoldable pub has_type : List ℕ → List ℕ → Bool
has_type code line = bytes_eq (record_type_in line) code

-- whether a line is one of the four that frame transmissions and groups (CISAC CWR 2.2)
unfoldable pub is_frame : List ℕ → Bool
is_frame line = has_type hdr line || has_type grh line || has_type grt line || has_type trl line

-- whether a type is of A-Z and 0-9 (profile)
unfoldable pub is_code : List ℕ → Bool
is_code bytes = list_all is_capital_or_digit bytes

-- the transaction type of a group header (CISAC CWR 2.2)
unfoldable pub type_of_group : List ℕ → List ℕ
type_of_group line = (group_header_of line).transaction_type

-- whether the groups of a transaction type are read: NWR and REV (profile)
unfoldable pub is_read : List ℕ → Bool
is_read type = bytes_eq type (codes "NWR") || bytes_eq type (codes "REV")
