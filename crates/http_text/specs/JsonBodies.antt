-- Bodies in JSON: the value that a body is, and what is looked for in it.
use Rattle.std.specs.Prelude.{ℕ, Bool, false, List, ◌==◌, if◌then◌else◌, Option, Some, None, option_and_then}
use Rattle.std.specs.Str.{is_utf8}
use Rattle.serde_json.specs.Data.{Data, Members}
use Rattle.serde_json.specs.Events.{members_len}
use Rattle.serde_json.specs.Find.{as_number, as_u64, get}
use Rattle.serde_json.specs.Read.{read}

-- the value that a body is, where it is JSON in UTF-8 (RFC 8259)
abbrev pub json_of : List ℕ → Option Data
json_of body = if is_utf8 body then read body else None

-- there are so many members
abbrev pub has_members : ℕ → Option Members → Bool
has_members count (Some members) = members_len members == count
has_members count None = false

-- a whole number from 0
abbrev pub whole_in : Data → Option ℕ
whole_in value = option_and_then as_u64 (as_number value)

-- the whole number of a member
abbrev pub whole_member : List ℕ → Data → Option ℕ
whole_member key value = option_and_then whole_in (get key value)
