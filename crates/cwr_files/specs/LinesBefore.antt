-- What the lines before a line say of its place: a list, the nearest first.
use Rattle.std.specs.Prelude.{ℕ, ◌+◌, Bool, true, false, not, ◌&&◌, List, [], ◌∷◌, length, count_by, take_while, find, unwrap_or, if◌then◌else◌}
use Rattle.std.specs.List.{list_any}
use Rattle.cwr_files.specs.RecordTypes.{grh, grt, trl, has_type, type_of_group}

-- the lines after the nearest one of a record type
unfoldable pub since : List ℕ → List (List ℕ) → List (List ℕ)
since code past = take_while (λ line. not (has_type code line)) past

-- whether the transmission trailer stands before (CISAC CWR 2.2)
unfoldable pub is_ended : List (List ℕ) → Bool
is_ended past = list_any (has_type trl) past

-- whether a group is open: a GRH stands before with no GRT after it
unfoldable pub is_open : List (List ℕ) → Bool
is_open past = list_any (has_type grh) (since grt past)

-- the transaction type of the nearest group (CISAC CWR 2.2)
unfoldable pub open_type : List (List ℕ) → List ℕ
open_type past = type_of_group (unwrap_or (find (has_type grh) past) [])

-- how many groups have begun (CISAC CWR 2.2)
unfoldable pub groups_before : List (List ℕ) → ℕ
groups_before past = count_by (has_type grh) past

-- how many transactions of the open group have begun (CISAC CWR 2.2)
unfoldable pub transactions_in_group : List (List ℕ) → ℕ
transactions_in_group past = count_by (has_type (open_type past)) (since grh past)

-- how many lines the open group has, its header included (CISAC CWR 2.2)
unfoldable pub lines_in_group : List (List ℕ) → ℕ
lines_in_group past = length (since grh past) + 1

-- the record sequence that the next line of the open group's last transaction has (CISAC CWR 2.2)
unfoldable pub next_number : List (List ℕ) → ℕ
next_number past = length (since (open_type past) (since grh past)) + 1

-- whether a line begins a transaction (CISAC CWR 2.2)
unfoldable pub begins_transaction : List (List ℕ) → List ℕ → Bool
begins_transaction past line =
    not (is_ended past) && is_open past && not (has_type grt line) && has_type (open_type past) line

-- how many transactions have begun in all groups (CISAC CWR 2.2)
abbrev pub transactions_before : List (List ℕ) → ℕ
transactions_before [] = 0
transactions_before (line ∷ past) = (if begins_transaction past line then 1 else 0) + transactions_before past

-- whether a line is the first: no line stands before it
abbrev pub is_first : List (List ℕ) → Bool
is_first [] = true
is_first (nearest ∷ past) = false

-- whether a line stands between groups: behind the first line and before the end, and no group is open (CISAC CWR 2.2)
abbrev pub is_between : List (List ℕ) → Bool
is_between past = not (is_first past) && not (is_ended past) && not (is_open past)

-- whether a line stands within a group (CISAC CWR 2.2)
abbrev pub is_within : List (List ℕ) → Bool
is_within past = not (is_ended past) && is_open past
