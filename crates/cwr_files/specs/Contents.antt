-- What a body tells, whole: its header, its groups and their transactions.
use Rattle.std.specs.Prelude.{ℕ, Bool, false, not, List, [], ◌∷◌, map, flat_map, take_while, if◌then◌else◌}
use Rattle.std.specs.List.{enumerate_from}
use Rattle.cwr_records.specs.Lines.{lines}
use Rattle.cwr_records.specs.Records.{record_of, header_of, group_header_of, kind_of}
use Rattle.cwr_records.specs.declared.work.TransactionKind.{TransactionKind}
use Rattle.cwr_files.specs.declared.transmission.Transmission.{Transmission}
use Rattle.cwr_files.specs.declared.transmission.Group.{Group}
use Rattle.cwr_files.specs.declared.transmission.Transaction.{Transaction}
use Rattle.cwr_files.specs.RecordTypes.{hdr, grh, grt, has_type, type_of_group, is_read}

-- the transaction of these lines (CISAC CWR 2.2)
abbrev pub transaction_of : TransactionKind → ℕ → ℕ → List (List ℕ) → Transaction
transaction_of kind group sequence lines = record { kind = kind; group = group; sequence = sequence; records = map record_of lines }

-- transactions of one group, numbered from 0 (CISAC CWR 2.2)
abbrev pub numbered_transactions : TransactionKind → ℕ → List (List (List ℕ)) → List Transaction
numbered_transactions kind group xs = map (λ p. transaction_of kind group p.0 p.1) (enumerate_from 0 xs)

-- the group with this ID, header line and transactions; those of groups that are not read are left out (CISAC CWR 2.2; unread groups: profile)
abbrev pub group_of : ℕ → List ℕ → List (List (List ℕ)) → Group
group_of id opening transactions = record {
  header = group_header_of opening;
  transactions = (if is_read (type_of_group opening)
      then numbered_transactions (kind_of (type_of_group opening)) id transactions else []);
}

-- each line that opens a part, with the lines after it up to the next one that ends it
abbrev pub parts : (List ℕ → Bool) → (List ℕ → Bool) → List (List ℕ) → List (List (List ℕ))
parts opens ends [] = []
parts opens ends (line ∷ more) =
    if opens line then (line ∷ take_while (λ l. not (ends l)) more) ∷ parts opens ends more else parts opens ends more

-- the lines of a group up to its trailer
abbrev pub group_part : List (List ℕ) → List (List ℕ)
group_part more = take_while (λ l. not (has_type grt l)) more

-- the lines of a transaction of a group of a type: its first, and those after it up to the next that begins one or ends the group (CISAC CWR 2.2)
abbrev pub transaction_lines : List ℕ → List ℕ → List (List ℕ) → List (List ℕ)
transaction_lines type line more = line ∷ take_while (λ l. not (has_type type l)) (group_part more)

-- the transactions of a group of a type among the lines after its header (CISAC CWR 2.2)
abbrev pub transactions_in : List ℕ → ℕ → List (List ℕ) → List Transaction
transactions_in type group more =
    numbered_transactions (kind_of type) group (parts (has_type type) (has_type type) (group_part more))

-- the group with this ID in a group header and the lines after it up to the group's trailer
abbrev pub group_in : ℕ → List (List ℕ) → Group
group_in id [] = group_of id [] []
group_in id (opening ∷ more) =
    group_of id opening (parts (has_type (type_of_group opening)) (has_type (type_of_group opening)) more)

-- the groups in lines, numbered from 1 (CISAC CWR 2.2)
abbrev pub groups_in : List (List ℕ) → List Group
groups_in more = map (λ p. group_in p.0 p.1) (enumerate_from 1 (parts (has_type grh) (has_type grt) more))

-- whether the first line is a transmission header
abbrev pub is_headed : List (List ℕ) → Bool
is_headed [] = false
is_headed (line ∷ more) = has_type hdr line

-- what the lines of a transmission tell
abbrev pub contents : List (List ℕ) → Transmission
contents [] = record { header = header_of []; groups = [] }
contents (line ∷ more) = record { header = header_of line; groups = groups_in more }

-- what a body tells, where it is a transmission: its header line's fields, and its groups with their transactions (CISAC CWR 2.2)
unfoldable pub transmission_in : List ℕ → Transmission
transmission_in body = contents (lines body)

-- all transactions of a transmission, in order
abbrev pub transactions_of : Transmission → List Transaction
transactions_of t = flat_map (λ g. g.transactions) t.groups
