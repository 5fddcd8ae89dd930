-- Which lines are a transmission, and what it tells.
use Rattle.std.specs.Prelude.{◌≡◌, ℕ, ◌+◌, List, [], ◌∷◌, ◌++◌, length, map, flat_map, sum_by, IsTrue, IsFalse}
use Rattle.std.specs.List.{list_all, enumerate_from}
use Rattle.cwr_records.specs.Lines.{is_blank}
use Rattle.cwr_records.specs.Records.{header_of}
use Rattle.cwr_files.specs.declared.transmission.Transmission.{Transmission}
use Rattle.cwr_files.specs.RecordTypes.{has_type, type_of_group}
use Rattle.cwr_files.specs.RightLines.{is_header, is_opening, is_closing, is_trailer, is_record}
use Rattle.cwr_files.specs.Contents.{group_of}

-- the lines of a group: its header, its transactions, its trailer (CISAC CWR 2.2)
pub record GroupLines : Type 0 where
  pub opening : List ℕ
  pub transactions : List (List (List ℕ))
  pub closing : List ℕ

-- the lines of a file: header, groups, trailer, and what stands after it (CISAC CWR 2.2)
pub record FileLines : Type 0 where
  pub header : List ℕ
  pub groups : List GroupLines
  pub trailer : List ℕ
  pub rest : List (List ℕ)

-- the lines of a group, joined
abbrev pub group_lines : GroupLines → List (List ℕ)
group_lines g = g.opening ∷ (flat_map (λ (x : List (List ℕ)). x) g.transactions ++ g.closing ∷ [])

-- the lines of a file, joined
abbrev pub file_lines : FileLines → List (List ℕ)
file_lines f = f.header ∷ (flat_map group_lines f.groups ++ f.trailer ∷ f.rest)

-- lines that go on a transaction from a record sequence on: none begins another (CISAC CWR 2.2)
abbrev pub AreFurther : List ℕ → ℕ → ℕ → List (List ℕ) → Type 0
AreFurther type sequence number [] = Unit {0}
AreFurther type sequence number (line ∷ lines) =
    IsFalse (has_type type line) × IsTrue (is_record type sequence number line) × AreFurther type sequence (number + 1) lines

-- lines that are one transaction of a group: the first alone has the group's type (CISAC CWR 2.2)
abbrev pub IsTransaction : List ℕ → ℕ → List (List ℕ) → Type 0
IsTransaction type sequence [] = ⊥
IsTransaction type sequence (line ∷ lines) =
    IsTrue (has_type type line) × IsTrue (is_record type sequence 0 line) × AreFurther type sequence 1 lines

-- transactions with sequence numbers that rise by one (CISAC CWR 2.2)
abbrev pub AreTransactions : List ℕ → ℕ → List (List (List ℕ)) → Type 0
AreTransactions type sequence [] = Unit {0}
AreTransactions type sequence (x ∷ xs) = IsTransaction type sequence x × AreTransactions type (sequence + 1) xs

-- the group with this ID, its trailer with the counts of its transactions and of all its lines (CISAC CWR 2.2)
pub record IsGroup (id : ℕ) (g : GroupLines) : Type 0 where
  pub opening : IsTrue (is_opening id g.opening)
  pub transactions : AreTransactions (type_of_group g.opening) 0 g.transactions
  pub closing : IsTrue (is_closing id (length g.transactions) (length (group_lines g)) g.closing)

-- groups with IDs that rise by one (CISAC CWR 2.2)
abbrev pub AreGroups : ℕ → List GroupLines → Type 0
AreGroups id [] = Unit {0}
AreGroups id (g ∷ gs) = IsGroup id g × AreGroups (id + 1) gs

-- how many lines a file has from its header to its trailer
abbrev pub record_count : FileLines → ℕ
record_count f = length (flat_map group_lines f.groups) + 2

-- a file of a sender: the trailer counts groups, transactions and records, and blank lines alone follow it (CISAC CWR 2.2; the blank lines: profile)
pub record IsFile (sender : List ℕ) (f : FileLines) : Type 0 where
  pub header : IsTrue (is_header sender f.header)
  pub groups : AreGroups 1 f.groups
  pub trailer : IsTrue (is_trailer (length f.groups) (sum_by (λ g. length g.transactions) f.groups) (record_count f) f.trailer)
  pub rest : IsTrue (list_all is_blank f.rest)

-- what a file tells: its header's fields, and its groups in order, with IDs from 1
abbrev pub transmission_of : FileLines → Transmission
transmission_of f = record {
  header = header_of f.header;
  groups = map (λ p. group_of p.0 p.1.opening p.1.transactions) (enumerate_from 1 f.groups);
}

-- these lines are the file of a sender that tells this transmission (CISAC CWR 2.2)
pub record File (lines : List (List ℕ)) (sender : List ℕ) (t : Transmission) : Type 0 where
  pub shape : FileLines
  pub joined : lines ≡ file_lines shape
  pub is_file : IsFile sender shape
  pub told : t ≡ transmission_of shape
