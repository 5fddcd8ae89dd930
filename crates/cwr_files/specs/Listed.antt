-- Representation, not meaning: what is listed of a body, and from where the listing goes on.
use Rattle.std.specs.Prelude.{◌≡◌, ℕ, ◌≤◌, List, length, map}
use Rattle.cwr_records.specs.Lines.{lines}
use Rattle.cwr_records.specs.Records.{record_of}
use Rattle.cwr_records.specs.declared.record.Record.{Record}
use Rattle.cwr_files.specs.RecordTypes.{has_type}
use Rattle.cwr_files.specs.Contents.{group_part, parts, transaction_lines}

-- the transactions of a group of a type among the lines of bytes, each as its lines
abbrev pub parts_of_group : List ℕ → List ℕ → List (List (List ℕ))
parts_of_group type bytes = parts (has_type type) (has_type type) (group_part (lines bytes))

-- the records of a transaction are listed, and the group's further transactions are those of the rest
pub record HasRecords (type first after : List ℕ) (records : List Record) (rest : List ℕ) : Type 0 where
  pub listed : records ≡ map record_of (transaction_lines type first (lines after))
  pub further : parts_of_group type rest ≡ parts_of_group type after
  pub shorter : length rest ≤ length after
