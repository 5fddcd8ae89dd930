-- The table of a pool: comma-separated rows that end with a line feed (RFC 4180; the columns: profile).
use Rattle.std.specs.Prelude.{ℕ, List, [], ◌∷◌, ◌++◌, codes, decimal, Option, Some, None}
use Rattle.std.specs.List.{flat_map}
use Rattle.csv.specs.Writing.{default_writer, row_text}
use Rattle.pool_split.specs.declared.claim.Credit.{Credit}
use Rattle.work_ids.specs.Account.{account_text}

-- the names of the columns
abbrev pub credit_columns : List (List ℕ)
credit_columns = codes "isrc" ∷ codes "account" ∷ codes "units" ∷ []

-- an ISRC, or a hyphen where there is none
abbrev pub isrc_field : Option (List ℕ) → List ℕ
isrc_field (Some isrc) = isrc
isrc_field None = codes "-"

-- the fields of a credit
abbrev pub credit_fields : Credit → List (List ℕ)
credit_fields credit = isrc_field credit.isrc ∷ account_text credit.account ∷ decimal credit.units ∷ []

-- a row for each credit
abbrev pub credit_table_rows : List Credit → List ℕ
credit_table_rows credits = flat_map (λ credit. row_text default_writer (credit_fields credit)) credits

-- the table of a pool: the names of the columns, and a row for each credit
unfoldable pub table_text : List Credit → List ℕ
table_text credits = row_text default_writer credit_columns ++ credit_table_rows credits
