-- Representation, not meaning: a writer of rows before and after some were added.
use Rattle.std.specs.Prelude.{ℕ, List, ◌++◌, Vec}
use Rattle.std.specs.declared.alloc.Global.{Global}
use Rattle.csv.specs.declared.writer.Writer.{Writer}
use Rattle.http_text.specs.Rows.{HasWrittenRows}
use Rattle.credit_listing.specs.Rows.{rows_written}

-- rows of these fields were added, whatever stood before them
abbrev pub AddsRows : Writer (Vec ℕ Global) → Writer (Vec ℕ Global) → List (List (List ℕ)) → Type 0
AddsRows table new_table added = (rows : List ℕ) → HasWrittenRows table rows → HasWrittenRows new_table (rows ++ rows_written added)
