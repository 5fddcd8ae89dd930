-- Representation, not meaning: a writer of rows and what it has written.
use Rattle.std.specs.Prelude.{◌≡◌, ℕ, false, List, ◌++◌, Some, Vec}
use Rattle.std.specs.declared.alloc.Global.{Global}
use Rattle.csv.specs.Writing.{default_writer, fields_written, has_written, row_text, text_written, writer_setup}
use Rattle.csv.specs.declared.writer.Writer.{Writer}

-- the writer has written these rows, and stands between two
pub record HasWrittenRows (table : Writer (Vec ℕ Global)) (rows : List ℕ) : Type 0 where
  pub text : text_written (λ out. Some out.items) table ≡ Some rows
  pub setup : writer_setup table ≡ default_writer
  pub fields : fields_written table ≡ 0
  pub wrote : has_written table ≡ false

-- one row of these fields was added, whatever stood before it
abbrev pub AddsRow : Writer (Vec ℕ Global) → Writer (Vec ℕ Global) → List (List ℕ) → Type 0
AddsRow table new_table fields =
    (rows : List ℕ) → HasWrittenRows table rows → HasWrittenRows new_table (rows ++ row_text default_writer fields)
