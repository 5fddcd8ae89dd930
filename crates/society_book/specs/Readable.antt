-- Rows of versions and of transmissions that can be read, as those of a book can.
use Rattle.std.specs.Prelude.{ℕ, pos, ◌≡◌, true, List, [], ◌∷◌, None}
use Rattle.cwr_files.specs.FileFault.{file_fault}
use Rattle.society_book.specs.Columns.{blob_at, whole_number_at}
use Rattle.society_rows.specs.Forms.{IsOfForms, transmission_forms, version_forms}
use Rattle.sqlite_value.specs.Order.{Row, column}
use Rattle.sqlite_value.specs.declared.value.Value.TheVariants.{Int}
use Rattle.work_ids.specs.Segments.{is_transmission_number}

-- a row of a version that can be read: of the forms of its columns, with a transmission's number, and with a revision and an ordinal from 0
pub record IsVersionRow (row : Row) : Type 0 where
  pub formed : IsOfForms version_forms row
  pub number : is_transmission_number (whole_number_at 3 row) ≡ true
  pub revision : column row 2 ≡ Int (pos (whole_number_at 2 row))
  pub ordinal : column row 5 ≡ Int (pos (whole_number_at 5 row))

-- one row of a transmission that can be read, with a body that is one of this sender
pub record ShowTransmission (sender : List ℕ) (rows : List Row) : Type 0 where
  pub row : Row
  pub alone : rows ≡ row ∷ []
  pub formed : IsOfForms transmission_forms row
  pub right : file_fault sender (blob_at 2 row) ≡ None
