-- Rows of the tables that can be read, as those of a book can.
use Rattle.std.specs.Prelude.{◌≡◌, List, [], ◌∷◌, None, IsOk}
use Rattle.perf_returns.specs.Returns.{return_fault}
use Rattle.society_book.specs.Columns.{blob_at, text_at}
use Rattle.society_rows.specs.Forms.{IsOfForms, recording_forms, return_forms}
use Rattle.sqlite_value.specs.Order.{Row}
use Rattle.work_ids.specs.SenderKey.{sender_key_of}
use Rattle.work_ids.specs.WorkNumber.{work_number_of}

-- the texts of a row of a recording can be read: a sender key and a work number
pub record NamesWork (row : Row) : Type 0 where
  pub sender : IsOk (sender_key_of (text_at 0 row))
  pub work : IsOk (work_number_of (text_at 1 row))

-- a row of a recording that can be read: of the forms of its columns, with a sender key and a work number
pub record IsRecordingRow (row : Row) : Type 0 where
  pub formed : IsOfForms recording_forms row
  pub named : NamesWork row

-- one row of a return that can be read, with a body that is a return
pub record ShowReturn (rows : List Row) : Type 0 where
  pub row : Row
  pub alone : rows ≡ row ∷ []
  pub formed : IsOfForms return_forms row
  pub right : return_fault (blob_at 2 row) ≡ None
