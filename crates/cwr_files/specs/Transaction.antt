-- What a transaction tells of its work: its first record, title, work number and ISWC.
use Rattle.std.specs.Prelude.{ℕ, List, [], ◌∷◌, Option, Some, None, Result}
use Rattle.cwr_records.specs.declared.record.Record.{Record}
use Rattle.cwr_records.specs.declared.record.Record.TheVariants as kind
use Rattle.cwr_records.specs.declared.work.WorkRecord.{WorkRecord}
use Rattle.cwr_files.specs.declared.transmission.Transaction.{Transaction}
use Rattle.work_ids.specs.Iswc.{iswc_field_of}
use Rattle.work_ids.specs.WorkNumber.{work_number_of}
use Rattle.work_ids.specs.declared.fault.IdFault.{IdFault}

-- the record that begins a transaction, if it is a work
abbrev pub work_record_in : Record → Option WorkRecord
work_record_in (kind.Work work) = Some work
work_record_in _ = None

-- the first of some records, if it is a work
abbrev pub first_work : List Record → Option WorkRecord
first_work [] = None
first_work (first ∷ more) = work_record_in first

-- the title of a work, nothing where there is none
abbrev pub work_title : Option WorkRecord → List ℕ
work_title None = []
work_title (Some work) = work.title

-- the submitter work number of a work, nothing where there is none
abbrev pub submitter_number : Option WorkRecord → List ℕ
submitter_number None = []
submitter_number (Some work) = work.work_number

-- the ISWC field of a work, nothing where there is none
abbrev pub iswc_field : Option WorkRecord → List ℕ
iswc_field None = []
iswc_field (Some work) = work.iswc

-- a transaction's title, as it came (CISAC CWR 2.2)
abbrev pub title_of : Transaction → List ℕ
title_of transaction = work_title (first_work transaction.records)

-- a transaction's work number (CISAC CWR 2.2), or why it is none
abbrev pub number_of_work : Transaction → Result (List ℕ) IdFault
number_of_work transaction = work_number_of (submitter_number (first_work transaction.records))

-- a transaction's ISWC (ISO 15707), none where its field is blank, or why it is none
abbrev pub iswc_of_work : Transaction → Result (Option (List ℕ)) IdFault
iswc_of_work transaction = iswc_field_of (iswc_field (first_work transaction.records))
