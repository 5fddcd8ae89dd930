-- The recordings that a transaction names.
use Rattle.std.specs.Prelude.{ℕ, List, [], ◌∷◌, Option, Some, None, Result, Ok, Err}
use Rattle.cwr_files.specs.declared.transmission.Transaction.{Transaction}
use Rattle.cwr_records.specs.declared.record.Record.{Record}
use Rattle.cwr_records.specs.declared.record.Record.TheVariants as kind
use Rattle.work_ids.specs.Isrc.{isrc_field_of}
use Rattle.work_ids.specs.declared.fault.IdFault.{IdFault}

-- an identifier that is there and right
abbrev pub right_one : Result (Option (List ℕ)) IdFault → Option (List ℕ)
right_one (Ok identifier) = identifier
right_one (Err fault) = None

-- the ISRC that a record has: that of a REC, none where its field is blank (ISO 3901)
abbrev pub recorded_isrc : Record → Option (List ℕ)
recorded_isrc (kind.Recording r) = right_one (isrc_field_of r.isrc)
recorded_isrc _ = None

-- ISRCs behind one that may be there
abbrev pub with_isrc : Option (List ℕ) → List (List ℕ) → List (List ℕ)
with_isrc None isrcs = isrcs
with_isrc (Some isrc) isrcs = isrc ∷ isrcs

-- the ISRCs of some records in order, repeats kept (profile)
abbrev pub isrcs_in : List Record → List (List ℕ)
isrcs_in [] = []
isrcs_in (r ∷ more) = with_isrc (recorded_isrc r) (isrcs_in more)

-- the ISRCs of a transaction
abbrev pub isrcs_of : Transaction → List (List ℕ)
isrcs_of transaction = isrcs_in transaction.records
