-- The fault of a body that is no transmission of a sender: the first line at which a sentence holds, and which one.
use Rattle.std.specs.Prelude.{ℕ, ◌+◌, List, [], ◌∷◌, length, map, sum_by, Option, Some, None}
use Rattle.cwr_records.specs.Lines.{pieces, line_of_piece}
use Rattle.cwr_files.specs.declared.fault.FileFault.{FileFault}
use Rattle.cwr_files.specs.Sentences.{first_that_holds}
use Rattle.cwr_files.specs.LineFaults.{line_sentences, end_sentences}

-- the fault of a line behind those lines, the nearest first, where the body has so many bytes at the line's end (profile)
unfoldable pub fault_at : List ℕ → List (List ℕ) → ℕ → List ℕ → Option ℕ
fault_at sender past end line = first_that_holds (line_sentences sender past end line)

-- a fault at a line, or else another
abbrev pub fault_or : Option ℕ → ℕ → Option FileFault → Option FileFault
fault_or (Some n) l other = Some (record { number = n; line = l })
fault_or None l other = other

-- the fault of a body that ends behind those lines, at the line that would be next
abbrev pub end_fault : List (List ℕ) → Option FileFault
end_fault past = fault_or (first_that_holds (end_sentences past)) (length past + 1) None

-- the first fault of the pieces of a body and of its end, behind the pieces before them, the nearest first
abbrev pub fault_from : List ℕ → List (List ℕ) → List (List ℕ) → Option FileFault
fault_from sender past [] = end_fault (map line_of_piece past)
fault_from sender past (piece ∷ more) =
    fault_or (fault_at sender (map line_of_piece past) (sum_by length past + length piece) (line_of_piece piece)) (length past + 1)
    (fault_from sender (piece ∷ past) more)

-- the file fault of a body for a sender, where it has one (CISAC CWR 2.2; the numbers: profile)
unfoldable pub file_fault : List ℕ → List ℕ → Option FileFault
file_fault sender body = fault_from sender [] (pieces body)
