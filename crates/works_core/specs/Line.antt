-- A sender's line: its transactions of types NWR and REV in order of transmission number and, within a transmission, of the file.
use Rattle.std.specs.Prelude.{ℕ, ◌≡◌, ◌==◌, true, false, List, [], ◌∷◌, Option, Some, None, MatchOption, map, if◌then◌else◌}
use Rattle.std.specs.Borrow.{Bor}
use Rattle.cwr_files.specs.Contents.{transactions_of}
use Rattle.cwr_files.specs.Transaction.{first_work, submitter_number}
use Rattle.cwr_files.specs.declared.transmission.Transaction.{Transaction}
use Rattle.cwr_files.specs.declared.transmission.Transmission.{Transmission}
use Rattle.cwr_records.specs.declared.work.TransactionKind.{TransactionKind}
use Rattle.share_rules.specs.Fault.{fault_of}
use Rattle.share_rules.specs.declared.office.Office.{Office}
use Rattle.work_ids.specs.Blanks.{fill, without_trailing_blanks}
use Rattle.works_core.specs.Numbered.{JudgedTransmission, has_number}
use Rattle.works_core.specs.Verdicts.{verdicts_from, behind}
use Rattle.works_core.specs.declared.judged.Judged.{Judged}
use Rattle.works_core.specs.declared.judged.Judged.TheVariants.{Clean, Faulty}
use Rattle.works_core.specs.declared.verdict.Verdict.{Verdict}

-- a transaction's work number, filled with blanks to 14 bytes
abbrev pub filled_number : Transaction → List ℕ
filled_number transaction = fill 14 (without_trailing_blanks (submitter_number (first_work transaction.records)))

-- a transaction with its least fault, or clean with its work number
abbrev pub judged_by : TransactionKind → List ℕ → Option ℕ → Judged
judged_by kind number (Some fault) = Faulty fault
judged_by kind number None = Clean kind number

-- what an office judges of a transaction (profile)
abbrev pub judged : Office → Transaction → Judged
judged office transaction = judged_by transaction.kind (filled_number transaction) (fault_of office transaction)

-- what an office judges of the transactions of a transmission, in the order of the file
unfoldable pub judged_in : Office → Transmission → List Judged
judged_in office transmission = map (judged office) (transactions_of transmission)

-- a transmission under its number
abbrev pub NumberedTransmission : Type 0
NumberedTransmission = ℕ × Transmission

-- the sender's line: what is judged of each of its transmissions, in the order in which they are given
abbrev pub line_of : Office → List NumberedTransmission → List JudgedTransmission
line_of office sent = map (λ s. record { number = s.0; judged = judged_in office s.1 }) sent

-- the verdicts of the transmission with a number, where some transactions stand before a line: behind these and those of the transmissions before it
abbrev pub verdicts_behind : List Judged → ℕ → List JudgedTransmission → List Verdict
verdicts_behind past number [] = []
verdicts_behind past number (x ∷ line) = if x.number == number then verdicts_from past x.judged else verdicts_behind (behind past x.judged) number line

-- the verdicts of the transactions of the transmission with a number, behind all transactions of the transmissions before it (profile)
unfoldable pub verdicts_at : List JudgedTransmission → ℕ → List Verdict
verdicts_at line number = verdicts_behind [] number line

-- the verdicts of a transmission are shown exactly where it is in the line
abbrev pub Shows : List JudgedTransmission → ℕ → Option (Bor (List Verdict)) → Type 0
Shows line n shown = MatchOption shown (has_number n line ≡ false) (λ verdicts. (has_number n line ≡ true) × (verdicts.now ≡ verdicts_at line n))
