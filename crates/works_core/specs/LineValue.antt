-- A sender's line as clauses see it.
use Rattle.std.specs.Prelude.{List}
use Rattle.share_rules.specs.declared.office.Office.{Office}
use Rattle.works_core.specs.Numbered.{JudgedTransmission}

-- an office, and what it judged of each transmission of a sender, under its number, in the order of the numbers
pub record SenderLineValue : Type 0 where
  pub office : Office
  pub transmissions : List JudgedTransmission
