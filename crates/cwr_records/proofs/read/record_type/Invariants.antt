use Rattle.std.proofs.Common.{◌≡◌, drop}
use Rattle.cwr_records.specs.Records.{first_type_of, type_of}
use Rattle.cwr_records.proofs.read.record_type.Given as goal

abbrev pub invariant-loop-letters : goal.invariant-loop-letters
invariant-loop-letters l = first_type_of (drop l.letters-index l.letters-items) l.code ≡ type_of l.code
