use Rattle.std.proofs.Common.{◌≡◌, drop}
use Rattle.std.specs.List.{slice_get, flat_map}
use Rattle.cwr_files.specs.Contents.{transactions_of}
use Rattle.cwr_files.proofs.transmission.Transmission.transaction.Given as goal

-- what is looked for is as far behind the groups that are passed
abbrev pub invariant-loop-group : goal.invariant-loop-group
invariant-loop-group l = slice_get (transactions_of l.self) l.place ≡ slice_get (flat_map (λ g. g.transactions) (drop l.group-index l.group-items)) l.left
