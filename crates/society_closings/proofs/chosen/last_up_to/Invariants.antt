use Rattle.std.proofs.Common.{◌≡◌, option_map, take}
use Rattle.society_book.specs.Shown.{version_shown}
use Rattle.society_closings.proofs.lemmas.cuts.CutRows.{row_up_to}
use Rattle.society_closings.proofs.chosen.last_up_to.Given as goal

-- the last one up to the cut of those so far
abbrev pub invariant-loop-row : goal.invariant-loop-row
invariant-loop-row l = l.last ≡ option_map version_shown (row_up_to l.cut (take l.row-index l.rows))
