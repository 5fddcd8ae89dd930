use Rattle.std.proofs.Common.{take}
use Rattle.book_audit.specs.Judging.{HasLasts}
use Rattle.book_audit.proofs.stated.map_of_lasts.Given as goal

-- the map has exactly those so far
abbrev pub invariant-loop-key : goal.invariant-loop-key
invariant-loop-key l = HasLasts (take l.key-index l.lasts) l.ends
