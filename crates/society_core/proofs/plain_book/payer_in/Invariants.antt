use Rattle.std.proofs.Common.{◌≡◌}
use Rattle.society_core.proofs.lemmas.Found.{first_in, or_later}
use Rattle.society_core.proofs.plain_book.payer_in.Given as goal

-- the first of all is the one found, or else the first of the rest
abbrev pub invariant-loop-pool : goal.invariant-loop-pool
invariant-loop-pool l = first_in l.key l.entries.entries ≡ or_later l.payer (first_in l.key l.pool-iterator)
