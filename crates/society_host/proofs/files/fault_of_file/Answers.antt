use Rattle.std.proofs.Common.{inr, rules}
use Rattle.society_host.proofs.lemmas.ExaminedLemmas.{front_held}
use Rattle.society_host.proofs.files.fault_of_file.Goals as goal

pub returns-in-Ok-read_at : goal.returns-in-Ok-read_at
returns-in-Ok-read_at g c = inr (_, c.fault_by_start.ensures, λ known. front_held _ _ c.in-Ok.len c.min.result (c.in-Ok-read_at.ensures.ok known) (search rules) c.min.ensures (c.in-Ok.ensures.ok known))
