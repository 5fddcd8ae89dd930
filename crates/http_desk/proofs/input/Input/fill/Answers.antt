use Rattle.std.proofs.Common.{◌≡◌, [], arith, refl}
use Rattle.std.proofs.lemmas.Grind.{common_steps}
use Rattle.http_desk.proofs.lemmas.UpcomingLemmas.{ReadsOn-once, ReadsOn-same}
use Rattle.http_desk.proofs.input.Input.fill.Goals as goal

pub returns-then-not-is_empty-clause-reads : goal.returns-then-not-is_empty-clause-reads
returns-then-not-is_empty-clause-reads g c = ReadsOn-same _ _ _ _ _ _ _ refl refl c.args.reader.now.reads_fit

pub returns-clause-reads : goal.returns-clause-reads
returns-clause-reads g c = ReadsOn-once (λ bytes. bytes ≡ []) _ _ _ _ _ _ _ _ _ (grind (arith, common_steps)) c.read_more.ensures.reads c.read_more.ensures.one
