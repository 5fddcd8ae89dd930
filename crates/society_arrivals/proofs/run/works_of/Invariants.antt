use Rattle.std.proofs.Common.{◌≡◌, ◌++◌, flat_map, drop}
use Rattle.society_arrivals.specs.Runs.{clean_works}
use Rattle.society_arrivals.proofs.run.works_of.Given as goal

abbrev pub invariant-loop-noted : goal.invariant-loop-noted
invariant-loop-noted l = l.works.items ++ flat_map (λ x. clean_works x.judged) (drop l.noted-index l.run) ≡ flat_map (λ x. clean_works x.judged) l.run
