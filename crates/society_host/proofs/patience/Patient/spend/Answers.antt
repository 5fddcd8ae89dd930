use Rattle.std.specs.Duration.{as_nanos}
use Rattle.society_host.proofs.patience.Patient.spend.Goals.{in-Ok, in-Err}
use Rattle.society_host.proofs.patience.Patient.spend.Goals as goal

pub returns-clause-waits : goal.returns-clause-waits
returns-clause-waits g c = record {
  patience = c.spend.ensures.patience;
  moved =
      elim c.match-outcome.branch [
        | in-Ok w ↦ rw w.in-Ok.is (rw w.moved-is at c.spend.ensures.moved)
        | in-Err w ↦ rw w.in-Err.is (rw w.moved-is at c.spend.ensures.moved)
      ];
  waited = (as_nanos c.since-waited.result, c.spend.ensures.waited);
}
