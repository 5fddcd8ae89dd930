use Rattle.work_ids.proofs.lemmas.Accounts.{ipi_back, party_back}
use Rattle.work_ids.proofs.account.Account.pieces.Goals as goal

pub returns-in-Ipi-clause-back : goal.returns-in-Ipi-clause-back
returns-in-Ipi-clause-back c = rw c.in-Ipi.is (λ spelled. ipi_back c.in-Ipi.name c.as_bytes.ensures.number)

pub returns-in-Party-clause-back : goal.returns-in-Party-clause-back
returns-in-Party-clause-back c =
    rw c.in-Party.is (λ spelled. party_back c.in-Party.sender c.in-Party.number c.as_bytes-in-Party.ensures.key c.as_bytes-in-Party-2.ensures.number spelled)
