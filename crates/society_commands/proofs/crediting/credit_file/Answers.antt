use Rattle.std.proofs.Common.{inl, inr, refl, subst, ℕ, sym}
use Rattle.sqlite.specs.Files.{file_state}
use Rattle.society_commands.specs.Connections.{CreditsOver, ListsEach}
use Rattle.society_commands.proofs.lemmas.CreditLemmas.{over_any}
use Rattle.society_commands.proofs.crediting.credit_file.Goals as goal

pub returns-in-Ok-clause-credited : goal.returns-in-Ok-clause-credited
returns-in-Ok-clause-credited g c = λ zero.
    (c.in-Ok.connection, c.in-Ok.ensures.opened, (c.credit_database-status.result.1, subst (λ (n : ℕ). CreditsOver c.args.office.now (file_state c.in-Ok.connection) (file_state c.credit_database-status.result.1) n (ListsEach _ g.E.Write.contents c.args.office.now g.R.Read.remaining g.W.Write.contents c.args.reader.now c.credit_database-status.new.reader c.args.out.now c.credit_database-status.new.out)) zero c.credit_database-status.ensures.credits, refl))

pub returns-in-Ok-clause-stopped : goal.returns-in-Ok-clause-stopped
returns-in-Ok-clause-stopped g c = λ one.
    let over = over_any c.args.office.now (file_state c.in-Ok.connection) (file_state c.credit_database-status.result.1) _ (subst (λ (n : ℕ). CreditsOver c.args.office.now (file_state c.in-Ok.connection) (file_state c.credit_database-status.result.1) n (ListsEach _ g.E.Write.contents c.args.office.now g.R.Read.remaining g.W.Write.contents c.args.reader.now c.credit_database-status.new.reader c.args.out.now c.credit_database-status.new.out)) one c.credit_database-status.ensures.credits) in
    inr (c.open_there.new.err, c.in-Ok.ensures.warned, c.in-Ok.connection, c.in-Ok.ensures.opened, (c.credit_database-status.result.1, over, c.credit_database-status.ensures.stopped one, refl))

pub returns-in-Err-clause-stopped : goal.returns-in-Err-clause-stopped
returns-in-Err-clause-stopped g c = λ one. inl (c.in-Err.fault, c.in-Err.ensures.refused, rw (sym c.in-Err.ensures.unwarned) c.tell.ensures.told, refl, refl)

pub returns-in-Ok-clause-quiet : goal.returns-in-Ok-clause-quiet
returns-in-Ok-clause-quiet g c = λ zero. (c.open_there.new.err, c.in-Ok.ensures.warned, c.credit_database-status.ensures.quiet zero)
