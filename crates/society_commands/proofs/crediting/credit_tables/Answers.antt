use Rattle.std.proofs.Common.{Bool, inl, inr, refl, rules, subst}
use Rattle.sqlite.specs.Held.{state}
use Rattle.society_commands.proofs.lemmas.CreditLemmas.{kept_still}
use Rattle.credit_listing.specs.Answered.{ListsCredits}
use Rattle.society_commands.proofs.crediting.credit_tables.Goals as goal

pub returns-in_default-clause-kept : goal.returns-in_default-clause-kept
returns-in_default-clause-kept g c = kept_still (state g.M.Store c.args.conn.now) c.see_last_commit.ensures.settled

pub returns-in-Ok-Ok-clause-listed : goal.returns-in-Ok-Ok-clause-listed
returns-in-Ok-Ok-clause-listed g c = λ zero clean.
    let db = (state g.M.Store c.args.conn.now).now.trees in
    let Lists : Bool → Type 0 =
    λ all. ListsCredits c.args.office.now g.R.Read.remaining g.W.Write.contents g.E.Write.contents c.args.reader.now c.credits_listed.new.reader c.args.out.now c.credits_listed.new.out c.args.err.now c.credits_listed.new.err db all in
    let listed = rw c.in-Ok-Ok.field-0-is at c.in-Ok-Ok.ensures.listed in
    (c.args.err.now, c.credits_listed.new.err, subst Lists (c.status_of.ensures.all zero) (listed clean c.in-Layout.ensures.found))

pub returns-in-Ok-Ok-clause-stopped : goal.returns-in-Ok-Ok-clause-stopped
returns-in-Ok-Ok-clause-stopped g c = λ one.
    let db = (state g.M.Store c.args.conn.now).now.trees in
    let Lists : Bool → Type 0 =
    λ all. ListsCredits c.args.office.now g.R.Read.remaining g.W.Write.contents g.E.Write.contents c.args.reader.now c.credits_listed.new.reader c.args.out.now c.credits_listed.new.out c.args.err.now c.credits_listed.new.err db all in
    let listed = rw c.in-Ok-Ok.field-0-is at c.in-Ok-Ok.ensures.listed in
    inr (inr (λ clean. inl (subst Lists (c.status_of.ensures.some one) (listed clean c.in-Layout.ensures.found))))

pub returns-in-Ok-Err-clause-stopped : goal.returns-in-Ok-Err-clause-stopped
returns-in-Ok-Err-clause-stopped g c = λ one.
    let listed = rw c.in-Ok-Err.field-0-is at c.in-Ok-Err.ensures.listed in
    inr (inr (λ clean. inr (c.in-Ok-Err.fault, c.credits_listed.new.err, listed clean c.in-Layout.ensures.found, c.tell-in-Ok-Err.ensures.told)))

pub returns-in-Err-clause-stopped : goal.returns-in-Err-clause-stopped
returns-in-Err-clause-stopped g c = λ one. inr (inl (c.in-Err.fault, c.credits_listed.new.err, rw c.from.ensures at c.tell-in-Err.ensures.told))

pub returns-in_default-clause-stopped : goal.returns-in_default-clause-stopped
returns-in_default-clause-stopped g c = λ one. inl ((λ clean. (c.layout_found.result, c.layout_found.ensures.found, search rules)), refl, refl, c.tell.ensures.told)
