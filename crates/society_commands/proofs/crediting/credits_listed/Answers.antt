use Rattle.std.proofs.Common.{Bool, Result, rules}
use Rattle.std.specs.Prelude.{IfOk}
use Rattle.http_desk.specs.declared.fault.DeskFault.{DeskFault}
use Rattle.sqlite_trees.specs.Tree.{Trees}
use Rattle.credit_listing.specs.Answered.{EndsListing}
use Rattle.sqlite.specs.Held.{state}
use Rattle.society_commands.proofs.lemmas.CreditLemmas.{kept_by, listed_by}
use Rattle.society_commands.specs.Connections.{ShowsStill, ListsOver}
use Rattle.society_commands.proofs.crediting.credits_listed.Goals as goal

pub returns-clause-kept : goal.returns-clause-kept
returns-clause-kept g c =
    let mid = state g.M.Store c.list_credits-listed.new.tx.conn.now in
    let new = state g.M.Store c.rollback.new.self.0 in
    let done : ShowsStill (state g.M.Store c.args.conn.now) new =
    kept_by g.M.Store c.args.conn.now mid new c.list_credits-listed.result _ (rw (c.transaction-tx.ensures.begun, c.conn.view_is) at c.list_credits-listed.ensures.looks.says) c.rollback.ensures.undone c.rollback.ensures.survives in
    search rules

pub returns-clause-listed : goal.returns-clause-listed
returns-clause-listed g c =
    let mid = state g.M.Store c.list_credits-listed.new.tx.conn.now in
    let new = state g.M.Store c.rollback.new.self.0 in
    let Lists : Trees → Result Bool DeskFault → Type 0 =
    EndsListing c.args.office.now g.R.Read.remaining g.W.Write.contents g.E.Write.contents c.args.reader.now c.list_credits-listed.new.reader c.args.out.now c.list_credits-listed.new.out c.args.err.now c.list_credits-listed.new.err in
    let done : IfOk c.list_credits-listed.result (λ listed. ListsOver (state g.M.Store c.args.conn.now) new (λ db. Lists db listed)) =
    listed_by g.M.Store c.args.conn.now mid new c.list_credits-listed.result Lists (rw (c.transaction-tx.ensures.begun, c.conn.view_is) at c.list_credits-listed.ensures.looks.says) c.rollback.ensures.survives in
    search rules
