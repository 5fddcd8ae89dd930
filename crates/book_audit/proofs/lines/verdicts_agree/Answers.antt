use Rattle.std.proofs.Common.{◌≡◌, Vec, map, refl}
use Rattle.std.specs.declared.alloc.Global.{Global}
use Rattle.sqlite.specs.Held.{state}
use Rattle.sqlite_keyed.proofs.ListLemmas.{IsPermutation-same}
use Rattle.society_rows.specs.Layout as layout
use Rattle.society_rows.specs.Rows.{verdict_values}
use Rattle.society_rows.specs.declared.verdicts.VerdictRow.{VerdictRow}
use Rattle.society_arrivals.specs.Outcomes.{settled}
use Rattle.society_arrivals.specs.Runs.{settled_verdict}
use Rattle.book_audit.proofs.lemmas.lines.WantedRows.{exact_rows, in_some_order, the_ok}
use Rattle.book_audit.proofs.lines.verdicts_agree.Goals as goal

pub returns-clause-examined : goal.returns-clause-examined
returns-clause-examined g c =
    let s = c.args.sender.now in
    let wanted = c.in_ok-wanted.wanted.items in
    let rows = map (λ x. settled_verdict s (settled x)) c.args.outcomes.now in
    in_some_order layout.verdicts s (map verdict_values wanted) rows (state g.S.Store c.args.tx.now.conn.now) (state g.S.Store c.rows_agree.new.tx.conn.now) c.rows_agree.result
    (IsPermutation-same (map verdict_values wanted) rows (the_ok c.verdict_rows.result c.in_ok-wanted.wanted (λ (v : Vec VerdictRow Global). map verdict_values v.items ≡ rows) c.in_ok-wanted.ensures.value c.verdict_rows.ensures))
    (c.rows_agree.ensures.examined layout.verdicts s 3 (λ db found lists. lists) (exact_rows verdict_values (λ row. (refl, (refl, (refl, (refl, (refl, (refl, tt))))))) wanted))
