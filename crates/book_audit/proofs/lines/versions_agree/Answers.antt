use Rattle.std.proofs.Common.{IsPermutation, Vec, flat_map, map, refl}
use Rattle.std.specs.declared.alloc.Global.{Global}
use Rattle.std.proofs.lemmas.List.Sorted.{IsPermutation-sym}
use Rattle.sqlite.specs.Held.{state}
use Rattle.society_rows.specs.Layout as layout
use Rattle.society_rows.specs.Rows.{version_values}
use Rattle.society_rows.specs.declared.versions.VersionRow.{VersionRow}
use Rattle.society_arrivals.specs.Outcomes.{settled}
use Rattle.society_arrivals.specs.Runs.{settled_version}
use Rattle.book_audit.proofs.lemmas.lines.WantedRows.{exact_rows, in_some_order, the_ok}
use Rattle.book_audit.proofs.lines.versions_agree.Goals as goal

pub returns-clause-examined : goal.returns-clause-examined
returns-clause-examined g c =
    let s = c.args.sender.now in
    let wanted = c.in_ok-wanted.wanted.items in
    let rows = flat_map (λ x. settled_version s (settled x)) c.args.outcomes.now in
    in_some_order layout.versions s (map version_values wanted) rows (state g.S.Store c.args.tx.now.conn.now) (state g.S.Store c.rows_agree.new.tx.conn.now) c.rows_agree.result
    (IsPermutation-sym rows (map version_values wanted) (the_ok c.versions_by_key.result c.in_ok-wanted.wanted (λ (v : Vec VersionRow Global). IsPermutation rows (map version_values v.items)) c.in_ok-wanted.ensures.value c.versions_by_key.ensures))
    (c.rows_agree.ensures.examined layout.versions s 3 (λ db found lists. lists) (exact_rows version_values (λ row. (refl, (refl, (refl, (refl, (refl, (refl, tt))))))) wanted))
