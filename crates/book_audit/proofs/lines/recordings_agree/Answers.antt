use Rattle.std.proofs.Common.{IsPermutation, Vec, flat_map, map, refl}
use Rattle.std.specs.declared.alloc.Global.{Global}
use Rattle.std.proofs.lemmas.List.Sorted.{IsPermutation-sym}
use Rattle.sqlite.specs.Held.{state}
use Rattle.society_rows.specs.Layout as layout
use Rattle.society_rows.specs.Rows.{recording_values}
use Rattle.society_rows.specs.declared.recordings.RecordingRow.{RecordingRow}
use Rattle.society_arrivals.specs.Outcomes.{settled}
use Rattle.society_arrivals.specs.Runs.{settled_recordings}
use Rattle.book_audit.proofs.lemmas.lines.WantedRows.{exact_rows, in_some_order, the_ok}
use Rattle.book_audit.proofs.lines.recordings_agree.Goals as goal

pub returns-clause-examined : goal.returns-clause-examined
returns-clause-examined g c =
    let s = c.args.sender.now in
    let wanted = c.in_ok-wanted.wanted.items in
    let rows = flat_map (λ x. settled_recordings s (settled x)) c.args.outcomes.now in
    in_some_order layout.recordings s (map recording_values wanted) rows (state g.S.Store c.args.tx.now.conn.now) (state g.S.Store c.rows_agree.new.tx.conn.now) c.rows_agree.result
    (IsPermutation-sym rows (map recording_values wanted) (the_ok c.recordings_by_key.result c.in_ok-wanted.wanted (λ (v : Vec RecordingRow Global). IsPermutation rows (map recording_values v.items)) c.in_ok-wanted.ensures.value c.recordings_by_key.ensures))
    (c.rows_agree.ensures.examined layout.recordings s 4 (λ db found lists. lists) (exact_rows recording_values (λ row. (refl, (refl, (refl, (refl, tt))))) wanted))
