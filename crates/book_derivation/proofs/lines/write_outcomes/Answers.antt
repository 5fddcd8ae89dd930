use Rattle.std.proofs.Common.{◌≡◌, IsPermutation, List, Vec, flat_map, map, subst, rules}
use Rattle.std.specs.declared.alloc.Global.{Global}
use Rattle.sqlite.specs.Held.{state}
use Rattle.sqlite_value.specs.Order.{Row}
use Rattle.society_rows.specs.Rows.{front_values, recording_values, verdict_values, version_values}
use Rattle.society_rows.specs.declared.recordings.RecordingRow.{RecordingRow}
use Rattle.society_rows.specs.declared.verdicts.VerdictRow.{VerdictRow}
use Rattle.society_rows.specs.declared.versions.VersionRow.{VersionRow}
use Rattle.society_arrivals.specs.Arriving.{PutsOutcomes}
use Rattle.society_arrivals.specs.Outcomes.{settled}
use Rattle.society_arrivals.specs.Runs.{settled_recordings, settled_verdict, settled_version}
use Rattle.society_arrivals.specs.LineTables.{PutsLine}
use Rattle.society_book.specs.Steps.{Never}
use Rattle.book_audit.proofs.lemmas.lines.WantedRows.{the_ok}
use Rattle.book_derivation.proofs.lemmas.Derivings.{derives_also}
use Rattle.book_derivation.proofs.lemmas.LineWrites.{line_ordered}
use Rattle.book_derivation.proofs.lines.write_outcomes.Goals as goal

pub returns : goal.returns
returns g c = record {
  derives = record {
    same_reference = search rules;
    says =
        let front = front_values c.args.front.now in
        let s = c.args.front.now.sender.now in
        let outcomes = c.args.outcomes.now in
        let judged = map verdict_values c.as_slice.result.now in
        let told = map version_values c.as_slice-2.result.now in
        let named = map recording_values c.as_slice-3.result.now in
        let old = state g.S.Store c.args.tx.now.conn.now in
        let new = state g.S.Store c.write_rows.new.tx.conn.now in
        let all_judged = map (λ x. settled_verdict s (settled x)) outcomes in
        let all_told = flat_map (λ x. settled_version s (settled x)) outcomes in
        let all_named = flat_map (λ x. settled_recordings s (settled x)) outcomes in
        let judged_are : judged ≡ all_judged = rw c.as_slice.ensures.value (the_ok c.verdict_rows.result c.in_ok-verdicts.verdicts (λ (v : Vec VerdictRow Global). map verdict_values v.items ≡ all_judged) c.in_ok-verdicts.ensures.value c.verdict_rows.ensures) in
        let told_are : IsPermutation all_told told = rw c.as_slice-2.ensures.value (the_ok c.versions_by_key.result c.in_ok-versions.versions (λ (v : Vec VersionRow Global). IsPermutation all_told (map version_values v.items)) c.in_ok-versions.ensures.value c.versions_by_key.ensures) in
        let named_are : IsPermutation all_named named = rw c.as_slice-3.ensures.value (the_ok c.recordings_by_key.result c.in_ok-recordings.recordings (λ (v : Vec RecordingRow Global). IsPermutation all_named (map recording_values v.items)) c.in_ok-recordings.ensures.value c.recordings_by_key.ensures) in
        derives_also {X = Unit {0}} Never Never old new c.write_rows.result (λ before after _. PutsLine front judged told named before after) (λ before after _. PutsOutcomes front s outcomes before after) c.write_rows.ensures.derives.says
        (λ x own puts. subst (λ (l : List Row). PutsLine front l all_told all_named old.now.trees new.now.trees) judged_are (line_ordered front judged all_told told all_named named old.now.trees new.now.trees told_are named_are puts))
        (λ never. never);
  };
}
