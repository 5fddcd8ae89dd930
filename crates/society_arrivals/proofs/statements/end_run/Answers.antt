use Rattle.std.proofs.Common.{◌≡◌, ◌+◌, ◌++◌, ◌∷◌, [], IsPermutation, ℕ, ℤ, ap, arith, pos, subst, suc, rules}
use Rattle.sqlite.specs.Held.{state}
use Rattle.sender_segments.specs.Ways.{end_stated}
use Rattle.society_core.proofs.lemmas.Stores.{sound_stated}
use Rattle.society_core.specs.Ends.{place_stated}
use Rattle.society_core.specs.Keys.{segment_key}
use Rattle.society_rows.specs.Layout as layout
use Rattle.society_rows.specs.SegmentColumns.{segment_column}
use Rattle.society_rows.specs.Stored.{rows_in}
use Rattle.sqlite_value.specs.Order.{Row}
use Rattle.sqlite_value.specs.declared.value.Value.TheVariants.{Int, Text}
use Rattle.society_book.specs.BookRows.{end_row}
use Rattle.society_arrivals.proofs.lemmas.ArrivedRuns.{ended_order}
use Rattle.society_book.proofs.lemmas.lines.KnownSenders.{knows_stated}
use Rattle.society_arrivals.proofs.lemmas.RunBooks.{lined_by}
use Rattle.society_arrivals.proofs.lemmas.RunTables.{end_added}
use Rattle.society_book.proofs.lemmas.together.StepLemmas.{does_of, does_then}
use Rattle.society_arrivals.proofs.statements.end_run.Goals as goal

-- the column of a year
year_column : (year : ℕ) → pos year ≡ segment_column (year + 1)
year_column year = let next : suc year ≡ year + 1 = omega arith in ap segment_column next

pub returns : goal.returns
returns g c = record {
  does = record {
    same_reference = search rules;
    says =
        let s = c.args.sender.now in
        let stated = c.args.end.now in
        let run = c.args.run.now in
        let old = state g.S.Store c.args.tx.now.conn.now in
        let mid = state g.S.Store c.put_run.new.tx.conn.now in
        let new = state g.S.Store c.add.new.tx.conn.now in
        does_then old mid new tt c.add.result _ _ _ c.in_ok-put_run.ensures.does.says
        (rw (c.as_bytes.ensures.bytes, c.segment.ensures, c.last.ensures.value, c.from.ensures, c.next.ensures) at (does_of mid new c.add.result _ c.add.ensures.written.says (λ before after adds. adds.layout)))
        (λ y puts adds o b holds at may goes.
        let row_is : Text s ∷ Int (segment_column (place_stated stated)) ∷ Int (pos stated.last) ∷ Int (pos stated.next) ∷ [] ≡ end_row (segment_key s (place_stated stated)) (end_stated stated) =
        ap (λ (n : ℤ). Text s ∷ Int (segment_column (place_stated stated)) ∷ Int (pos stated.last) ∷ Int n ∷ []) (year_column stated.next) in
        let sound = sound_stated b s stated holds.sound may.free may.key may.right may.above in
        let is = lined_by o b _ s run goes (ended_order b s stated holds.sound may s).right (knows_stated b s (place_stated stated) (end_stated stated)) old.now.trees mid.now.trees holds (puts o b holds at) in
        end_added o b s (place_stated stated) (end_stated stated) may.free mid.now.trees new.now.trees is sound
        (subst (λ (r : Row). IsPermutation ((r ∷ []) ++ rows_in layout.segment_ends mid.now.trees) (rows_in layout.segment_ends new.now.trees)) row_is adds.rows) adds.others);
  };
}
