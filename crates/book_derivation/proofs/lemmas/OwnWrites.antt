-- What a sender's whole line tells, as it is written: that is what is derived of it.
use Rattle.std.proofs.Common.{◌≡◌, ◌∙◌, ℕ, pos, List, [], ◌∷◌, ap, ap₂, sym, subst, flat_map, map}
use Rattle.std.proofs.lemmas.List.Concat.{flat_map_single}
use Rattle.share_rules.specs.declared.office.Office.{Office}
use Rattle.sqlite_keyed.proofs.ListLemmas.{flat_map-map, map-map}
use Rattle.sqlite_trees.specs.Tree.{Trees}
use Rattle.sqlite_value.specs.declared.value.Value.TheVariants.{Int, Text}
use Rattle.sqlite_value.specs.Order.{Row}
use Rattle.sender_segments.specs.Ways.{AreRight}
use Rattle.society_core.specs.Book.{Book, ends_of}
use Rattle.society_rows.specs.Rows.{front_values}
use Rattle.society_rows.specs.declared.fronts.FrontRow.{FrontRow}
use Rattle.society_arrivals.specs.Arriving.{PutsOutcomes, SettlesRun}
use Rattle.society_book.specs.DerivedRows.{Telling, tells_recordings, tells_verdict, tells_version, told_by, told_to_front, works_to}
use Rattle.society_arrivals.specs.Going.{IsWholeIn}
use Rattle.society_arrivals.specs.Outcomes.{settled}
use Rattle.society_arrivals.specs.Runs.{IsWhole, RunValue, Settled, behind_run, settled_recordings, settled_run, settled_verdict, settled_version}
use Rattle.society_arrivals.specs.declared.outcomes.Outcome.{Outcome}
use Rattle.society_book.proofs.lemmas.lines.LineRows.{at_front, placed_over}
use Rattle.society_arrivals.proofs.lemmas.RunLines.{IsSeen, run_behind, run_settled, sees_recordings, sees_verdict, sees_version}
use Rattle.society_arrivals.proofs.lemmas.RunWrites.{puts_as}
use Rattle.book_audit.specs.LineSteps.{SettlesLine}
use Rattle.book_derivation.specs.Lines.{PutsOwnLine, WritesLine}
use Rattle.works_core.specs.Verdicts.{works_in}
use Rattle.works_core.specs.Versions.{Placed, judged_of}

-- where outcomes settle a run, their rows are what it tells
pub puts_run : (s : List ℕ) (run : RunValue) (front_row : FrontRow) (outcomes : List Outcome) → SettlesLine s run front_row outcomes
    → (old new : Trees) → PutsOutcomes (front_values front_row) front_row.sender.now outcomes old new → SettlesRun s [] run old new
puts_run s run front_row outcomes line old new puts =
    puts_as _ _ _ _ _ _ _ _ old new line.row
    (sym (map-map (settled_verdict s) settled outcomes) ∙ ap (map (settled_verdict s)) line.settled)
    (sym (flat_map-map (settled_version s) settled outcomes) ∙ ap (flat_map (settled_version s)) line.settled)
    (sym (flat_map-map (settled_recordings s) settled outcomes) ∙ ap (flat_map (settled_recordings s)) line.settled)
    (subst (λ (x : List ℕ). PutsOutcomes (front_values front_row) x outcomes old new) line.name puts)

module _ (o : Office) (b : Book) (s : List ℕ) (run : RunValue) (whole : IsWhole o b s run) (right : AreRight (ends_of b s)) where
  told_is : (tells : Telling) (tell : List ℕ → Settled → List Row) → IsSeen o tells tell → flat_map (tell s) (settled_run [] run.notes) ≡ told_to_front tells o b s
  told_is tells tell seen =
      sym (run_settled o tells tell seen s b right [] run.notes (sym whole.numbers) whole.each) ∙ ap (flat_map (told_by tells o b s)) whole.numbers

  works_are : works_in (judged_of (behind_run [] run.notes)) ≡ works_to o b s
  works_are =
      ap (λ (p : List Placed). works_in (judged_of p)) (run_behind o b s [] run.notes whole.each ∙ ap (placed_over o b s) whole.numbers ∙ sym (at_front o b s right))

  -- what the transmissions of a whole line tell is what is derived of it
  pub puts_own : (old new : Trees) → SettlesRun s [] run old new → PutsOwnLine o b s old new
  puts_own old new puts =
      puts_as _ _ _ _ _ _ _ _ old new
      (ap₂ (λ (f w : ℕ). Text s ∷ Int (pos f) ∷ Int (pos w) ∷ []) whole.reached works_are)
      (sym (flat_map_single (settled_verdict s) (settled_run [] run.notes)) ∙ told_is tells_verdict (λ q x. settled_verdict q x ∷ []) (sees_verdict o))
      (told_is tells_version settled_version (sees_version o))
      (told_is tells_recordings settled_recordings (sees_recordings o))
      puts

-- what is written of a run that is a sender's whole line
pub writes_line : (o : Office) (s : List ℕ) (run : RunValue) (front_row : FrontRow) (outcomes : List Outcome) → SettlesLine s run front_row outcomes
    → (old mid new : Trees) → mid ≡ old → IsWholeIn o s old run → PutsOutcomes (front_values front_row) front_row.sender.now outcomes mid new → WritesLine o s old new
writes_line o s run front_row outcomes line old mid new same whole puts =
    let on : PutsOutcomes (front_values front_row) front_row.sender.now outcomes old new = subst (λ (db : Trees). PutsOutcomes (front_values front_row) front_row.sender.now outcomes db new) same puts in
    record {
      others = on.others;
      puts = λ b sent order. puts_own o b s run (whole b sent order) order.right old new (puts_run s run front_row outcomes line old new on);
    }
