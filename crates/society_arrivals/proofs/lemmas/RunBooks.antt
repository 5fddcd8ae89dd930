-- What the tables have once a run is written behind a sender's line.
use Rattle.std.proofs.Common.{◌≡◌, ◌∙◌, ◌||◌, ℕ, pos, List, [], ◌∷◌, ap, ap₂, sym, arith, flat_map, bytes_eq}
use Rattle.std.proofs.lemmas.List.Concat.{flat_map_single}
use Rattle.share_rules.specs.declared.office.Office.{Office}
use Rattle.sqlite_trees.specs.Tree.{Trees}
use Rattle.sqlite_value.specs.declared.value.Value.TheVariants.{Int, Text}
use Rattle.sender_segments.specs.Ways.{AreRight}
use Rattle.society_core.specs.Book.{Book, ends_of, front, line}
use Rattle.society_core.proofs.lemmas.Books.{sound_order}
use Rattle.society_core.proofs.lemmas.GrowthLemmas.{line_stays, numbers_stay}
use Rattle.society_core.proofs.lemmas.LineNumbers.{whole_line}
use Rattle.society_arrivals.specs.Arriving.{GoesOnTo, SettlesRun}
use Rattle.society_book.specs.DerivedRows.{Telling, knows_sender, tells_recordings, tells_verdict, tells_version, told_by, line_at_front}
use Rattle.society_book.specs.Kept.{HoldsBook}
use Rattle.society_arrivals.specs.Runs.{RunValue, Settled, behind_run, numbers_of_run, settled_recordings, settled_run, settled_verdict, settled_version}
use Rattle.society_arrivals.specs.LineTables.{PutsLine}
use Rattle.society_book.proofs.lemmas.lines.LineRows.{at_front, placed_over}
use Rattle.society_arrivals.proofs.lemmas.RunLines.{IsSeen, run_behind, run_settled, sees_recordings, sees_verdict, sees_version}
use Rattle.society_arrivals.proofs.lemmas.RunTables.{IsLined, front_row, lined}
use Rattle.society_arrivals.proofs.lemmas.RunWrites.{puts_as}
use Rattle.works_core.specs.Line.{NumberedTransmission, line_of}
use Rattle.works_core.specs.Verdicts.{works_in}
use Rattle.works_core.specs.Versions.{Placed, judged_of, placed_line}
use Rattle.sqlite_value.specs.Order.{Row}

module _ (o : Office) (a b : Book) (s : List ℕ) (run : RunValue) (goes : GoesOnTo o a b s run) (before : AreRight (ends_of a s)) (after : AreRight (ends_of b s)) where
  -- up to the front of the first book the line is the same in both
  same_line : line_at_front o a s ≡ placed_over o b s (line a s)
  same_line =
      ap (λ (ts : List NumberedTransmission). placed_line (line_of o ts)) (sym (line_stays a b s (numbers_of_run run.notes) goes.goes.goes s))
      ∙ ap (placed_over o b s) (numbers_stay a b s (numbers_of_run run.notes) goes.goes.goes s (front a s) (omega arith) ∙ whole_line a s before)

  -- behind the run stands the line of the second
  new_line : behind_run (line_at_front o a s) run.notes ≡ line_at_front o b s
  new_line =
      ap (λ (past : List Placed). behind_run past run.notes) same_line
      ∙ run_behind o b s (line a s) run.notes goes.goes.each
      ∙ ap (placed_over o b s) (sym goes.goes.goes.grown)
      ∙ sym (at_front o b s after)

  told_by_run : (tells : Telling) (tell : List ℕ → Settled → List Row) → IsSeen o tells tell → flat_map (tell s) (settled_run (line_at_front o a s) run.notes) ≡ flat_map (told_by tells o b s) (numbers_of_run run.notes)
  told_by_run tells tell seen =
      ap (λ (past : List Placed). flat_map (tell s) (settled_run past run.notes)) same_line
      ∙ sym (run_settled o tells tell seen s b after (line a s) run.notes goes.goes.goes.grown goes.goes.each)

  -- what the run tells is what its transmissions tell in the second
  pub settles_line : (old new : Trees) → SettlesRun s (line_at_front o a s) run old new
      → PutsLine (front_row o b s) (flat_map (told_by tells_verdict o b s) (numbers_of_run run.notes)) (flat_map (told_by tells_version o b s) (numbers_of_run run.notes)) (flat_map (told_by tells_recordings o b s) (numbers_of_run run.notes)) old new
  settles_line old new puts =
      puts_as _ _ _ _ _ _ _ _ old new
      (ap₂ (λ (f w : ℕ). Text s ∷ Int (pos f) ∷ Int (pos w) ∷ []) goes.reached (ap (λ (past : List Placed). works_in (judged_of past)) new_line))
      (sym (flat_map_single (settled_verdict s) (settled_run (line_at_front o a s) run.notes)) ∙ told_by_run tells_verdict (λ q x. settled_verdict q x ∷ []) (sees_verdict o))
      (told_by_run tells_version settled_version (sees_version o))
      (told_by_run tells_recordings settled_recordings (sees_recordings o))
      puts

-- with the run written the tables have what is derived of the second book
pub lined_by : (o : Office) (a b : Book) (s : List ℕ) (run : RunValue) → GoesOnTo o a b s run → AreRight (ends_of b s) → ((t : List ℕ) → knows_sender b t ≡ (bytes_eq s t || knows_sender a t))
    → (old new : Trees) → HoldsBook o a old → SettlesRun s (line_at_front o a s) run old new → IsLined o a b new
lined_by o a b s run goes after knows old new holds settles =
    lined o a b s (numbers_of_run run.notes) goes.goes.goes knows old new holds (settles_line o a b s run goes (sound_order a holds.sound s).right after old new settles)
