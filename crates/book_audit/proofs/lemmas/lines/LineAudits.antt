-- What is derived of a sender's whole line, as the rows of a database have it.
use Rattle.std.proofs.Common.{◌≡◌, ◌∙◌, ℕ, pos, List, [], ◌∷◌, ap, ap₂, sym, subst, flat_map, map}
use Rattle.std.proofs.lemmas.List.Concat.{flat_map_single}
use Rattle.share_rules.specs.declared.office.Office.{Office}
use Rattle.sqlite_keyed.proofs.ListLemmas.{flat_map-map, map-map}
use Rattle.sqlite_trees.specs.Tree.{Trees}
use Rattle.sqlite_value.specs.declared.value.Value.TheVariants.{Int, Text}
use Rattle.sqlite_value.specs.Order.{Row}
use Rattle.sender_segments.specs.Ways.{AreRight}
use Rattle.society_core.specs.Book.{Book, ends_of, front}
use Rattle.society_book.specs.DerivedRows.{Telling, tells_recordings, tells_verdict, tells_version, told_by, told_to_front, works_to}
use Rattle.society_arrivals.specs.Outcomes.{settled}
use Rattle.society_arrivals.specs.Runs.{IsWhole, RunValue, Settled, behind_run, settled_recordings, settled_run, settled_verdict, settled_version}
use Rattle.society_arrivals.specs.declared.outcomes.Outcome.{Outcome}
use Rattle.society_book.proofs.lemmas.lines.LineRows.{at_front, placed_over}
use Rattle.society_arrivals.proofs.lemmas.RunLines.{IsSeen, run_behind, run_settled, sees_recordings, sees_verdict, sees_version}
use Rattle.society_rows.specs.Rows.{front_values}
use Rattle.society_rows.specs.declared.fronts.FrontRow.{FrontRow}
use Rattle.book_audit.specs.LineSteps.{SettlesLine}
use Rattle.book_audit.specs.Auditing.{HasLine, HasOutcomes, HasRun, HasTold}
use Rattle.works_core.specs.Verdicts.{works_in}
use Rattle.works_core.specs.Versions.{Placed, judged_of}

-- the same rows
has_as : (s : List ℕ) (one other : Row) (a d b e c f : List Row) (db : Trees) → one ≡ other → a ≡ d → b ≡ e → c ≡ f → HasTold s one a b c db → HasTold s other d e f db
has_as s one other a d b e c f db x y z w has =
    subst (λ (l : List Row). HasTold s other d e l db) w
    (subst (λ (l : List Row). HasTold s other d l c db) z
    (subst (λ (l : List Row). HasTold s other l b c db) y
    (subst (λ (r : Row). HasTold s r a b c db) x has)))

module _ (s : List ℕ) (run : RunValue) (front_row : FrontRow) (outcomes : List Outcome) (line : SettlesLine s run front_row outcomes) where
  verdicts_are : map (λ x. settled_verdict s (settled x)) outcomes ≡ map (settled_verdict s) (settled_run [] run.notes)
  verdicts_are = sym (map-map (settled_verdict s) settled outcomes) ∙ ap (map (settled_verdict s)) line.settled

  versions_are : flat_map (λ x. settled_version s (settled x)) outcomes ≡ flat_map (settled_version s) (settled_run [] run.notes)
  versions_are = sym (flat_map-map (settled_version s) settled outcomes) ∙ ap (flat_map (settled_version s)) line.settled

  recordings_are : flat_map (λ x. settled_recordings s (settled x)) outcomes ≡ flat_map (settled_recordings s) (settled_run [] run.notes)
  recordings_are = sym (flat_map-map (settled_recordings s) settled outcomes) ∙ ap (flat_map (settled_recordings s)) line.settled

  -- where outcomes settle a run, their rows are what it tells
  pub has_run : (db : Trees) → HasOutcomes front_row.sender.now (front_values front_row) outcomes db → HasRun s run db
  has_run db has = has_as s _ _ _ _ _ _ _ _ db line.row verdicts_are versions_are recordings_are (subst (λ (x : List ℕ). HasOutcomes x (front_values front_row) outcomes db) line.name has)

  -- and the other way
  pub run_has : (db : Trees) → HasRun s run db → HasOutcomes front_row.sender.now (front_values front_row) outcomes db
  run_has db has =
      subst (λ (x : List ℕ). HasOutcomes x (front_values front_row) outcomes db) (sym line.name)
      (has_as s _ _ _ _ _ _ _ _ db (sym line.row) (sym verdicts_are) (sym versions_are) (sym recordings_are) has)

module _ (o : Office) (b : Book) (s : List ℕ) (run : RunValue) (whole : IsWhole o b s run) (right : AreRight (ends_of b s)) where
  told_is : (tells : Telling) (tell : List ℕ → Settled → List Row) → IsSeen o tells tell → flat_map (tell s) (settled_run [] run.notes) ≡ told_to_front tells o b s
  told_is tells tell seen =
      sym (run_settled o tells tell seen s b right [] run.notes (sym whole.numbers) whole.each) ∙ ap (flat_map (told_by tells o b s)) whole.numbers

  works_are : works_in (judged_of (behind_run [] run.notes)) ≡ works_to o b s
  works_are =
      ap (λ (p : List Placed). works_in (judged_of p)) (run_behind o b s [] run.notes whole.each ∙ ap (placed_over o b s) whole.numbers ∙ sym (at_front o b s right))

  line_front : Text s ∷ Int (pos run.reached) ∷ Int (pos (works_in (judged_of (behind_run [] run.notes)))) ∷ [] ≡ Text s ∷ Int (pos (front b s)) ∷ Int (pos (works_to o b s)) ∷ []
  line_front = ap₂ (λ (f w : ℕ). Text s ∷ Int (pos f) ∷ Int (pos w) ∷ []) whole.reached works_are

  line_verdicts : map (settled_verdict s) (settled_run [] run.notes) ≡ told_to_front tells_verdict o b s
  line_verdicts = sym (flat_map_single (settled_verdict s) (settled_run [] run.notes)) ∙ told_is tells_verdict (λ q x. settled_verdict q x ∷ []) (sees_verdict o)

  -- what the transmissions of a whole line tell is what is derived of it
  pub has_line : (db : Trees) → HasRun s run db → HasLine o b s db
  has_line db = has_as s _ _ _ _ _ _ _ _ db line_front line_verdicts (told_is tells_version settled_version (sees_version o)) (told_is tells_recordings settled_recordings (sees_recordings o))

  -- and the other way
  pub line_has : (db : Trees) → HasLine o b s db → HasRun s run db
  line_has db =
      has_as s _ _ _ _ _ _ _ _ db (sym line_front) (sym line_verdicts) (sym (told_is tells_version settled_version (sees_version o))) (sym (told_is tells_recordings settled_recordings (sees_recordings o)))
