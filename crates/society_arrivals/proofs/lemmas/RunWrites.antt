-- The rows of a run that are written in one transaction, table after table.
use Rattle.std.proofs.Common.{◌≡◌, ◌≢◌, ◌∙◌, ◌++◌, ℕ, ℤ, pos, [], ◌∷◌, List, true, ap, ap₂, flat_map, map, sym, subst, arith, IsPermutation}
use Rattle.std.specs.List.{AllByRecursion}
use Rattle.std.proofs.lemmas.List.Sorted.{IsPermutation-append_left, IsPermutation-trans}
use Rattle.sqlite.specs.Effect.{Database}
use Rattle.sqlite_schema.specs.declared.schema.Table.{Table}
use Rattle.sqlite_trees.specs.Tree.{Trees, rowid}
use Rattle.sqlite_trees.specs.View.{is_int}
use Rattle.sqlite_value.specs.Order.{Row}
use Rattle.society_rows.specs.Layout as layout
use Rattle.society_rows.specs.Layout.{all_tables, written_out}
use Rattle.society_rows.specs.Stored.{Adds, Puts, put_over, rows_in}
use Rattle.sqlite_keyed.proofs.ListLemmas.{flat_map-map, map-map}
use Rattle.sqlite_value.specs.declared.value.Value.TheVariants.{Int, Text}
use Rattle.society_arrivals.specs.Arriving.{SettlesRun}
use Rattle.society_arrivals.specs.Outcomes.{settled}
use Rattle.society_arrivals.specs.Runs.{RunValue, behind_run, settled_recordings, settled_run, settled_verdict, settled_version}
use Rattle.society_arrivals.specs.LineTables.{AddsTold, PutsLine}
use Rattle.society_arrivals.specs.declared.outcomes.Outcome.{Outcome}
use Rattle.works_core.specs.Verdicts.{works_in}
use Rattle.works_core.specs.Versions.{Placed, judged_of}
use Rattle.society_book.proofs.lemmas.rows_alike.KeptTables.{KeptBut, both_of, each_of, permuted_from, permuted_to, rows_kept, same_permutation}

abbrev pub KeptOfLines : Trees → Trees → Table → Type 0
KeptOfLines old new t = t.tree ≢ layout.fronts.tree → t.tree ≢ layout.verdicts.tree → t.tree ≢ layout.versions.tree → t.tree ≢ layout.recordings.tree → new t.tree ≡ old t.tree

abbrev pub KeptOfTold : Trees → Trees → Table → Type 0
KeptOfTold old new t = t.tree ≢ layout.verdicts.tree → t.tree ≢ layout.versions.tree → t.tree ≢ layout.recordings.tree → new t.tree ≡ old t.tree

-- versions that were added, and then recordings
pub tells_works : (told named : List Row) (old mid new : Database) → Adds layout.versions told old mid → Adds layout.recordings named mid new → AddsTold [] told named old.trees new.trees
unfolding all_tables written_out
tells_works told named old mid new first second =
    let early = each_of (KeptBut layout.versions old.trees mid.trees) first.others in
    let later = each_of (KeptBut layout.recordings mid.trees new.trees) second.others in
    record {
      verdicts = same_permutation (sym (rows_kept layout.verdicts old.trees new.trees (later.verdicts (λ e. omega (arith, e)) ∙ early.verdicts (λ e. omega (arith, e)))));
      versions = permuted_to (told ++ rows_in layout.versions old.trees) _ _ (rows_kept layout.versions mid.trees new.trees (later.versions (λ e. omega (arith, e)))) first.rows;
      recordings = permuted_from named _ _ _ (rows_kept layout.recordings old.trees mid.trees (early.recordings (λ e. omega (arith, e)))) second.rows;
      others = both_of (KeptBut layout.versions old.trees mid.trees) (KeptBut layout.recordings mid.trees new.trees) (KeptOfTold old.trees new.trees) all_tables (λ t p q x y z. q z ∙ p y) first.others second.others;
    }

-- verdicts that were added, and then those
pub tells_all : (judged told named : List Row) (old mid new : Database) → Adds layout.verdicts judged old mid → AddsTold [] told named mid.trees new.trees → AddsTold judged told named old.trees new.trees
unfolding all_tables written_out
tells_all judged told named old mid new first second =
    let early = each_of (KeptBut layout.verdicts old.trees mid.trees) first.others in
    record {
      verdicts = IsPermutation-trans (judged ++ rows_in layout.verdicts old.trees) (rows_in layout.verdicts mid.trees) (rows_in layout.verdicts new.trees) first.rows second.verdicts;
      versions = permuted_from told _ _ _ (rows_kept layout.versions old.trees mid.trees (early.versions (λ e. omega (arith, e)))) second.versions;
      recordings = permuted_from named _ _ _ (rows_kept layout.recordings old.trees mid.trees (early.recordings (λ e. omega (arith, e)))) second.recordings;
      others = both_of (KeptBut layout.verdicts old.trees mid.trees) (KeptOfTold mid.trees new.trees) (KeptOfTold old.trees new.trees) all_tables (λ t p q x y z. q x y z ∙ p x) first.others second.others;
    }

-- what is told of works, in any order
pub adds_ordered : (judged told told_too named named_too : List Row) (old new : Trees) → IsPermutation told told_too → IsPermutation named named_too → AddsTold judged told_too named_too old new → AddsTold judged told named old new
adds_ordered judged told told_too named named_too old new of_told of_named adds = record {
  verdicts = adds.verdicts;
  versions = IsPermutation-trans _ (told_too ++ rows_in layout.versions old) _ (IsPermutation-append_left (rows_in layout.versions old) told told_too of_told) adds.versions;
  recordings = IsPermutation-trans _ (named_too ++ rows_in layout.recordings old) _ (IsPermutation-append_left (rows_in layout.recordings old) named named_too of_named) adds.recordings;
  others = adds.others;
}

-- a front that was put, and then those
pub puts_line_by : (front : Row) (judged told named : List Row) (old mid new : Database) → Puts layout.fronts front old mid → AddsTold judged told named mid.trees new.trees → PutsLine front judged told named old.trees new.trees
unfolding all_tables written_out
puts_line_by front judged told named old mid new first second =
    let early = each_of (KeptBut layout.fronts old.trees mid.trees) first.others in
    let later = each_of (KeptOfTold mid.trees new.trees) second.others in
    let same_fronts = later.fronts (λ e. omega (arith, e)) (λ e. omega (arith, e)) (λ e. omega (arith, e)) in
    record {
      put = λ h. permuted_to (put_over front (rows_in layout.fronts old.trees)) _ _ (rows_kept layout.fronts mid.trees new.trees same_fronts) (first.rows h);
      numbered = λ h. subst (AllByRecursion (λ r. is_int (rowid r) ≡ true)) (sym same_fronts) (first.numbered h);
      verdicts = permuted_from judged _ _ _ (rows_kept layout.verdicts old.trees mid.trees (early.verdicts (λ e. omega (arith, e)))) second.verdicts;
      versions = permuted_from told _ _ _ (rows_kept layout.versions old.trees mid.trees (early.versions (λ e. omega (arith, e)))) second.versions;
      recordings = permuted_from named _ _ _ (rows_kept layout.recordings old.trees mid.trees (early.recordings (λ e. omega (arith, e)))) second.recordings;
      others = both_of (KeptBut layout.fronts old.trees mid.trees) (KeptOfTold mid.trees new.trees) (KeptOfLines old.trees new.trees) all_tables (λ t p q a x y z. q x y z ∙ p a) first.others second.others;
    }

-- the same rows
pub puts_as : (front front_too : Row) (a d b e c f : List Row) (old new : Trees) → front ≡ front_too → a ≡ d → b ≡ e → c ≡ f → PutsLine front a b c old new → PutsLine front_too d e f old new
puts_as front front_too a d b e c f old new x y z w puts =
    subst (λ (l : List Row). PutsLine front_too d e l old new) w
    (subst (λ (l : List Row). PutsLine front_too d l c old new) z
    (subst (λ (l : List Row). PutsLine front_too l b c old new) y
    (subst (λ (r : Row). PutsLine r a b c old new) x puts)))

-- the same with the rows of outcomes, where these settle a run behind a line
pub settles_by : (s q : List ℕ) (past : List Placed) (run : RunValue) (outcomes : List Outcome) (then works : ℕ) (z : ℤ) → q ≡ s → then ≡ run.reached → z ≡ pos works → works ≡ works_in (judged_of (behind_run past run.notes)) → map settled outcomes ≡ settled_run past run.notes
    → (old new : Trees) → PutsLine (Text q ∷ Int (pos then) ∷ Int z ∷ []) (map (λ x. settled_verdict q (settled x)) outcomes) (flat_map (λ x. settled_version q (settled x)) outcomes) (flat_map (λ x. settled_recordings q (settled x)) outcomes) old new
    → SettlesRun s past run old new
settles_by s q past run outcomes then works z name reached column are their old new puts =
    puts_as _ _ _ _ _ _ _ _ old new
    (ap₂ (λ (x : List ℕ) (k : ℕ). Text x ∷ Int (pos k) ∷ Int z ∷ []) name reached ∙ ap (λ (y : ℤ). Text s ∷ Int (pos run.reached) ∷ Int y ∷ []) (column ∙ ap pos are))
    (ap (λ (x : List ℕ). map (λ o. settled_verdict x (settled o)) outcomes) name ∙ sym (map-map (settled_verdict s) settled outcomes) ∙ ap (map (settled_verdict s)) their)
    (ap (λ (x : List ℕ). flat_map (λ o. settled_version x (settled o)) outcomes) name ∙ sym (flat_map-map (settled_version s) settled outcomes) ∙ ap (flat_map (settled_version s)) their)
    (ap (λ (x : List ℕ). flat_map (λ o. settled_recordings x (settled o)) outcomes) name ∙ sym (flat_map-map (settled_recordings s) settled outcomes) ∙ ap (flat_map (settled_recordings s)) their)
    puts
