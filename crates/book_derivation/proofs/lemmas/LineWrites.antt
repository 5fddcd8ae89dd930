-- The rows of a line that are written in one transaction, table after table.
use Rattle.std.proofs.Common.{◌≡◌, ◌∙◌, ◌++◌, [], List, true, sym, subst, arith, IsPermutation}
use Rattle.std.specs.List.{AllByRecursion}
use Rattle.std.proofs.lemmas.List.Sorted.{IsPermutation-append_left, IsPermutation-trans}
use Rattle.sqlite_trees.specs.Tree.{Trees, rowid}
use Rattle.sqlite_trees.specs.View.{is_int}
use Rattle.sqlite_value.specs.Order.{Row}
use Rattle.society_rows.specs.Layout as layout
use Rattle.society_rows.specs.Layout.{all_tables, written_out}
use Rattle.society_rows.specs.Stored.{put_over, rows_in}
use Rattle.society_arrivals.specs.LineTables.{AddsTold, PutsLine}
use Rattle.society_book.proofs.lemmas.rows_alike.KeptTables.{rows_kept, same_permutation, KeptBut, both_of, each_of, permuted_from, permuted_to}
use Rattle.society_arrivals.proofs.lemmas.RunWrites.{KeptOfLines, KeptOfTold}
use Rattle.book_derivation.proofs.lemmas.Writes.{AddsRows, PutsRow}

-- versions that were added, and then recordings
pub works_of : (told named : List Row) (old mid new : Trees) → AddsRows layout.versions told old mid → AddsRows layout.recordings named mid new → AddsTold [] told named old new
unfolding all_tables written_out
works_of told named old mid new first second =
    let early = each_of (KeptBut layout.versions old mid) first.others in
    let later = each_of (KeptBut layout.recordings mid new) second.others in
    record {
      verdicts = same_permutation (sym (rows_kept layout.verdicts old new (later.verdicts (λ e. omega (arith, e)) ∙ early.verdicts (λ e. omega (arith, e)))));
      versions = permuted_to (told ++ rows_in layout.versions old) _ _ (rows_kept layout.versions mid new (later.versions (λ e. omega (arith, e)))) first.rows;
      recordings = permuted_from named _ _ _ (rows_kept layout.recordings old mid (early.recordings (λ e. omega (arith, e)))) second.rows;
      others = both_of (KeptBut layout.versions old mid) (KeptBut layout.recordings mid new) (KeptOfTold old new) all_tables (λ t p q x y z. q z ∙ p y) first.others second.others;
    }

-- verdicts that were added, and then those
pub told_of : (judged told named : List Row) (old mid new : Trees) → AddsRows layout.verdicts judged old mid → AddsTold [] told named mid new → AddsTold judged told named old new
unfolding all_tables written_out
told_of judged told named old mid new first second =
    let early = each_of (KeptBut layout.verdicts old mid) first.others in
    record {
      verdicts = IsPermutation-trans (judged ++ rows_in layout.verdicts old) (rows_in layout.verdicts mid) (rows_in layout.verdicts new) first.rows second.verdicts;
      versions = permuted_from told _ _ _ (rows_kept layout.versions old mid (early.versions (λ e. omega (arith, e)))) second.versions;
      recordings = permuted_from named _ _ _ (rows_kept layout.recordings old mid (early.recordings (λ e. omega (arith, e)))) second.recordings;
      others = both_of (KeptBut layout.verdicts old mid) (KeptOfTold mid new) (KeptOfTold old new) all_tables (λ t p q x y z. q x y z ∙ p x) first.others second.others;
    }

-- a front that was put, and then those
pub puts_line_of : (front : Row) (judged told named : List Row) (old mid new : Trees) → PutsRow layout.fronts front old mid → AddsTold judged told named mid new → PutsLine front judged told named old new
unfolding all_tables written_out
puts_line_of front judged told named old mid new first second =
    let early = each_of (KeptBut layout.fronts old mid) first.others in
    let later = each_of (KeptOfTold mid new) second.others in
    let same_fronts = later.fronts (λ e. omega (arith, e)) (λ e. omega (arith, e)) (λ e. omega (arith, e)) in
    record {
      put = λ h. permuted_to (put_over front (rows_in layout.fronts old)) _ _ (rows_kept layout.fronts mid new same_fronts) (first.rows h);
      numbered = λ h. subst (AllByRecursion (λ r. is_int (rowid r) ≡ true)) (sym same_fronts) (first.numbered h);
      verdicts = permuted_from judged _ _ _ (rows_kept layout.verdicts old mid (early.verdicts (λ e. omega (arith, e)))) second.verdicts;
      versions = permuted_from told _ _ _ (rows_kept layout.versions old mid (early.versions (λ e. omega (arith, e)))) second.versions;
      recordings = permuted_from named _ _ _ (rows_kept layout.recordings old mid (early.recordings (λ e. omega (arith, e)))) second.recordings;
      others = both_of (KeptBut layout.fronts old mid) (KeptOfTold mid new) (KeptOfLines old new) all_tables (λ t p q a x y z. q x y z ∙ p a) first.others second.others;
    }

-- what is told of works, in any order
pub line_ordered : (front : Row) (judged told told_too named named_too : List Row) (old new : Trees) → IsPermutation told told_too → IsPermutation named named_too → PutsLine front judged told_too named_too old new → PutsLine front judged told named old new
line_ordered front judged told told_too named named_too old new of_told of_named puts = record {
  put = puts.put;
  numbered = puts.numbered;
  verdicts = puts.verdicts;
  versions = IsPermutation-trans _ (told_too ++ rows_in layout.versions old) _ (IsPermutation-append_left (rows_in layout.versions old) told told_too of_told) puts.versions;
  recordings = IsPermutation-trans _ (named_too ++ rows_in layout.recordings old) _ (IsPermutation-append_left (rows_in layout.recordings old) named named_too of_named) puts.recordings;
  others = puts.others;
}
