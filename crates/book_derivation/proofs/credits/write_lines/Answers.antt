use Rattle.std.proofs.Common.{◌∙◌, ◌+◌, ◌++◌, List, Ok, IsPermutation, ap, arith, length, subst, sym, take}
use Rattle.std.proofs.lemmas.List.{length-append}
use Rattle.sqlite.specs.Held.{state}
use Rattle.sqlite_value.specs.Order.{Row}
use Rattle.pool_split.specs.Credits.{credits_together}
use Rattle.pool_split.specs.declared.claim.Credit.{Credit}
use Rattle.society_rows.specs.Layout as layout
use Rattle.society_rows.specs.Stored.{rows_in}
use Rattle.society_closings.specs.Closings.{lines_from}
use Rattle.society_closings.proofs.lemmas.money.PoolWrites.{lines_after}
use Rattle.society_book.specs.Steps.{Never}
use Rattle.book_audit.proofs.lemmas.credits.Portions.{together_next}
use Rattle.book_derivation.specs.Money.{AddsCredits, AddsCreditLines}
use Rattle.book_derivation.proofs.lemmas.Additions.{added_behind, others_on}
use Rattle.book_derivation.proofs.lemmas.Derivings.{derives_then}
use Rattle.book_derivation.proofs.credits.write_lines.Goals as goal

pub loop-portion-preserved : goal.loop-portion-preserved
loop-portion-preserved g c =
    let all = c.args.portions.now in
    let i = c.loop-portion.portion-index in
    let one : List Credit = c.portion-item.result in
    let pool = c.args.pool in
    let done = credits_together (take i all) in
    let its = c.in_ok-credits.ensures in
    let next = together_next all i one c.loop-portion-test.true c.portion-item.is in
    let old = state g.S.Store c.args.tx.now.conn.now in
    let mid = state g.S.Store c.loop-portion.tx.conn.now in
    let new = state g.S.Store c.write_from.new.tx.conn.now in
    let after = rw c.in_ok-line.ensures.value at c.place_after.ensures.after in
    let whole = sym (lines_after pool done one) ∙ ap (lines_from pool 0) (sym next) in
    record {
      same_reference = c.write_from.ensures.derives.same_reference ∙ c.loop-portion.invariant.same_reference;
      line = omega (arith, after, c.len.ensures, ap length its, c.loop-portion.invariant.line, ap length next ∙ length-append done one);
      derives = derives_then Never Never Never old mid new tt (Ok tt) (λ before after (done_now : Unit {0}). AddsCredits pool done before after) (λ before after (done_now : Unit {0}). AddsCreditLines (lines_from pool (length done) one) before after)
          (λ before after (done_now : Unit {0}). AddsCredits pool (credits_together (take (i + 1) all)) before after) c.loop-portion.invariant.derives
          (rw (c.as_slice.ensures.value, its, c.loop-portion.invariant.line) at c.in_ok-write_from.ensures.derives.says)
          (λ y own later before writes. record {
            rows = subst (λ (l : List Row). IsPermutation (l ++ rows_in layout.credits_table old.now.trees) (rows_in layout.credits_table new.now.trees)) whole
                (added_behind (rows_in layout.credits_table old.now.trees) (rows_in layout.credits_table mid.now.trees) (rows_in layout.credits_table new.now.trees) (lines_from pool 0 done) (lines_from pool (length done) one) before.rows writes.rows);
            others = others_on layout.credits_table old.now.trees mid.now.trees new.now.trees before.others writes.others;
          })
          (λ own before never. absurd never);
    }
