use Rattle.std.proofs.Common.{◌≡◌, ◌∙◌, ◌+◌, ◌++◌, ◌∷◌, [], ap, subst, sym, take}
use Rattle.std.proofs.lemmas.List.{take_more}
use Rattle.std.specs.List.{AllByRecursion}
use Rattle.society_closings.specs.CutWorks.{ListsRow}
use Rattle.society_closings.proofs.lemmas.cuts.CutLists.{lists_then, rows_still}
use Rattle.society_closings.proofs.works_by_recording.WorksByRecording.list_rows.Goals as goal
use Rattle.sqlite_keyed.proofs.ListLemmas.{all-append}
use Rattle.sqlite_value.specs.Order.{Row}

pub loop-row-preserved : goal.loop-row-preserved
loop-row-preserved c =
    let rows = c.args.rows.now in
    let so_far = take c.loop-row.row-index rows in
    let row = c.row-item.result in
    let works = c.list_row.new.self in
    let next : take (c.loop-row.row-index + 1) rows ≡ so_far ++ row ∷ [] = take_more rows c.loop-row.row-index row c.loop-row-test.true ∙ ap (λ (r : Row). so_far ++ r ∷ []) (sym c.row-item.is) in
    record {
      more = lists_then c.args.self.now c.loop-row.self works c.loop-row.invariant.more c.in_ok-list_row.ensures.more;
      listed = subst (AllByRecursion (ListsRow c.args.wanted.now works)) (sym next) (all-append (ListsRow c.args.wanted.now works) so_far (row ∷ []) (rows_still c.args.wanted.now c.loop-row.self works c.in_ok-list_row.ensures.more so_far c.loop-row.invariant.listed) (c.in_ok-list_row.ensures.listed, tt));
    }
