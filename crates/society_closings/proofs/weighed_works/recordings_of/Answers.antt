use Rattle.std.proofs.Common.{◌∙◌, ◌||◌, Bool, List, ℕ, ap, arith, bytes_eq, cond, false, sym, take, true}
use Rattle.std.proofs.lemmas.List.Folds.{list_any_more}
use Rattle.std.proofs.lemmas.Map.Text.{is_eq-slice_cmp}
use Rattle.std.specs.BTreeSet.{contains}
use Rattle.std.specs.List.{list_any}
use Rattle.society_core.specs.Keys.{bytes_cmp}
use Rattle.society_closings.proofs.lemmas.cuts.CutLists.{among_more}
use Rattle.society_book.proofs.lemmas.rows_alike.KeyRows.{either_way}
use Rattle.society_closings.proofs.weighed_works.recordings_of.Goals as goal

pub loop-isrc-preserved : goal.loop-isrc-preserved
loop-isrc-preserved c = λ q.
    let recordings = c.as_slice-isrc-items.result.now in
    let i = c.loop-isrc.isrc-index in
    let isrc = c.isrc-item.result in
    let next = list_any_more (bytes_eq q) recordings i isrc (omega (arith, c.loop-isrc-test.true)) ∙ ap (λ (x : List ℕ). list_any (bytes_eq q) (take i recordings) || bytes_eq q x) (sym c.isrc-item.is) in
    c.in_ok-insert.ensures.updates.0 q
    ∙ ap (λ (b : Bool). cond b true (contains bytes_cmp c.loop-isrc.set q)) (is_eq-slice_cmp isrc q ∙ either_way isrc q)
    ∙ among_more false (list_any (bytes_eq q) (take i recordings)) (bytes_eq q isrc) _ (c.loop-isrc.invariant q)
    ∙ sym next
