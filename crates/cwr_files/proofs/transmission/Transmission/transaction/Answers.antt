use Rattle.std.proofs.Common.{◌≡◌, drop, ap, refl, sym, ◌∙◌, ◌+◌, ◌-◌, length, List, Some}
use Rattle.std.specs.List.{slice_get, flat_map}
use Rattle.std.proofs.lemmas.Option.{slice_get_read}
use Rattle.cwr_files.specs.declared.transmission.Group.{Group}
use Rattle.cwr_files.specs.declared.transmission.Transaction.{Transaction}
use Rattle.cwr_files.proofs.lemmas.Placed.{joined_from, nothing_from, placed_first, placed_behind}
use Rattle.cwr_files.proofs.transmission.Transmission.transaction.Goals as goal

pub returns-then-left-transactions : goal.returns-then-left-transactions
returns-then-left-transactions c =
    let groups = c.as_slice-group-items.result.now in
    let group = c.group-item.result in
    let more = flat_map (λ (g : Group). g.transactions) (drop (c.loop-group.group-index + 1) groups) in
    let found : slice_get group.transactions c.loop-group.left ≡ Some c.index-transactions-left.result = slice_get_read group.transactions (length group.transactions) c.loop-group.left c.index-transactions-left.result refl (rw (← c.as_slice-transactions.ensures) c.if-left-transactions.true) (rw (← c.as_slice-transactions.ensures) c.index-transactions-left.is) in
    sym
    (c.loop-group.invariant
    ∙ ap (λ ts. slice_get ts c.loop-group.left) (joined_from (λ (g : Group). g.transactions) groups c.loop-group.group-index group c.loop-group-test.true c.group-item.is)
    ∙ placed_first group.transactions more c.loop-group.left (rw (← c.as_slice-transactions.ensures) c.if-left-transactions.true)
    ∙ found)

pub loop-group-preserved : goal.loop-group-preserved
loop-group-preserved c =
    let groups = c.as_slice-group-items.result.now in
    let group = c.group-item.result in
    let more = flat_map (λ (g : Group). g.transactions) (drop (c.loop-group.group-index + 1) groups) in
    c.loop-group.invariant
    ∙ ap (λ ts. slice_get ts c.loop-group.left) (joined_from (λ (g : Group). g.transactions) groups c.loop-group.group-index group c.loop-group-test.true c.group-item.is)
    ∙ placed_behind group.transactions more c.loop-group.left (rw (← c.as_slice-transactions.ensures) c.if-left-transactions.false)
    ∙ ap (λ (ts : List Transaction). slice_get more (c.loop-group.left - length ts)) (sym c.as_slice-transactions.ensures)

pub returns : goal.returns
returns c = sym (c.loop-group.invariant ∙ nothing_from (λ (g : Group). g.transactions) c.as_slice-group-items.result.now c.loop-group.group-index c.loop-group.left c.loop-group-test.false)
