use Rattle.std.proofs.Common.{◌∙◌, List, ap, map, subst}
use Rattle.std.specs.Iterator.Adapters.{zip_first, zip_second}
use Rattle.std.specs.Slice.Iter.{iter_rest}
use Rattle.std.proofs.lemmas.Iterator.{YieldsList-from_slice, YieldsList-from_zip}
use Rattle.std.proofs.lemmas.Iterator.Consumers.{YieldsList-end}
use Rattle.credit_listing.specs.Listed.{AddsRows}
use Rattle.credit_listing.specs.Rows.{holder_row}
use Rattle.credit_listing.proofs.lemmas.RowLemmas.{adds_none, adds_row}
use Rattle.credit_listing.proofs.rows.put_owned.Goals as goal

pub loop-holder-init : goal.loop-holder-init
loop-holder-init c = adds_none c.args.table.now

pub loop-holder-preserved : goal.loop-holder-preserved
loop-holder-preserved c =
    adds_row c.args.table.now c.loop-holder.table c.put_holder.new.table (holder_row c.args.number c.args.share.now c.args.owner.now) c.loop-holder.yielded (c.in-Some.holder, c.in-Some.part) c.loop-holder.invariant c.in_ok-put_holder.ensures

pub returns : goal.returns
returns c =
    let gives = c.into_iter-holder-iterator.ensures.into_iter_gives in
    let pairs = c.zip-holder-items.ensures in
    let holders = YieldsList-from_slice {s = zip_first c.into_iter-holder-iterator.result} c.args.owner.now.holders
    (ap (λ z. iter_rest (zip_first z)) gives ∙ ap iter_rest pairs.first ∙ c.iter.ensures.rest ∙ c.as_slice-holders.ensures) in
    let parts = YieldsList-from_slice {s = zip_second c.into_iter-holder-iterator.result} c.args.share.now.parts
    (ap (λ z. iter_rest (zip_second z)) gives ∙ ap iter_rest pairs.second ∙ c.iter-2.ensures.rest ∙ c.as_slice.ensures) in
    let all = YieldsList-end (YieldsList-from_zip {s = c.into_iter-holder-iterator.result} holders parts) c.loop-holder.yielded c.loop-holder.holder-iterator c.loop-holder.yielded_by c.next.result c.next.new.self c.in-None.is c.next.ensures.steps in
    subst (λ (paid : List _). AddsRows c.args.table.now c.loop-holder.table (map (holder_row c.args.number c.args.share.now c.args.owner.now) paid)) all.0 c.loop-holder.invariant
