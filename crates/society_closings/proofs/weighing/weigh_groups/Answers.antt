use Rattle.std.proofs.Common.{◌≡◌, ◌∙◌, ◌+◌, ◌++◌, ◌∷◌, [], List, ℕ, ap, arith, flat_map, length, length-append, subst, sym, take}
use Rattle.std.proofs.lemmas.Grind.{flat_map-append}
use Rattle.std.proofs.lemmas.List.{append-nil, take_more}
use Rattle.cwr_files.specs.declared.transmission.Group.{Group}
use Rattle.cwr_files.specs.declared.transmission.Transaction.{Transaction}
use Rattle.society_closings.proofs.lemmas.cuts.Weighed.{weighs_then}
use Rattle.society_closings.specs.Weighing.{WeighsMore}
use Rattle.society_core.specs.Points.{is_tallied}
use Rattle.society_closings.proofs.weighing.weigh_groups.Goals as goal

pub loop-group-preserved : goal.loop-group-preserved
loop-group-preserved c =
    let kind = c.args.weighing.now.kind in
    let o = c.args.weighing.now.office.now in
    let of_these = is_tallied c.args.weighing.now.tally.now in
    let s = c.args.sender.now in
    let groups = c.as_slice-group-items.result.now in
    let i = c.loop-group.group-index in
    let group = c.group-item.result in
    let of_group = λ (g : Group). g.transactions in
    let so_far : List Transaction = flat_map of_group (take i groups) in
    let ts = c.as_slice-transactions.result.now in
    let mid = c.loop-group.versions.items in
    let new = c.weigh_group.new.versions.items in
    let one_more : take (i + 1) groups ≡ take i groups ++ group ∷ [] = take_more groups i group c.loop-group-test.true ∙ ap (λ (g : Group). take i groups ++ g ∷ []) (sym c.group-item.is) in
    let next : flat_map of_group (take (i + 1) groups) ≡ so_far ++ ts =
    ap (flat_map of_group) one_more ∙ flat_map-append of_group (take i groups) (group ∷ []) ∙ ap (λ (l : List Transaction). so_far ++ l) (append-nil group.transactions ∙ sym c.as_slice-transactions.ensures) in
    let place : c.loop-group.place ≡ 0 + length so_far = omega (arith, c.loop-group.invariant.place) in
    record {
      place = c.in_ok-place.ensures.after ∙ ap (λ (k : ℕ). k + length ts) c.loop-group.invariant.place ∙ sym (ap (λ (l : List Transaction). length l) next ∙ length-append so_far ts);
      weighs = subst (λ (us : List Transaction). WeighsMore kind o of_these s 0 us [] new) (sym next)
          (weighs_then kind o of_these s 0 so_far ts [] mid new c.loop-group.invariant.weighs
          (subst (λ (k : ℕ). WeighsMore kind o of_these s k ts mid new) place c.in_ok-weigh_group.ensures.weighs));
    }
