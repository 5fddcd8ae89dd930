use Rattle.std.proofs.Common.{◌≡◌, ◌+◌, ◌==◌, ◌∷◌, ◌++◌, ◌∙◌, [], List, ℕ, ap, sym, arith, get_or, map, nat_lt, sum, take}
use Rattle.std.specs.List.{range_with_len}
use Rattle.std.proofs.lemmas.List.FromFn.{map-range_with_len_more}
use Rattle.std.proofs.lemmas.List.Sums.{sum_by_more, sum_by_push}
use Rattle.pool_split.specs.Threshold.{threshold_part, threshold_unit, takes_unit}
use Rattle.pool_split.proofs.lemmas.Counts.{at, one_if, unit_adds}
use Rattle.pool_split.proofs.splitting.with_units.Goals as goal

pub loop-place-preserved : goal.loop-place-preserved
loop-place-preserved c =
    let i = c.loop-place.place in
    let q = c.args.quotients.now in
    let r = c.args.remainders.now in
    let threshold = c.args.threshold.now in
    let inv = c.loop-place.invariant in
    let x = get_or r i 0 in
    let within = c.loop-place-test.true in
    let unit : c.unit.result ≡ threshold_unit r threshold i = c.unit.ensures ∙ ap (λ (n : ℕ). one_if (takes_unit threshold.remainder n x)) inv.ties in
    let more_q = sum_by_more (λ (n : ℕ). n) q i 0 within in
    let more_above = sum_by_more (λ (n : ℕ). one_if (nat_lt threshold.remainder n)) r i 0 (omega (arith, within, c.requires.same)) in
    let more_at = sum_by_more (λ (n : ℕ). one_if (threshold.remainder == n)) r i 0 (omega (arith, within, c.requires.same)) in
    record {
      ties = omega (arith, c.ties_behind-ties.ensures, inv.ties, more_at);
      parts = c.in_ok-push.ensures.items
          ∙ ap (λ (parts : List ℕ). parts ++ (get_or q i 0 + c.unit.result) ∷ []) inv.parts
          ∙ ap (λ (n : ℕ). map (threshold_part q r threshold) (range_with_len 0 i) ++ (get_or q i 0 + n) ∷ []) unit
          ∙ sym (map-range_with_len_more (threshold_part q r threshold) 0 i i (omega arith));
      sum = ap sum c.in_ok-push.ensures.items ∙ sum_by_push (λ (n : ℕ). n) c.loop-place.parts.items (get_or q i 0 + c.unit.result)
          ∙ omega (arith, inv.sum, unit, more_q, more_above, more_at, unit_adds threshold.remainder x threshold.ties (at threshold.remainder (take i r)));
    }
