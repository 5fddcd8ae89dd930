use Rattle.std.proofs.Common.{◌≡◌, ◌-◌, ◌∙◌, ℕ, Vec, ap, sym, arith, length, sum}
use Rattle.std.specs.Global.{Global}
use Rattle.std.proofs.lemmas.List.{length-map}
use Rattle.pool_split.specs.Threshold.{IsThreshold}
use Rattle.pool_split.specs.Split.{left, remainder, remainders}
use Rattle.pool_split.proofs.lemmas.Parts.{threshold_adds, threshold_parts_are, fair, if_ok_both, left_within, whole_parts, whole_within}
use Rattle.pool_split.proofs.splitting.split.Goals as goal

pub sum-requires : goal.sum-requires
sum-requires c =
    let whole = ap sum (c.deref.ensures.value ∙ c.in_ok-quotients.ensures) in
    omega (arith, whole, whole_within c.args.amount c.args.weights.now c.requires.some, c.requires.amount)

pub overflow_sub-left : goal.overflow_sub-left
overflow_sub-left c =
    let whole = ap sum (c.deref.ensures.value ∙ c.in_ok-quotients.ensures) in
    omega (arith, c.sum.ensures, whole, whole_within c.args.amount c.args.weights.now c.requires.some)

pub returns-then-left-eq0-clause-parts : goal.returns-then-left-eq0-clause-parts
returns-then-left-eq0-clause-parts c =
    let whole = c.sum.ensures ∙ ap sum (c.deref.ensures.value ∙ c.in_ok-quotients.ensures) in
    let none : left c.args.amount c.args.weights.now ≡ 0 = ap (λ (n : ℕ). c.args.amount - n) (sym whole) ∙ c.if-left-eq0.true in
    c.in_ok-quotients.ensures ∙ whole_parts c.args.amount c.args.weights.now none

pub returns-then-left-eq0-clause-fair : goal.returns-then-left-eq0-clause-fair
returns-then-left-eq0-clause-fair c =
    let whole = c.sum.ensures ∙ ap sum (c.deref.ensures.value ∙ c.in_ok-quotients.ensures) in
    let same = ap sum c.in_ok-quotients.ensures in
    let none : left c.args.amount c.args.weights.now ≡ 0 = ap (λ (n : ℕ). c.args.amount - n) (sym whole) ∙ c.if-left-eq0.true in
    fair c.args.amount c.args.weights.now c.in_ok-quotients.quotients.items c.requires.some
    (c.in_ok-quotients.ensures ∙ whole_parts c.args.amount c.args.weights.now none)
    (omega (arith, whole, same, c.if-left-eq0.true, whole_within c.args.amount c.args.weights.now c.requires.some))

pub threshold_at-requires-clause-few : goal.threshold_at-requires-clause-few
threshold_at-requires-clause-few c =
    let whole = c.sum.ensures ∙ ap sum (c.deref.ensures.value ∙ c.in_ok-quotients.ensures) in
    let size = ap length (c.deref-2.ensures.value ∙ c.in_ok-remainders.ensures) ∙ length-map c.args.weights.now (remainder c.args.amount (sum c.args.weights.now)) in
    omega (arith, whole, size, left_within c.args.amount c.args.weights.now c.requires.some)

pub returns-clause-parts : goal.returns-clause-parts
returns-clause-parts c =
    let a = c.args.amount in
    let ws = c.args.weights.now in
    let whole = c.sum.ensures ∙ ap sum (c.deref.ensures.value ∙ c.in_ok-quotients.ensures) in
    let rest = c.deref-2.ensures.value ∙ c.in_ok-remainders.ensures in
    let threshold : IsThreshold (remainders a ws) (left a ws) c.in_ok-threshold.threshold = rw (rest, whole) at c.in_ok-threshold.ensures in
    let q = c.deref-3.ensures.value ∙ c.in_ok-quotients.ensures in
    let r = c.deref-4.ensures.value ∙ c.in_ok-remainders.ensures in
    let made = rw (q, r) at c.with_units.ensures.parts in
    if_ok_both c.with_units.result made made (λ (parts : Vec ℕ Global) is _. is ∙ threshold_parts_are a ws c.in_ok-threshold.threshold threshold)

pub returns-clause-fair : goal.returns-clause-fair
returns-clause-fair c =
    let a = c.args.amount in
    let ws = c.args.weights.now in
    let whole = c.sum.ensures ∙ ap sum (c.deref.ensures.value ∙ c.in_ok-quotients.ensures) in
    let rest = c.deref-2.ensures.value ∙ c.in_ok-remainders.ensures in
    let threshold : IsThreshold (remainders a ws) (left a ws) c.in_ok-threshold.threshold = rw (rest, whole) at c.in_ok-threshold.ensures in
    let q = c.deref-3.ensures.value ∙ c.in_ok-quotients.ensures in
    let r = c.deref-4.ensures.value ∙ c.in_ok-remainders.ensures in
    let made = rw (q, r) at c.with_units.ensures.parts in
    let adds = rw (q, r) at c.with_units.ensures.sum in
    if_ok_both c.with_units.result made adds (λ (parts : Vec ℕ Global) is sums.
    fair a ws parts.items c.requires.some (is ∙ threshold_parts_are a ws c.in_ok-threshold.threshold threshold) (sums ∙ threshold_adds a ws c.in_ok-threshold.threshold c.requires.some threshold))
