use Rattle.std.proofs.Common.{◌≡◌, ℕ, ◌+◌, ◌-◌, ◌<◌, ◌++◌, length, drop, sym, ap, ◌∙◌, arith, length-set}
use Rattle.work_ids.specs.Digits.{last_digits}
use Rattle.work_ids.proofs.lemmas.LastDigits.{digit_written, digits-none}
use Rattle.work_ids.proofs.digits.last_digits.Goals as goal

pub loop-at-preserved : goal.loop-at-preserved
loop-at-preserved g c =
    let bytes = c.loop-at.bytes in
    let k = c.loop-at.at - 1 in
    let within : k < length bytes = omega arith in
    let next : k + 1 ≡ c.loop-at.at = omega arith in
    record {
      len = length-set bytes k _ ∙ c.loop-at.invariant.len;
      within = omega arith;
      so_far =
          digit_written bytes k c.loop-at.rest within ∙ ap (λ (n : ℕ). last_digits n c.loop-at.rest ++ drop n bytes) next
          ∙ c.loop-at.invariant.so_far;
    }

pub returns : goal.returns
returns g c =
    let none : c.loop-at.at ≡ 0 = omega (arith, c.loop-at-test.false) in
    sym (digits-none c.loop-at.rest c.loop-at.bytes) ∙ ap (λ (n : ℕ). last_digits n c.loop-at.rest ++ drop n c.loop-at.bytes) (sym none)
    ∙ c.loop-at.invariant.so_far
