use Rattle.std.proofs.Common.{◌≡◌, ◌+◌, length, sym, ◌∙◌, inl, inr, arith, rules}
use Rattle.std.proofs.lemmas.Bool.{cases_lt}
use Rattle.log_reading.proofs.OldReading.{page_read}
use Rattle.log_reading.proofs.old_frames.is_superseded.Goals as goal

pub returns-then-get_be32-page-clause-yes : goal.returns-then-get_be32-page-clause-yes
returns-then-get_be32-page-clause-yes g c known yes' =
    let len : length c.read_at.new.buffer ≡ 4 = search rules in
    let read = page_read _ _ c.args.size (c.loop-before.before + 1) _ (c.in-Ok.ensures.ok known) len c.offset_of-at.ensures in
    (c.loop-before.before + 1, omega arith, omega arith, sym read ∙ sym c.get_be32.ensures ∙ c.if-get_be32-page.true)

pub loop-before-preserved : goal.loop-before-preserved
loop-before-preserved g c known j after upto =
    let len : length c.read_at.new.buffer ≡ 4 = search rules in
    let read = page_read _ _ c.args.size (c.loop-before.before + 1) _ (c.in-Ok.ensures.ok known) len c.offset_of-at.ensures in
    elim (cases_lt c.loop-before.before j) [
      | inl last ↦ let same : j ≡ c.loop-before.before + 1 = omega arith in rw same (λ is. c.if-get_be32-page.false (c.get_be32.ensures ∙ read ∙ is))
      | inr low ↦ c.loop-before.invariant known j after low
    ]
