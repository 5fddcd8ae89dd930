use Rattle.std.proofs.Common.{◌≡◌, ◌+◌, inl, inr, arith}
use Rattle.std.proofs.lemmas.Bool.{cases_lt}
use Rattle.log_reading.proofs.old_frames.lacks_page.Goals as goal

pub loop-before-preserved : goal.loop-before-preserved
loop-before-preserved g c known known_db i upto =
    elim (cases_lt c.loop-before.before i) [
      | inl last ↦ let same : i ≡ c.loop-before.before + 1 = omega arith in rw same (c.in_ok-is_lacking.ensures.no known known_db c.if-branch.false)
      | inr low ↦ c.loop-before.invariant known known_db i low
    ]
