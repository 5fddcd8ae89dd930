use Rattle.work_ids.proofs.lemmas.Sums.{completes, no_digits}
use Rattle.work_ids.proofs.checksum.check_digit.Goals as goal

pub returns-then-not-are_digits-clause-right : goal.returns-then-not-are_digits-clause-right
returns-then-not-are_digits-clause-right c = λ check. (λ e. absurd (cc), λ e. absurd (no_digits c.args.digits.now check (cc) e))

pub returns-clause-right : goal.returns-clause-right
returns-clause-right c = λ check. rw c.weighted_sum-above.ensures.value (completes c.args.digits.now check (cc))
