use Rattle.std.proofs.Common.{◌≡◌, map, take}
use Rattle.work_ids.specs.Account.{account_text}
use Rattle.society_closings.proofs.credit_lines.texts_of.Given as goal

abbrev pub invariant-loop-credit : goal.invariant-loop-credit
invariant-loop-credit l = map (λ t. t.items) l.texts.items ≡ map (λ x. account_text x.account) (take l.credit-index l.credits)
