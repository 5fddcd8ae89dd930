-- A store that is clean stays clean from call to call, unless its medium fails.
use Rattle.std.proofs.Common.{ℕ, ◌≤◌, ⊎_elim, inl, inr, IsTrue, arith}
use Rattle.society_core.specs.State.{HasFailed, State, StaysClean}

-- a failure before more calls, or behind some, is one of them all
failed_before : (a b c : ℕ) → HasFailed a b → b ≤ c → HasFailed a c
failed_before a b c failed more = omega arith

failed_behind : (a b c : ℕ) → a ≤ b → HasFailed b c → HasFailed a c
failed_behind a b c fewer failed = omega arith

pub stays_through : (a b c : State) → StaysClean a b → StaysClean b c → (IsTrue c.is_honest → IsTrue b.is_honest) → a.faults ≤ b.faults → b.faults ≤ c.faults → StaysClean a c
stays_through a b c first later honest fewer more told clean =
    ⊎_elim
    (λ (still : IsTrue b.is_clean).
    ⊎_elim (λ (end : IsTrue c.is_clean). inl end) (λ (failed : HasFailed b.faults c.faults). inr (failed_behind a.faults b.faults c.faults fewer failed)) (later told still))
    (λ (failed : HasFailed a.faults b.faults). inr (failed_before a.faults b.faults c.faults failed more)) (first (honest told) clean)
