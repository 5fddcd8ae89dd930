use Rattle.std.proofs.Common.{◌≡◌, ◌-◌, ◌≤◌, ◌<◌, ℕ, length, true, false, get_or, []}
use Rattle.memory_store.specs.Search.{passes_probe}
use Rattle.memory_store.proofs.search.Probe.count.Given as goal

abbrev pub invariant-loop-low : goal.invariant-loop-low
invariant-loop-low l = record {
  ends : (l.low ≤ l.high) × (l.high ≤ length l.rows);
  below : (k : ℕ) → k < l.low → passes_probe l.self (get_or l.rows k []) ≡ true;
  above : (k : ℕ) → l.high ≤ k → k < length l.rows → passes_probe l.self (get_or l.rows k []) ≡ false;
}

abbrev pub decreases-loop-low : goal.decreases-loop-low
decreases-loop-low l = l.high - l.low
