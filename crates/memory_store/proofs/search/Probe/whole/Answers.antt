use Rattle.std.proofs.Common.{arith, sym, ◌≡◌, ◌+◌, ◌-◌, ◌/◌, length}
use Rattle.memory_store.specs.Search.{passes_probe, lasts}
use Rattle.sqlite_trees.proofs.MemoryLemmas.{passes_before, fails_after}
use Rattle.memory_store.proofs.lemmas.SearchLemmas.{length-lasts}
use Rattle.memory_store.proofs.search.Probe.whole.Goals as goal

pub loop-low-preserved-then-passes : goal.loop-low-preserved-then-passes
loop-low-preserved-then-passes c =
    let pieces = c.args.pieces.now in
    let middle = c.loop-low.low + (c.loop-low.high - c.loop-low.low) / 2 in
    let size : length (lasts pieces) ≡ length pieces = length-lasts pieces in
    let test = rw c.last_row.ensures at (sym c.if-passes.ensures) in
    record {
      ends = (omega arith, omega arith);
      below = λ k p. passes_before (passes_probe c.args.self) (lasts pieces) middle c.requires.cut (omega arith) test k (omega arith);
      above = c.loop-low.invariant.above;
    }

pub loop-low-preserved : goal.loop-low-preserved
loop-low-preserved c =
    let pieces = c.args.pieces.now in
    let middle = c.loop-low.low + (c.loop-low.high - c.loop-low.low) / 2 in
    let size : length (lasts pieces) ≡ length pieces = length-lasts pieces in
    let test = rw c.last_row.ensures at (sym c.if-passes.ensures) in
    record {
      ends = (omega arith, omega arith);
      below = c.loop-low.invariant.below;
      above = λ k p q. fails_after (passes_probe c.args.self) (lasts pieces) middle c.requires.cut test k p (omega arith);
    }
