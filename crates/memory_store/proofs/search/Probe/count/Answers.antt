use Rattle.std.proofs.Common.{arith, sym, ◌+◌, ◌-◌, ◌/◌, ◌<◌, length, []}
use Rattle.std.proofs.lemmas.List.{get_or_read}
use Rattle.memory_store.specs.Search.{passes_probe}
use Rattle.sqlite_trees.proofs.MemoryLemmas.{passes_before, fails_after}
use Rattle.memory_store.proofs.search.Probe.count.Goals as goal

pub loop-low-preserved-then-passes : goal.loop-low-preserved-then-passes
loop-low-preserved-then-passes c =
    let rows = c.args.rows.now in
    let middle = c.loop-low.low + (c.loop-low.high - c.loop-low.low) / 2 in
    let within : middle < length rows = omega arith in
    let test = rw (get_or_read rows middle _ within c.index-rows-middle.is []) at (sym c.if-passes.ensures) in
    record {
      ends = (omega arith, omega arith);
      below = λ k p. passes_before (passes_probe c.args.self) rows middle c.requires within test k (omega arith);
      above = c.loop-low.invariant.above;
    }

pub loop-low-preserved : goal.loop-low-preserved
loop-low-preserved c =
    let rows = c.args.rows.now in
    let middle = c.loop-low.low + (c.loop-low.high - c.loop-low.low) / 2 in
    let within : middle < length rows = omega arith in
    let test = rw (get_or_read rows middle _ within c.index-rows-middle.is []) at (sym c.if-passes.ensures) in
    record {
      ends = (omega arith, omega arith);
      below = c.loop-low.invariant.below;
      above = fails_after (passes_probe c.args.self) rows middle c.requires test;
    }
