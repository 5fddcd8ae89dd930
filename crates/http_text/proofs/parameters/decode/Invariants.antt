use Rattle.std.proofs.Common.{◌≡◌, ◌≤◌, ◌++◌}
use Rattle.std.specs.Prelude.{vec_capacity}
use Rattle.percent_encoding.specs.Iter.{decoded_bytes}
use Rattle.percent_encoding.specs.Percent.{percent_decode}
use Rattle.http_text.proofs.parameters.decode.Given as goal

abbrev pub invariant-loop-byte : goal.invariant-loop-byte
invariant-loop-byte l =
    (goal.iterator-loop-byte).can_next l.byte-iterator
    × (goal.iterator-loop-byte).is_finite l.byte-iterator
    × (l.scratch.items ++ decoded_bytes l.byte-iterator ≡ percent_decode l.raw)
    × (vec_capacity l.fn.scratch ≤ vec_capacity l.scratch)
