use Rattle.std.proofs.Common.{◌≡◌, ◌≤◌, ◌+◌, ◌++◌, length, drop, flat_map}
use Rattle.std.specs.List.{zip}
use Rattle.ack_files.specs.Acknowledgement.{ack_lines}
use Rattle.ack_files.proofs.acknowledgement.append_groups.Given as goal

-- what is written and what is left are the lines of all
abbrev pub invariant-loop-group : goal.invariant-loop-group
invariant-loop-group l =
    let rest = flat_map (λ g. g.transactions) (drop l.group-index l.groups) in
    let all = flat_map (λ g. g.transactions) l.groups in
    record {
      within : l.at ≤ length l.verdicts;
      counted : l.at + length (zip rest (drop l.at l.verdicts)) ≡ length (zip all l.verdicts);
      written : l.out.items ++ ack_lines l.sender l.original l.at rest (drop l.at l.verdicts) ≡ l.initial.out.items ++ ack_lines l.sender l.original 0 all l.verdicts;
    }
