use Rattle.std.proofs.Common.{◌≡◌, ◌≤◌, ◌+◌, ◌++◌, length, drop}
use Rattle.std.specs.List.{zip}
use Rattle.ack_files.specs.Acknowledgement.{ack_lines}
use Rattle.ack_files.proofs.acknowledgement.append_transactions.Given as goal

-- what is written and what is left are the lines of all
abbrev pub invariant-loop-transaction : goal.invariant-loop-transaction
invariant-loop-transaction l =
    let rest = drop l.transaction-index l.transactions in
    record {
      within : l.at ≤ length l.verdicts;
      counted : l.at + length (zip rest (drop l.at l.verdicts)) ≡ l.first + length (zip l.transactions (drop l.first l.verdicts));
      written : l.out.items ++ ack_lines l.sender l.original l.at rest (drop l.at l.verdicts) ≡ l.initial.out.items ++ ack_lines l.sender l.original l.first l.transactions (drop l.first l.verdicts);
    }
