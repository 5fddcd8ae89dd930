use Rattle.std.proofs.Common.{◌≡◌, ◌++◌, ◌+◌, ◌-◌, ◌≤◌, List, drop, length, vec_len, vec_capacity}
use Rattle.works_core.specs.Tracks.{HasLinks, KeepsEntries, Tracks}
use Rattle.works_core.specs.Verdicts.{verdicts_from}
use Rattle.works_core.specs.Versions.{Placed, judged_of, placed_behind}
use Rattle.works_core.proofs.sender_line.settle_all.Given as goal

-- the verdicts so far and those of what is left are those of all, and there is room for what is left
abbrev pub invariant-loop-place : goal.invariant-loop-place
invariant-loop-place l = record {
  settled : (past : List Placed) → Tracks l.initial.works past →
      (now : List Placed) × Tracks l.works now × (l.verdicts.items ++ verdicts_from (judged_of now) (drop l.place l.transactions) ≡ l.initial.verdicts.items ++ verdicts_from (judged_of past) l.transactions)
      × (placed_behind now l.transmission l.place (drop l.place l.transactions) ≡ placed_behind past l.transmission 0 l.transactions);
  entries : KeepsEntries l.initial.works l.works;
  room : HasLinks (length l.transactions - l.place) l.works;
  verdict_room : vec_len l.verdicts + (length l.transactions - l.place) ≤ vec_capacity l.verdicts;
}
