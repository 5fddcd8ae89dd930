-- Counts behind few lines are small.
use Rattle.std.proofs.Common.{ℕ, ◌+◌, ◌^◌, ◌<◌, ◌≤◌, Bool, true, false, cond, List, [], ◌∷◌, length, arith}
use Rattle.std.specs.Prelude.{not}
use Rattle.std.specs.List.{prefix_len}
use Rattle.std.proofs.lemmas.List.{length-take}
use Rattle.std.proofs.lemmas.List.Sums.{count_by-le-length}
use Rattle.cwr_files.specs.declared.counts.OpenGroup.{OpenGroup}
use Rattle.cwr_files.specs.declared.counts.Stage.TheVariants.{Between, Within, Ended}
use Rattle.cwr_files.specs.RecordTypes.{grh, has_type}
use Rattle.cwr_files.specs.LinesBefore.{since, is_ended, is_open, open_type, groups_before, transactions_in_group, lines_in_group, next_number, begins_transaction, transactions_before}
use Rattle.cwr_files.specs.Counts.{stage_of, counts_of, StageHasRoom, HasRoom}

length-since : (code : List ℕ) (past : List (List ℕ)) → length (since code past) ≤ length past
unfolding since
length-since code past = omega (arith, length-take (prefix_len (λ l. not (has_type code l)) past) past)

one-at-most : (b : Bool) → cond b 1 0 ≤ 1
one-at-most true = omega arith
one-at-most false = omega arith

few-transactions : (past : List (List ℕ)) → transactions_before past ≤ length past
few-transactions [] = omega arith
few-transactions (l ∷ past) = omega (arith, few-transactions past, one-at-most (begins_transaction past l))

few-in_group : (past : List (List ℕ)) → transactions_in_group past ≤ length past
unfolding transactions_in_group
few-in_group past = omega (arith, count_by-le-length (has_type (open_type past)) (since grh past), length-since grh past)

few-lines : (past : List (List ℕ)) → lines_in_group past ≤ length past + 1
unfolding lines_in_group
few-lines past = omega (arith, length-since grh past)

few-next : (past : List (List ℕ)) → next_number past ≤ length past + 1
unfolding next_number
few-next past = omega (arith, length-since grh past, length-since (open_type past) (since grh past))

few-groups : (past : List (List ℕ)) → groups_before past ≤ length past
unfolding groups_before
few-groups past = count_by-le-length (has_type grh) past

stage-chosen : (ended opened : Bool) (g : OpenGroup) → (g.transactions < 2 ^ 63) × (g.lines < 2 ^ 63) × (g.further < 2 ^ 63) → StageHasRoom (cond ended Ended (cond opened (Within g) Between))
stage-chosen true opened g h = tt
stage-chosen false true g h = h
stage-chosen false false g h = tt

stage-room : (past : List (List ℕ)) → length past < 2 ^ 62 → StageHasRoom (stage_of past)
stage-room [] small = tt
stage-room (l ∷ past) small =
    stage-chosen (is_ended (l ∷ past)) (is_open (l ∷ past)) _
    (omega (arith, few-in_group (l ∷ past)), omega (arith, few-lines (l ∷ past)), omega (arith, few-next (l ∷ past)))

-- the counts behind lines are far from the limits of their types, where there are not too many lines
pub counts_room : (past : List (List ℕ)) → length past < 2 ^ 62 → HasRoom (counts_of past)
unfolding counts_of
counts_room past small = record {
  lines = omega arith;
  groups = omega (arith, few-groups past);
  transactions = omega (arith, few-transactions past);
  stage = stage-room past small;
}
