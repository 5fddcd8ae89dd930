use Rattle.society_closings.proofs.pool_works.add_rows.Given as goal

-- nothing is asked of the rows so far
abbrev pub invariant-loop-row : goal.invariant-loop-row
invariant-loop-row l = Unit {0}
