-- Representation, not meaning: the running counts of the one pass over a body. What they stand for is said by LinesBefore, what is found by LineFaults.
use Rattle.std.specs.Prelude.{◌≡◌, ℕ, ◌+◌, ◌^◌, ◌<◌, List, [], ◌∷◌, length, Option, Some, None, Result, MatchResult, if◌then◌else◌}
use Rattle.cwr_files.specs.declared.fault.FileFault.{FileFault}
use Rattle.cwr_files.specs.declared.counts.Counts.{Counts}
use Rattle.cwr_files.specs.declared.counts.OpenGroup.{OpenGroup}
use Rattle.cwr_files.specs.declared.counts.Stage.{Stage}
use Rattle.cwr_files.specs.declared.counts.Stage.TheVariants.{Header, Between, Within, Ended}
use Rattle.cwr_files.specs.RecordTypes.{grh, grt, has_type, type_of_group}
use Rattle.cwr_files.specs.LineFaults.{is_too_large, record_sequence_at, too_large, no_header, no_trailer}
use Rattle.cwr_files.specs.Chain.{header_fault, between_fault, group_fault, ended_fault}
use Rattle.cwr_files.specs.LinesBefore.{is_ended, is_open, open_type, groups_before, transactions_in_group, lines_in_group, next_number, transactions_before}
use Rattle.cwr_files.specs.FileFault.{fault_at}

-- where the next line stands, behind those lines, the nearest first
abbrev pub stage_of : List (List ℕ) → Stage
stage_of [] = Header
stage_of (nearest ∷ past) =
    if is_ended (nearest ∷ past) then Ended
    else (if is_open (nearest ∷ past)
    then Within (record {
      kind = open_type (nearest ∷ past);
      transactions = transactions_in_group (nearest ∷ past);
      lines = lines_in_group (nearest ∷ past);
      further = next_number (nearest ∷ past);
    })
    else Between)

-- the counts behind those lines, the nearest first
unfoldable pub counts_of : List (List ℕ) → Counts
counts_of past = record {
  lines = length past;
  groups = groups_before past;
  transactions = transactions_before past;
  stage = stage_of past;
}

-- the fault of a line by running counts, its size aside
abbrev pub stage_fault : List ℕ → Stage → Counts → List ℕ → Option ℕ
stage_fault sender Header counts line = header_fault sender line
stage_fault sender Between counts line = between_fault counts.groups counts.transactions counts.lines line
stage_fault sender (Within g) counts line = group_fault counts.groups g.kind g.transactions g.lines g.further line
stage_fault sender Ended counts line = ended_fault line

-- the fault of a line by running counts, where the body has so many bytes at the line's end
unfoldable pub counted_fault : List ℕ → Counts → ℕ → List ℕ → Option ℕ
counted_fault sender counts end line =
    if is_too_large end line then Some too_large else stage_fault sender counts.stage counts line

-- the open group after one more of its records
unfoldable pub group_after : OpenGroup → List ℕ → OpenGroup
group_after g line = record {
  kind = g.kind;
  transactions = (if has_type g.kind line then g.transactions + 1 else g.transactions);
  lines = g.lines + 1;
  further = record_sequence_at g.kind g.further line + 1;
}

-- a group that has just begun
unfoldable pub group_begun_by : List ℕ → OpenGroup
group_begun_by line = record { kind = type_of_group line; transactions = 0; lines = 1; further = 1 }

-- the counts after a line that has no fault
abbrev pub after_in : Stage → Counts → List ℕ → Counts
after_in Header c line = record c { lines = c.lines + 1; stage = Between }
after_in Between c line =
    if has_type grh line
    then record c { lines = c.lines + 1; groups = c.groups + 1; stage = Within (group_begun_by line) }
    else record c { lines = c.lines + 1; stage = Ended }
after_in (Within g) c line =
    if has_type grt line
    then record c { lines = c.lines + 1; stage = Between }
    else record c {
      lines = c.lines + 1;
      transactions = (if has_type g.kind line then c.transactions + 1 else c.transactions);
      stage = Within (group_after g line);
    }
after_in Ended c line = record c { lines = c.lines + 1 }

-- the counts after a line that has no fault
unfoldable pub counts_after : Counts → List ℕ → Counts
counts_after c line = after_in c.stage c line

-- the fault of a body that ends behind these counts, by where the next line would stand
abbrev pub end_in : Stage → Counts → Option FileFault
end_in Header c = Some (record { number = no_header; line = 1 })
end_in Ended c = None
end_in Between c = Some (record { number = no_trailer; line = c.lines + 1 })
end_in (Within g) c = Some (record { number = no_trailer; line = c.lines + 1 })

-- the fault of a body that ends behind these counts
abbrev pub counted_end : Counts → Option FileFault
counted_end c = end_in c.stage c

-- an open group's counts are far from the limits of their types
abbrev pub StageHasRoom : Stage → Type 0
StageHasRoom Header = Unit {0}
StageHasRoom Between = Unit {0}
StageHasRoom (Within g) = (g.transactions < 2 ^ 63) × (g.lines < 2 ^ 63) × (g.further < 2 ^ 63)
StageHasRoom Ended = Unit {0}

-- counts are far from the limits of their types
pub record HasRoom (c : Counts) : Type 0 where
  pub lines : c.lines < 2 ^ 63
  pub groups : c.groups < 2 ^ 63
  pub transactions : c.transactions < 2 ^ 63
  pub stage : StageHasRoom c.stage

-- a line step answered the counts after the line, or the line's fault
abbrev pub IsStep : List ℕ → Counts → ℕ → List ℕ → Result Counts ℕ → Type 0
IsStep sender counts end line answer =
    MatchResult answer
    (λ c. (counted_fault sender counts end line ≡ None) × (c ≡ counts_after counts line))
    (λ n. counted_fault sender counts end line ≡ Some n)

-- a line step from the counts behind any lines answered the counts behind one more, or the line's fault behind them
abbrev pub IsStepBehind : List ℕ → Counts → ℕ → List ℕ → Result Counts ℕ → Type 0
IsStepBehind sender counts end line answer =
    (past : List (List ℕ)) → counts ≡ counts_of past →
    MatchResult answer
    (λ c. (fault_at sender past end line ≡ None) × (c ≡ counts_of (line ∷ past)))
    (λ n. fault_at sender past end line ≡ Some n)
