use Rattle.std.proofs.Common.{take}
use Rattle.std.specs.List.{AllByRecursion}
use Rattle.society_closings.specs.CutWorks.{ListsMore, ListsRow}
use Rattle.society_closings.proofs.works_by_recording.WorksByRecording.list_rows.Given as goal

-- the works of the rows so far are listed
abbrev pub invariant-loop-row : goal.invariant-loop-row
invariant-loop-row l = record {
  more : ListsMore l.initial.self l.self;
  listed : AllByRecursion (ListsRow l.wanted l.self) (take l.row-index l.rows);
}
