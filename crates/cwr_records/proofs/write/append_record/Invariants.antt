use Rattle.std.proofs.Common.{◌≡◌, ℕ, ◌<◌, ◌≤◌, ◌++◌, [], true, take, drop, length, get_or}
use Rattle.cwr_records.specs.Layouts.{row_behind, is_ordered, width_of, nowhere}
use Rattle.cwr_records.proofs.write.append_record.Given as goal

abbrev pub invariant-loop-index : goal.invariant-loop-index
invariant-loop-index g l = record {
  items : l.out.items ++ row_behind l.behind (drop l.index l.positions) (drop l.index (g.K.RecordKind.kind.contents l.source)) ≡ l.initial.out.items ++ row_behind 0 l.positions (g.K.RecordKind.kind.contents l.source);
  ordered : is_ordered l.behind (drop l.index l.positions) ≡ true;
  widths : (k : ℕ) → k < l.index → length (get_or (g.K.RecordKind.kind.contents l.source) k []) ≡ width_of (get_or l.positions k nowhere);
  kept : take (length l.initial.out.items) l.out.items ≡ l.initial.out.items;
  grown : length l.initial.out.items ≤ length l.out.items;
}
