use Rattle.std.proofs.Common.{◌≡◌, map, take}
use Rattle.society_core.specs.Book.{numbers_to, sent_under}
use Rattle.works_core.specs.Line.{line_of}
use Rattle.society_core.proofs.plain_lines.line_to.Given as goal

abbrev pub invariant-loop-next : goal.invariant-loop-next
invariant-loop-next l = record {
  office : l.line.office ≡ l.office;
  line : l.line.transmissions ≡ line_of l.office (map (sent_under l.book l.sender) (take l.next-index (numbers_to l.book l.sender l.last)));
}
