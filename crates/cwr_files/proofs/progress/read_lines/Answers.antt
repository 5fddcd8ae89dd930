use Rattle.std.proofs.Common.{map}
use Rattle.std.proofs.lemmas.List.{take_rest}
use Rattle.cwr_records.specs.Lines.{line_of_piece}
use Rattle.cwr_files.proofs.lemmas.OnePass.{read-room, next-line, fault-line}
use Rattle.cwr_files.proofs.progress.read_lines.Goals as goal

pub step-requires : goal.step-requires
step-requires c = read-room _ _ _ c.lines.invariant.read

pub at_next_line-requires : goal.at_next_line-requires
at_next_line-requires c = (read-room _ _ _ c.lines.invariant.read).lines

pub returns-in-Err : goal.returns-in-Err
returns-in-Err c =
    let r = c.lines.invariant.read in
    fault-line c.args.sender.now c.args.body.now _ _ c.lines.at c.in-Some.count c.in-Err.number _ c.lines.invariant.read (take_rest c.args.body.now c.lines.at.start) c.in-Some.ensures c.line_of-line.ensures (c.in-Err.ensures.behind (map line_of_piece r.past) r.counted) c.at_next_line.ensures

pub lines-preserved : goal.lines-preserved
lines-preserved c =
    let r = c.lines.invariant.read in
    next-line c.args.sender.now c.args.body.now _ _ c.lines.at c.in-Some.count c.in-Ok.counts c.lines.invariant.read (take_rest c.args.body.now c.lines.at.start) c.in-Some.ensures c.line_of-line.ensures (c.in-Ok.ensures.behind (map line_of_piece r.past) r.counted)
