use Rattle.std.proofs.Common.{◌≡◌, ◌≢◌, [], Some, drop, map, ap, ◌∙◌}
use Rattle.std.proofs.lemmas.List.{take_rest}
use Rattle.cwr_records.specs.Lines.{line_of_piece}
use Rattle.cwr_files.proofs.lemmas.OnePass.{read-room, last-room, none-left, some-left, ends-behind-lines, ends-behind-last, ends-faulty}
use Rattle.cwr_files.proofs.fault_finder.last_fault.Goals as goal

pub end_fault-requires : goal.end_fault-requires
end_fault-requires c = (read-room _ _ _ c.requires.read).lines

pub returns-then-is_empty : goal.returns-then-is_empty
returns-then-is_empty c =
    let none : drop c.args.at.now.start c.args.body.now ≡ [] = none-left _ _ _ (take_rest c.args.body.now c.args.at.now.start) c.is_empty.ensures c.if-is_empty.true in
    c.end_fault.ensures ∙ ends-behind-lines c.args.sender.now c.args.body.now c.args.at.now c.requires.read none

pub step-requires : goal.step-requires
step-requires c = read-room _ _ _ c.requires.read

pub end_fault-requires-in-Ok : goal.end_fault-requires-in-Ok
end_fault-requires-in-Ok c =
    let r = c.requires.read in
    last-room c.args.sender.now c.args.body.now _ c.args.at.now c.in-Ok.counts c.requires.read (c.in-Ok.ensures.behind (map line_of_piece r.past) r.counted).1

pub at_next_line-requires : goal.at_next_line-requires
at_next_line-requires c = (read-room _ _ _ c.requires.read).lines

pub returns-in-Ok : goal.returns-in-Ok
returns-in-Ok c =
    let r = c.requires.read in
    let some : drop c.args.at.now.start c.args.body.now ≢ [] = some-left _ _ _ (take_rest c.args.body.now c.args.at.now.start) c.is_empty.ensures c.if-is_empty.false in
    c.end_fault-in-Ok.ensures
    ∙ ends-behind-last c.args.sender.now c.args.body.now _ c.args.at.now c.in-Ok.counts c.requires some (c.line_of.ensures ∙ ap line_of_piece (take_rest c.args.body.now c.args.at.now.start)) (c.in-Ok.ensures.behind (map line_of_piece r.past) r.counted)

pub returns-in-Err : goal.returns-in-Err
returns-in-Err c =
    let r = c.requires.read in
    let some : drop c.args.at.now.start c.args.body.now ≢ [] = some-left _ _ _ (take_rest c.args.body.now c.args.at.now.start) c.is_empty.ensures c.if-is_empty.false in
    ap Some c.at_next_line.ensures
    ∙ ends-faulty c.args.sender.now c.args.body.now _ c.args.at.now c.in-Err.number c.requires some (c.line_of.ensures ∙ ap line_of_piece (take_rest c.args.body.now c.args.at.now.start)) (c.in-Err.ensures.behind (map line_of_piece r.past) r.counted)
