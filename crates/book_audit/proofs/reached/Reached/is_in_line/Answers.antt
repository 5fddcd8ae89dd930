use Rattle.std.proofs.Common.{sym}
use Rattle.book_audit.proofs.reached.Reached.is_in_line.Goals as goal

pub returns-in-Some : goal.returns-in-Some
returns-in-Some c db knows known o b holds =
    c.is_in_line.ensures db c.args.key.now.sender (knows c.args.key.now.sender c.in-Some.reach.now (sym c.in-Some.ensures.value)) o b holds
