use Rattle.std.proofs.lemmas.List.{take_rest}
use Rattle.cwr_records.proofs.lemmas.Lines.{none-found, found-at}
use Rattle.cwr_records.proofs.line.whole_piece.Goals as goal

pub returns-in-Some : goal.returns-in-Some
returns-in-Some c =
    found-at c.args.bytes.now _ c.args.searched c.in-Some.place (take_rest c.args.bytes.now c.args.searched) c.requires.within c.requires.none_there c.in-Some.ensures

pub returns-in-None : goal.returns-in-None
returns-in-None c = none-found c.args.bytes.now _ c.args.searched (take_rest c.args.bytes.now c.args.searched) c.requires.none_there c.in-None.ensures
