use Rattle.std.proofs.lemmas.Result.{IfOk-weaker}
use Rattle.cwr_files.proofs.lemmas.Judged.{headed, reads_in, small}
use Rattle.cwr_files.proofs.reader.known_transmission.Goals as goal

pub contents-requires-clause-headed : goal.contents-requires-clause-headed
contents-requires-clause-headed c = headed c.args._sender.now c.args.body.now c.requires.right

pub contents-requires-clause-room : goal.contents-requires-clause-room
contents-requires-clause-room c = small c.args._sender.now c.args.body.now c.requires.right

pub returns : goal.returns
returns c = record { reads = IfOk-weaker c.contents.result _ _ (reads_in c.args.body.now) c.contents.ensures }
