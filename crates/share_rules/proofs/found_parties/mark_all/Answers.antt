use Rattle.std.proofs.Common.{List, subst, arith}
use Rattle.std.proofs.lemmas.List.{take_all}
use Rattle.cwr_records.specs.declared.record.Record.{Record}
use Rattle.share_rules.specs.Blocks.{AreFound}
use Rattle.share_rules.proofs.found_parties.mark_all.Goals as goal

pub returns : goal.returns
returns c =
    let P : List Record → Type 0 = λ rs. AreFound c.args.keys.now.keys c.loop-record.found rs in
    subst P (take_all c.loop-record.record-index c.args.records.now (omega arith)) c.loop-record.invariant
