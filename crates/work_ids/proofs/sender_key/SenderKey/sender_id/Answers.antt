use Rattle.std.proofs.Common.{drop, arith}
use Rattle.std.proofs.lemmas.List.{take_all, length-drop}
use Rattle.work_ids.proofs.sender_key.SenderKey.sender_id.Goals as goal

pub returns-clause-bytes : goal.returns-clause-bytes
returns-clause-bytes c =
    let bytes = c.self.inside.bytes in
    rw (← c.self.view_is) (take_all 9 (drop 2 bytes) (omega (arith, length-drop 2 bytes)))
