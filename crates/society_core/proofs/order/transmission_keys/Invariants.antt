use Rattle.std.proofs.Common.{◌≡◌, true, map, take}
use Rattle.std.specs.List.{list_all}
use Rattle.society_core.specs.Keys.{transmission_key}
use Rattle.work_ids.specs.SenderKey.{is_sender_key}
use Rattle.society_core.proofs.order.transmission_keys.Given as goal

abbrev pub invariant-loop-sender : goal.invariant-loop-sender
invariant-loop-sender l =
    (l.keys.items ≡ map (λ c. transmission_key c.0 c.1) (take l.sender-index l.cut))
    × (list_all (λ c. is_sender_key c.0) (take l.sender-index l.cut) ≡ true)
