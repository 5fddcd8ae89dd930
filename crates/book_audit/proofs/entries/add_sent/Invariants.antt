use Rattle.std.proofs.Common.{◌≡◌, ◌++◌, map, take}
use Rattle.book_audit.proofs.entries.add_sent.Given as goal

abbrev pub invariant-loop-key : goal.invariant-loop-key
invariant-loop-key l = l.senders.items ≡ l.fn.senders.items ++ map (λ key. key.sender) (take l.key-index l.keys)
