use Rattle.std.proofs.Common.{◌≡◌, List, ℕ, bytes_eq, is_some, take}
use Rattle.std.specs.BTreeMap as tree
use Rattle.std.specs.List.{list_any}
use Rattle.society_core.specs.Keys.{bytes_cmp}
use Rattle.society_closings.proofs.named_works.NamedWorks.of_cut.Given as goal

-- each sender so far is there, and no other
abbrev pub invariant-loop-key : goal.invariant-loop-key
invariant-loop-key l = (sender : List ℕ) → is_some (tree.get bytes_cmp l.by_sender sender) ≡ list_any (λ key. bytes_eq key.sender sender) (take l.key-index l.cut)
