use Rattle.std.proofs.Common.{ℕ, false, List, [], refl}
use Rattle.std.specs.List.{list_any}
use Rattle.share_rules.specs.Parties.{is_interested_party}
use Rattle.share_rules.specs.declared.party.Side.{Side}
use Rattle.share_rules.proofs.lemmas.Blocks.{one_for_all}
use Rattle.share_rules.proofs.many_faults.block_has_row_without_party.Goals as goal

pub mark_all-requires-clause-none : goal.mark_all-requires-clause-none
mark_all-requires-clause-none c = one_for_all (λ (s : Side) (n : List ℕ). list_any (is_interested_party s n) []) c.of-keys.result.keys false (λ t m. refl)
