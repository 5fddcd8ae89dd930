use Rattle.std.proofs.Common.{ℕ, None, List, [], refl}
use Rattle.share_rules.specs.Blocks.{latest}
use Rattle.share_rules.specs.declared.party.Side.{Side}
use Rattle.share_rules.proofs.lemmas.Blocks.{one_for_all}
use Rattle.share_rules.proofs.holding.push_block.Goals as goal

pub note_all-requires-clause-none : goal.note_all-requires-clause-none
note_all-requires-clause-none c = one_for_all (λ (s : Side) (n : List ℕ). latest c.args.basis.now.office.now s n []) c.of-keys.result.keys None (λ t m. refl)
