use Rattle.std.proofs.Common.{ℕ, false, List, [], refl, sym, ◌∙◌}
use Rattle.std.specs.List.{list_any}
use Rattle.share_rules.specs.Parties.{is_interested_party}
use Rattle.share_rules.specs.declared.party.Side.{Side}
use Rattle.share_rules.proofs.lemmas.Blocks.{one_for_all}
use Rattle.share_rules.proofs.lemmas.Found.{no_links}
use Rattle.share_rules.proofs.many_faults.block_has_no_publisher.Goals as goal

pub mark_all-requires-clause-none : goal.mark_all-requires-clause-none
mark_all-requires-clause-none c = one_for_all (λ (s : Side) (n : List ℕ). list_any (is_interested_party s n) []) c.of-keys.result.keys false (λ t m. refl)

pub returns-then-not-has_link : goal.returns-then-not-has_link
returns-then-not-has_link c = sym (no_links c.args.records.now c.args.block.now (sym c.has_link.ensures ∙ c.if-not-has_link.true))
