use Rattle.std.proofs.Common.{ℕ, List, ap, ◌∙◌, subst}
use Rattle.cwr_records.specs.Blanks.{trimmed}
use Rattle.share_rules.specs.Blocks.{AreBytes, key_of, party_key}
use Rattle.share_rules.proofs.party_keys.party_key.Goals as goal

pub returns-clause-key : goal.returns-clause-key
unfolding party_key
returns-clause-key c = c.key_of.ensures.key ∙ ap (λ (bs : List ℕ). key_of c.args.side bs) (c.trim.ensures.value ∙ ap trimmed c.field.ensures.value)

pub returns-clause-bytes : goal.returns-clause-bytes
returns-clause-bytes c =
    let P : List ℕ → Type 0 = λ bs. AreBytes bs in
    subst P (c.trim.ensures.value ∙ ap trimmed c.field.ensures.value) c.key_of.ensures.bytes
