use Rattle.work_ids.proofs.lemmas.Capitals.{no_isrc_length}
use Rattle.work_ids.proofs.isrc.Isrc.from_text.Goals as goal

pub returns-then-text-ne-ISRC_LENGTH : goal.returns-then-text-ne-ISRC_LENGTH
returns-then-text-ne-ISRC_LENGTH c = no_isrc_length c.args.text.now c.if-text-eq-ISRC_TEXT_LENGTH.false c.if-text-ne-ISRC_LENGTH.true
