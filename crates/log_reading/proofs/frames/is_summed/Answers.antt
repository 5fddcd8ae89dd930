use Rattle.std.proofs.Common.{sym, ◌∙◌, ap, ap₂}
use Rattle.std.proofs.lemmas.List.{take_rest}
use Rattle.sqlite_wal.specs.Format.{checksum}
use Rattle.sqlite_wal.proofs.FormatLemmas.{same_sums, part_front}
use Rattle.log_reading.proofs.frames.is_summed.Goals as goal

pub returns : goal.returns
returns c =
    let decides = same_sums _ _ _ c.eq.ensures in
    let front = ap (checksum c.args.big c.args.before) (part_front c.args.frame.now 8) ∙ sym c.checksum_of-front.ensures in
    let ours = ap₂ (checksum c.args.big) front (sym (take_rest c.args.frame.now 24)) ∙ sym c.checksum_of.ensures in (
      λ same. record {
        page = λ none. c.if-get_be32-eq0.false (c.get_be32.ensures ∙ none);
        sum = ours ∙ decides.0 same ∙ c.get_sums.ensures;
      },
      λ summed. decides.1 (sym ours ∙ summed.sum ∙ sym c.get_sums.ensures),
    )
