use Rattle.std.proofs.Common.{option_map, ap, sym, ◌∙◌}
use Rattle.sender_segments.specs.Ways.{end_stated}
use Rattle.society_core.specs.Book.{ends_among}
use Rattle.society_core.specs.Keys.{segment_key}
use Rattle.society_core.specs.PlainMaps.{ends_kept}
use Rattle.society_core.proofs.lemmas.Kept.{get_shown}
use Rattle.society_core.proofs.lemmas.KeyOrders.{exact_segments, segments_total}
use Rattle.society_core.proofs.line.SenderNumbersNumbers.end_of.Goals as goal

pub returns : goal.returns
returns c =
    let kept = c.args.self.now.ends.now in
    let sender = c.args.self.now.sender in
    ap (option_map end_stated) (c.copied.ensures ∙ c.get.ensures.value)
    ∙ sym (get_shown segments_total exact_segments end_stated kept.entries (segment_key sender c.of_rank.result))
    ∙ ap (ends_among (ends_kept kept) sender) c.of_rank.ensures
