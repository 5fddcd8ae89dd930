use Rattle.std.proofs.Common.{ap, sym, ◌∙◌}
use Rattle.std.specs.FinMap as finite
use Rattle.sender_segments.specs.Ways.{end_stated}
use Rattle.society_core.specs.Book.{Book}
use Rattle.society_core.specs.Keys.{segment_key}
use Rattle.society_core.proofs.lemmas.Kept.{get_shown, lent_one, shown_one}
use Rattle.society_core.proofs.lemmas.KeyOrders.{exact_segments, segments_total}
use Rattle.society_core.proofs.plain_book.PlainBook.end.Goals as goal

pub returns : goal.returns
returns c =
    let key = segment_key c.args.sender.now c.args.segment in
    lent_one segments_total exact_segments end_stated c.get.result
    ∙ ap (shown_one segments_total exact_segments end_stated) c.get.ensures.value
    ∙ sym (get_shown segments_total exact_segments end_stated c.self.inside.ends.entries key)
    ∙ ap (λ (b : Book). finite.get b.ends key) c.self.view_is
