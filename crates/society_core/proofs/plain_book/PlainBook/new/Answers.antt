use Rattle.std.proofs.Common.{[], ℕ, List, Vec, Global, unwrap_or, ap, sym, ◌∙◌}
use Rattle.std.specs.FinMap as finite
use Rattle.society_core.specs.Book.{front_in}
use Rattle.society_core.specs.Keys.{bytes_cmp}
use Rattle.society_core.specs.PlainMaps.{bodies_of, stated_by}
use Rattle.society_core.specs.declared.segment_key.SegmentKey.{SegmentKey}
use Rattle.society_core.specs.declared.transmission_key.TransmissionKey.{TransmissionKey}
use Rattle.society_core.proofs.lemmas.Books.{no_front}
use Rattle.std.specs.Map.{lookup}
use Rattle.std.specs.BTreeMap.{is_at}
use Rattle.work_ids.specs.SegmentEnds.{StatedEnd}
use Rattle.society_core.proofs.plain_book.PlainBook.new.Goals as goal

pub invariant_of-result : goal.invariant_of-result
invariant_of-result c = λ sender.
    ap (λ (es : List (List ℕ × ℕ)). unwrap_or (lookup (is_at (bytes_cmp sender)) es) 0) c.new-5.ensures.empty
    ∙ no_front sender
    ∙ sym (ap (λ (es : List (TransmissionKey × Vec ℕ Global)). front_in (finite.from_entries (bodies_of es)) (finite.from_entries (stated_by c.new-2.result.entries)) sender) c.new.ensures.empty
    ∙ ap (λ (es : List (SegmentKey × StatedEnd)). front_in (finite.from_entries (bodies_of [])) (finite.from_entries (stated_by es)) sender) c.new-2.ensures.empty)
