use Rattle.std.proofs.Common.{List, Option, Some, None, Ok, Vec, Global, ap, sym, ◌∙◌, option_map, [], unwrap_or}
use Rattle.ack_files.specs.Acknowledgement.{acknowledgement_file}
use Rattle.cwr_files.specs.Contents.{transmission_in}
use Rattle.society_core.specs.Book.{body_at}
use Rattle.society_book.proofs.lemmas.shown.AckRows.{acknowledged, not_acknowledged}
use Rattle.society_book.proofs.lemmas.shown.QuestionLemmas.{asked_then, then_asked}
use Rattle.works_core.specs.declared.verdict.Verdict.{Verdict}
use Rattle.society_book.proofs.acknowledgements.ack_of.Goals as goal

items_of : Option (Vec Verdict Global) → Option (List Verdict)
items_of list = option_map (λ v. v.items) list

pub returns : goal.returns
unfolding items_of
returns g c =
    record {
      asked =
          let o = c.args.office.now in
          let s = c.args.sender.now in
          let n = c.args.number in
          asked_then _ _ _ _ c.acknowledgement_of.result _ _ _
          (rw c.as_bytes.ensures.bytes at c.in_ok-verdicts.ensures.asked) (rw c.value.ensures.value at c.acknowledgement_of.ensures.asked)
          (λ y judged text b holds.
          acknowledged o b s n c.in-Some.verdicts.items _ (sym (ap items_of c.in-Some.is) ∙ judged o b holds)
          (text o b holds ∙ ap (λ (vs : List Verdict). Some (acknowledgement_file o s (transmission_in (unwrap_or (body_at b s n) [])) vs)) c.as_slice.ensures.value));
    }

pub returns-in_default : goal.returns-in_default
unfolding items_of
returns-in_default g c =
    record {
      asked =
          let o = c.args.office.now in
          let s = c.args.sender.now in
          let n = c.args.number in
          then_asked _ _ c.in_ok-verdicts.field-0 (Ok None) _ _ (rw c.as_bytes.ensures.bytes at c.in_ok-verdicts.ensures.asked)
          (λ judged b holds. not_acknowledged o b s n (sym (ap items_of c.in_default.is) ∙ judged o b holds));
    }
