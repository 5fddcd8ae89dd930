use Rattle.std.proofs.Common.{◌++◌, ◌∷◌, [], List, ℕ, drop, suc, take, sym, ap, subst, ◌∙◌, arith}
use Rattle.std.proofs.lemmas.List.{take_all}
use Rattle.cwr_files.specs.declared.transmission.Transmission.{Transmission}
use Rattle.share_rules.specs.declared.office.Office.{Office}
use Rattle.sender_segments.specs.Ascends.{Ascends}
use Rattle.works_core.specs.Line.{judged_in}
use Rattle.works_core.specs.Numbered.{JudgedTransmission, last_number}
use Rattle.society_core.specs.Book.{front, numbers_to}
use Rattle.society_core.proofs.lemmas.Books.{sound_order}
use Rattle.society_core.proofs.lemmas.LineNumbers.{in_line_of_to, listed_more, listed_one, listed_split, numbers_rise_to, there_in_line}
use Rattle.society_core.proofs.lemmas.Lines.{line_over, over_below, over_push}
use Rattle.society_core.proofs.plain_lines.line_to.Goals as goal

pub transmission_of-requires-clause-there : goal.transmission_of-requires-clause-there
transmission_of-requires-clause-there c =
    let book = c.args.book.now in
    let sender = c.args.sender.now in
    let same = c.deref-next-items.ensures.value ∙ c.in_ok-numbers.ensures in
    there_in_line book sender c.next-item.result (in_line_of_to book sender c.args.last c.next-item.result (listed_one c.deref-next-items.result.now (numbers_to book sender c.args.last) c.loop-next.next-index c.next-item.result same c.loop-next-test.true c.next-item.is))

pub apply-requires : goal.apply-requires
apply-requires c =
    let book = c.args.book.now in
    let sender = c.args.sender.now in
    let ns = numbers_to book sender c.args.last in
    let i = c.loop-next.next-index in
    let next = c.next-item.result in
    let same = c.deref-next-items.ensures.value ∙ c.in_ok-numbers.ensures in
    let split = listed_split c.deref-next-items.result.now ns i next same c.loop-next-test.true c.next-item.is in
    let rise = numbers_rise_to book sender (sound_order book c.requires.sound sender).right c.args.last in
    let below = over_below c.args.office.now book sender 0 (front book sender) (take i ns) (drop (suc i) ns) next (subst (λ (l : List ℕ). Ascends 0 l (front book sender)) split rise) in
    let so_far = ap (last_number 0) c.loop-next.invariant.line in
    record { above = omega (arith, below, so_far) }

pub loop-next-preserved : goal.loop-next-preserved
loop-next-preserved c =
    let office = c.args.office.now in
    let book = c.args.book.now in
    let sender = c.args.sender.now in
    let ns = numbers_to book sender c.args.last in
    let before = c.loop-next.line in
    let next = c.next-item.result in
    let i = c.loop-next.next-index in
    let same = c.deref-next-items.ensures.value ∙ c.in_ok-numbers.ensures in
    let so_far = line_over office book sender (take i ns) in
    record {
      office = c.in_ok-apply.ensures.office ∙ c.loop-next.invariant.office;
      line =
          c.in_ok-apply.ensures.applied
          ∙ ap (λ (line : List JudgedTransmission). line ++ record { number = next; judged = judged_in before.office c.in_ok-transmission.transmission } ∷ []) c.loop-next.invariant.line
          ∙ ap (λ (o : Office). so_far ++ record { number = next; judged = judged_in o c.in_ok-transmission.transmission } ∷ []) c.loop-next.invariant.office
          ∙ ap (λ (t : Transmission). so_far ++ record { number = next; judged = judged_in office t } ∷ []) c.in_ok-transmission.ensures
          ∙ sym (over_push office book sender (take i ns) next)
          ∙ ap (line_over office book sender) (sym (listed_more c.deref-next-items.result.now ns i next same c.loop-next-test.true c.next-item.is));
    }

pub returns-clause-line : goal.returns-clause-line
returns-clause-line c =
    let book = c.args.book.now in
    let sender = c.args.sender.now in
    let ns = numbers_to book sender c.args.last in
    let same = c.deref-next-items.ensures.value ∙ c.in_ok-numbers.ensures in
    let long = ap (λ (l : List ℕ). Rattle.std.proofs.Common.length l) same in
    c.loop-next.invariant.line
    ∙ ap (line_over c.args.office.now book sender) (take_all c.loop-next.next-index ns (omega (arith, long, c.loop-next-test.false)))
