use Rattle.std.proofs.Common.{◌≡◌, ◌⊎◌, inl, inr, [], List, Option, None, ap, sym, ◌∙◌, ℕ, arith}
use Rattle.std.proofs.lemmas.Bool.{false≢true}
use Rattle.society_core.specs.Book.{front}
use Rattle.society_core.proofs.lemmas.Books.{sound_order}
use Rattle.society_core.proofs.lemmas.LineNumbers.{in_line_of_to, there_in_line}
use Rattle.society_core.proofs.lemmas.Lines.{last_in_line, last_within, line_rises, line_to, versions_at_end}
use Rattle.society_core.proofs.lemmas.Numbers.{not_passed, number_is}
use Rattle.work_ids.specs.Segments.{is_transmission_number}
use Rattle.works_core.specs.Numbered.{JudgedTransmission, last_number}
use Rattle.works_core.specs.Versions.{work_at}
use Rattle.works_core.specs.declared.version.WorkVersion.{WorkVersion}
use Rattle.society_core.proofs.plain_lines.version_of.Goals as goal

pub returns-in_default : goal.returns-in_default
unfolding work_at
returns-in_default c =
    let office = c.args.office.now in
    let book = c.args.book.now in
    let sender = c.args.sender.now in
    let order = sound_order book c.requires.sound sender in
    let f = front book sender in
    let line = c.in_ok-line.ensures.line ∙ ap (line_to office book sender) c.front.ensures in
    let last : c.front-2.result ≡ last_number 0 (line_to office book sender f) = c.front-2.ensures.front ∙ ap (last_number 0) line in
    let not_one = not_passed is_transmission_number c.front-2.result (sym c.from_u32.ensures ∙ c.in_default.is) in
    by_last (line_to office book sender f) c.args.work.now f (last_in_line office book sender order.right)
    (λ one. false≢true (sym (ap is_transmission_number (sym last) ∙ not_one) ∙ order.numbers (last_number 0 (line_to office book sender f)) (there_in_line book sender (last_number 0 (line_to office book sender f)) (in_line_of_to book sender f (last_number 0 (line_to office book sender f)) one))))
  where
    by_last : {P : Type 0} (line : List JudgedTransmission) (work : List ℕ) (cut : ℕ) → P ⊎ (line ≡ []) → (P → ⊥) → ◌≡◌ {A = Option WorkVersion} None (work_at line work cut)
    by_last line work cut (inl one) never = absurd (never one)
    by_last line work cut (inr none) never = sym (ap (λ (l : List JudgedTransmission). work_at l work cut) none)

pub returns : goal.returns
returns c =
    let office = c.args.office.now in
    let book = c.args.book.now in
    let sender = c.args.sender.now in
    let work = c.args.work.now in
    let order = sound_order book c.requires.sound sender in
    let f = front book sender in
    let line = c.in_ok-line.ensures.line ∙ ap (line_to office book sender) c.front.ensures in
    let last : c.in-Some.cut ≡ last_number 0 (line_to office book sender f) = number_is is_transmission_number c.front-2.result c.in-Some.cut (sym c.from_u32.ensures ∙ c.in-Some.is) ∙ c.front-2.ensures.front ∙ ap (last_number 0) line in
    c.work_at.ensures
    ∙ ap (λ (l : List JudgedTransmission). work_at l work c.in-Some.cut) line
    ∙ versions_at_end (line_to office book sender f) work c.in-Some.cut f (line_rises office book sender order.right f) (omega (arith, last)) (last_within office book sender order.right)
