use Rattle.std.proofs.Common.{◌≡◌, List, ℕ, length, take, sym, ap, subst, ◌∙◌, arith}
use Rattle.std.proofs.lemmas.List.{take_all}
use Rattle.society_core.specs.Points.{is_tallied}
use Rattle.society_core.specs.Candidates.{AddsCandidates, transactions_sent}
use Rattle.society_core.specs.Book.{numbers_to}
use Rattle.society_core.specs.Owners.{CutWork, versions_of_transmission}
use Rattle.society_core.specs.Pools.{holders_of}
use Rattle.society_core.proofs.lemmas.CandidateLemmas.{adds_then, versions_over, versions_over_push}
use Rattle.society_core.proofs.lemmas.LineNumbers.{in_line_of_to, listed_more, listed_one, there_in_line}
use Rattle.society_core.proofs.lemmas.Lines.{line_to}
use Rattle.society_core.proofs.candidates.add_sender.Goals as goal

pub add_versions-requires-clause-line : goal.add_versions-requires-clause-line
add_versions-requires-clause-line c = c.in_ok-line.ensures.line ∙ ap (line_to c.args.weighing.now.office.now c.args.book.now c.args.key.now.sender) c.value.ensures.value

pub add_versions-requires-clause-within : goal.add_versions-requires-clause-within
add_versions-requires-clause-within c =
    let book = c.args.book.now in
    let key = c.args.key.now in
    let same = c.deref-number-items.ensures.value ∙ c.in_ok-numbers.ensures ∙ ap (numbers_to book key.sender) c.value-2.ensures.value in
    listed_one c.deref-number-items.result.now (numbers_to book key.sender key.number) c.loop-number.number-index c.number-item.result same c.loop-number-test.true c.number-item.is

pub add_versions-requires-clause-there : goal.add_versions-requires-clause-there
add_versions-requires-clause-there c =
    let book = c.args.book.now in
    let key = c.args.key.now in
    let same = c.deref-number-items.ensures.value ∙ c.in_ok-numbers.ensures ∙ ap (numbers_to book key.sender) c.value-2.ensures.value in
    let one = listed_one c.deref-number-items.result.now (numbers_to book key.sender key.number) c.loop-number.number-index c.number-item.result same c.loop-number-test.true c.number-item.is in
    there_in_line book key.sender c.number-item.result (in_line_of_to book key.sender key.number c.number-item.result one)

pub loop-number-preserved : goal.loop-number-preserved
loop-number-preserved c =
    let office = c.args.weighing.now.office.now in
    let book = c.args.book.now in
    let key = c.args.key.now in
    let ns = numbers_to book key.sender key.number in
    let i = c.loop-number.number-index in
    let n = c.number-item.result in
    let same = c.deref-number-items.ensures.value ∙ c.in_ok-numbers.ensures ∙ ap (numbers_to book key.sender) c.value-2.ensures.value in
    let more = versions_of_transmission office book key n (transactions_sent book key.sender n) in
    subst (λ (ws : List CutWork). AddsCandidates (holders_of c.args.weighing.now.kind office) (is_tallied c.args.weighing.now.tally.now) ws c.args.candidates.now.items c.add_versions.new.candidates.items)
    (sym (ap (versions_over office book key) (listed_more c.deref-number-items.result.now ns i n same c.loop-number-test.true c.number-item.is) ∙ versions_over_push office book key (take i ns) n))
    (adds_then (holders_of c.args.weighing.now.kind office) (is_tallied c.args.weighing.now.tally.now) (versions_over office book key (take i ns)) more c.args.candidates.now.items c.loop-number.candidates.items c.add_versions.new.candidates.items c.loop-number.invariant c.in_ok-add_versions.ensures)

pub returns : goal.returns
returns c =
    let office = c.args.weighing.now.office.now in
    let book = c.args.book.now in
    let key = c.args.key.now in
    let ns = numbers_to book key.sender key.number in
    let same = c.deref-number-items.ensures.value ∙ c.in_ok-numbers.ensures ∙ ap (numbers_to book key.sender) c.value-2.ensures.value in
    let long = ap (λ (l : List ℕ). length l) same in
    let all : take c.loop-number.number-index ns ≡ ns = take_all c.loop-number.number-index ns (omega (arith, long, c.loop-number-test.false)) in
    subst (λ (l : List ℕ). AddsCandidates (holders_of c.args.weighing.now.kind office) (is_tallied c.args.weighing.now.tally.now) (versions_over office book key l) c.args.candidates.now.items c.loop-number.candidates.items) all c.loop-number.invariant
