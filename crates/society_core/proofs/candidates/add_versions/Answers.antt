use Rattle.std.proofs.Common.{◌≡◌, ◌<◌, ◌++◌, ◌∷◌, ◌+◌, [], List, ℕ, Bool, Some, take, length, sym, ap, subst, ◌∙◌, arith}
use Rattle.std.specs.List.{slice_get}
use Rattle.std.proofs.lemmas.Bool.{false≢true}
use Rattle.std.proofs.lemmas.List.{length-take-le, take_more, take_all}
use Rattle.std.proofs.lemmas.Option.{get_or_from_slice_get, slice_get_within}
use Rattle.cwr_files.specs.Contents.{transactions_of}
use Rattle.cwr_files.specs.Transaction.{number_of_work}
use Rattle.cwr_files.specs.declared.transmission.Transaction.{Transaction}
use Rattle.cwr_files.specs.declared.transmission.Transmission.{Transmission}
use Rattle.society_core.specs.Points.{is_tallied}
use Rattle.society_core.specs.Candidates.{AddsCandidates, is_version_by, transactions_sent, work_where}
use Rattle.society_core.specs.Owners.{CutWork, is_version_at, versions_of_transmission}
use Rattle.works_core.specs.Line.{verdicts_at}
use Rattle.works_core.specs.Numbered.{JudgedTransmission, has_number}
use Rattle.society_core.proofs.lemmas.CandidateLemmas.{adds_then, is_version_same, no_place, verdicts_counted_in, versions_push}
use Rattle.society_core.proofs.lemmas.Lines.{line_has_one}
use Rattle.society_core.proofs.candidates.add_versions.Goals as goal
use Rattle.society_core.specs.Pools.{holders_of}

pub unreachable-requires : goal.unreachable-requires
unreachable-requires c =
    let there = line_has_one c.args.weighing.now.office.now c.args.book.now c.args.key.now.sender c.args.key.now.number c.args.number c.requires.within in
    false≢true (sym c.in_default.ensures ∙ ap (has_number c.args.number) c.requires.line ∙ there)

pub unreachable-requires-in_default-transaction : goal.unreachable-requires-in_default-transaction
unreachable-requires-in_default-transaction c =
    let ts = transactions_sent c.args.book.now c.args.key.now.sender c.args.number in
    let told = c.in-Some.ensures.1 ∙ ap (λ (l : List JudgedTransmission). verdicts_at l c.args.number) c.requires.line in
    let count : length c.in-Some.verdicts.now ≡ length ts = ap (λ vs. length vs) told ∙ verdicts_counted_in c.args.weighing.now.office.now c.args.book.now c.args.key.now.sender c.args.key.now.number c.args.number c.requires.within in
    let below : c.loop-place.place < length ts = omega (arith, count, c.loop-place-test.true) in
    no_place ts c.loop-place.place below (ap (λ (t : Transmission). slice_get (transactions_of t) c.loop-place.place) (sym c.in_ok-transmission.ensures) ∙ sym c.in_default-transaction.ensures)

pub loop-place-preserved : goal.loop-place-preserved
loop-place-preserved c =
    let office = c.args.weighing.now.office.now in
    let book = c.args.book.now in
    let key = c.args.key.now in
    let ts = transactions_sent book key.sender c.args.number in
    let place = c.loop-place.place in
    let t = c.in-Some-transaction.transaction.now in
    let there : slice_get ts place ≡ Some t = ap (λ (s : Transmission). slice_get (transactions_of s) place) (sym c.in_ok-transmission.ensures) ∙ sym c.in-Some-transaction.ensures in
    let within : place < length ts = slice_get_within ts place t there in
    let next : take (place + 1) ts ≡ take place ts ++ t ∷ [] = take_more ts place t within ∙ ap (λ (x : Transaction). take place ts ++ x ∷ []) (get_or_from_slice_get ts place t t there) in
    let count : length (take place ts) ≡ place = length-take-le place ts (omega arith) in
    let step : versions_of_transmission office book key c.args.number (take (place + 1) ts) ≡ versions_of_transmission office book key c.args.number (take place ts) ++ work_where (is_version_at office book key c.args.number place (number_of_work t)) key.sender t =
    ap (versions_of_transmission office book key c.args.number) next
    ∙ versions_push office book key c.args.number (take place ts) t
    ∙ ap (λ (n : ℕ). versions_of_transmission office book key c.args.number (take place ts) ++ work_where (is_version_at office book key c.args.number n (number_of_work t)) key.sender t) count in
    let same : is_version_by c.args.line.now.transmissions key.number c.args.number place (number_of_work t) ≡ is_version_at office book key c.args.number place (number_of_work t) =
    ap (λ (l : List JudgedTransmission). is_version_by l key.number c.args.number place (number_of_work t)) c.requires.line ∙ is_version_same office book key c.args.number place (number_of_work t) in
    subst (λ (ws : List CutWork). AddsCandidates (holders_of c.args.weighing.now.kind office) (is_tallied c.args.weighing.now.tally.now) ws c.args.candidates.now.items c.add_transaction.new.candidates.items)
    (ap (λ (b : Bool). versions_of_transmission office book key c.args.number (take place ts) ++ work_where b key.sender t) same ∙ sym step)
    (adds_then (holders_of c.args.weighing.now.kind office) (is_tallied c.args.weighing.now.tally.now) (versions_of_transmission office book key c.args.number (take place ts)) (work_where (is_version_by c.args.line.now.transmissions key.number c.args.number place (number_of_work t)) key.sender t) c.args.candidates.now.items c.loop-place.candidates.items c.add_transaction.new.candidates.items c.loop-place.invariant c.in_ok-add_transaction.ensures)

pub returns : goal.returns
returns c =
    let ts = transactions_sent c.args.book.now c.args.key.now.sender c.args.number in
    let told = c.in-Some.ensures.1 ∙ ap (λ (l : List JudgedTransmission). verdicts_at l c.args.number) c.requires.line in
    let count : length c.in-Some.verdicts.now ≡ length ts = ap (λ vs. length vs) told ∙ verdicts_counted_in c.args.weighing.now.office.now c.args.book.now c.args.key.now.sender c.args.key.now.number c.args.number c.requires.within in
    let all : take c.loop-place.place ts ≡ ts = take_all c.loop-place.place ts (omega (arith, count, c.loop-place-test.false)) in
    subst (λ (xs : List Transaction). AddsCandidates (holders_of c.args.weighing.now.kind c.args.weighing.now.office.now) (is_tallied c.args.weighing.now.tally.now) (versions_of_transmission c.args.weighing.now.office.now c.args.book.now c.args.key.now c.args.number xs) c.args.candidates.now.items c.loop-place.candidates.items) all c.loop-place.invariant
