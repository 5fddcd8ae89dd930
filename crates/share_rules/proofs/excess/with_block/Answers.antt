use Rattle.std.proofs.Common.{◌≡◌, ◌+◌, ◌-◌, ◌<◌, ℕ, None, List, [], length, refl, sym, ap, ◌∙◌, arith}
use Rattle.std.proofs.lemmas.List.{take_rest}
use Rattle.share_rules.specs.Blocks.{collected_behind, latest}
use Rattle.share_rules.specs.Parties.{collected}
use Rattle.share_rules.specs.Steps.{is_exceeded}
use Rattle.share_rules.specs.declared.party.Side.{Side}
use Rattle.share_rules.proofs.lemmas.Blocks.{one_for_all}
use Rattle.share_rules.proofs.lemmas.Exceeding.{exceeds_from, sums_front}
use Rattle.share_rules.proofs.excess.with_block.Goals as goal

pub note_all-requires-clause-none : goal.note_all-requires-clause-none
note_all-requires-clause-none c = one_for_all (λ (s : Side) (n : List ℕ). latest c.args.office.now s n []) c.of-keys.result.keys None (λ t m. refl)

pub returns-then-is_exceeded-clause-none : goal.returns-then-is_exceeded-clause-none
returns-then-is_exceeded-clause-none c =
    let l = c.loop-index in
    let i = l.index - 1 in
    let office = c.args.office.now in
    let rs = c.args.records.now in
    let r = c.index-records-index.result in
    let low : i < length rs = omega (arith, c.requires.within, l.invariant.within) in
    let next : i + 1 ≡ l.index = omega (arith, c.loop-index-test.true) in
    let sums = sums_front office rs i r low c.index-records-index.is in
    let after = rw take_rest at c.collected_in.ensures in
    let was = ap (collected_behind office rs) next ∙ sym l.invariant.sums in
    let e : c.with-totals.result ≡ collected_behind office rs i = cc in
    exceeds_from (collected office) rs i (ap is_exceeded (sym e) ∙ sym c.is_exceeded.ensures ∙ c.if-is_exceeded.true)
