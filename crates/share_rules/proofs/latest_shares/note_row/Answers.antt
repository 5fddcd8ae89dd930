use Rattle.std.proofs.Common.{◌<◌, ℕ, Some, List, ◌∷◌, is_some, length, sym, ap, ◌∙◌, arith}
use Rattle.std.proofs.lemmas.List.{get_or_default}
use Rattle.share_rules.specs.Blocks.{latest}
use Rattle.share_rules.specs.declared.party.Side.{Side}
use Rattle.share_rules.proofs.lemmas.Blocks.{answers_hold, answers_set, answers_stay}
use Rattle.share_rules.proofs.lemmas.Latest.{first_taken, later_stays, row_counts, row_passes}
use Rattle.share_rules.proofs.latest_shares.note_row.Goals as goal

pub returns-then-is_none : goal.returns-then-is_none
returns-then-is_none c r is more kept =
    let row = c.args.row.now in
    let office = c.args.office.now in
    let values = c.args.latest.now in
    let place = c.in-Some.place in
    let room : place < length values = omega (arith, c.requires, c.in-Some.ensures.within) in
    answers_set (λ (s : Side) (n : List ℕ). latest office s n more) (λ (s : Side) (n : List ℕ). latest office s n (r ∷ more)) c.args.keys.now.keys values row.side row.number place (Some c.shares_by.result) (sym c.in-Some.ensures.place) c.in-Some.ensures.bytes room
    (λ t m other. row_passes office t m r more row is other)
    (λ t m d same was.
    row_counts office t m r more row is (sym c.if-not-counts.ensures) same
    ∙ first_taken (latest office t m more) _ (ap is_some (sym was ∙ get_or_default values place d c.index-latest-place.result room) ∙ c.if-is_none.ensures)
    ∙ ap Some (sym c.shares_by.ensures))
    kept

pub returns-else-is_none : goal.returns-else-is_none
returns-else-is_none c r is more kept =
    let row = c.args.row.now in
    let office = c.args.office.now in
    let values = c.args.latest.now in
    let place = c.in-Some.place in
    let room : place < length values = omega (arith, c.requires, c.in-Some.ensures.within) in
    answers_hold (λ (s : Side) (n : List ℕ). latest office s n more) (λ (s : Side) (n : List ℕ). latest office s n (r ∷ more)) c.args.keys.now.keys values row.side row.number place (sym c.in-Some.ensures.place)
    (λ t m other. row_passes office t m r more row is other)
    (λ t m d same was.
    row_counts office t m r more row is (sym c.if-not-counts.ensures) same
    ∙ later_stays (latest office t m more) _ (ap is_some (sym was ∙ get_or_default values place d c.index-latest-place.result room) ∙ c.if-is_none.ensures))
    kept

pub returns-in_default : goal.returns-in_default
returns-in_default c r is more kept =
    let row = c.args.row.now in
    let office = c.args.office.now in
    answers_stay (λ (s : Side) (n : List ℕ). latest office s n more) (λ (s : Side) (n : List ℕ). latest office s n (r ∷ more)) c.args.keys.now.keys c.args.latest.now row.side row.number (sym c.in_default.ensures.place)
    (λ t m other. row_passes office t m r more row is other)
    kept
