use Rattle.std.proofs.Common.{◌≢◌, ◌<◌, length, slice_index, sym, ◌∙◌}
use Rattle.std.proofs.lemmas.Bool.{false≢true, not-true}
use Rattle.log_reading.specs.Stands.{HasSums}
use Rattle.log_reading.proofs.Standing.{held_by}
use Rattle.log_reading.proofs.stands.stands_without.Goals.{else-has_sums-via-then-has_sums+in_ok-begins_as_a_log+else-branch, else-has_sums-via-else-has_sums}
use Rattle.log_reading.proofs.stands.stands_without.Goals as goal

pub returns-clause-yes : goal.returns-clause-yes
returns-clause-yes g c known known_db yes' =
    let log = g.L.ReadAt.bytes c.args.log.now in
    let db = g.D.ReadAt.bytes c.args.db.now in
    let begun : HasSums db → 0 < length log → slice_index log 0 ≢ 0x37 = λ sums some first. elim c.else-has_sums.branch [
      | else-has_sums-via-then-has_sums+in_ok-begins_as_a_log+else-branch w ↦ false≢true (sym w.if-branch.false ∙ (w.in_ok-begins_as_a_log.ensures.ok known).1 (some, first))
      | else-has_sums-via-else-has_sums w ↦ false≢true (sym w.if-has_sums.false ∙ (c.requires.sums known_db).1 sums)
    ] in
    let named = c.bytes-size.ensures.value ∙ c.in-Some.ensures.value ∙ c.in_ok-page_size_of.ensures.ok known_db in
    record {
      begun = begun;
      held = λ valid. held_by _ _ _ _ named (c.in_ok-old.ensures.some known (λ none. c.if-old-eq0.false none)) (c.in_ok-lacks_page.ensures.no known known_db (not-true _ yes'));
    }
