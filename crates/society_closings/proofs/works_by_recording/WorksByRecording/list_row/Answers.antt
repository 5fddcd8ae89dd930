use Rattle.std.proofs.Common.{◌≡◌, ◌∙◌, List, None, Some, sym, ℕ}
use Rattle.society_rows.specs.Rows.{recording_values}
use Rattle.society_rows.proofs.lemmas.readings.KeyEquality.{text_decides}
use Rattle.society_closings.proofs.lemmas.cuts.CutLists.{on_ok_more, row_listed, row_unlisted}
use Rattle.society_closings.proofs.works_by_recording.WorksByRecording.list_row.Goals as goal

same_isrc : (x y : List ℕ) → Some x ≡ Some y → x ≡ y
same_isrc x y is = cc

no_isrc : (x : List ℕ) → None ≡ Some x → ⊥
no_isrc x is = cc

pub returns-in-Some-clause-listed : goal.returns-in-Some-clause-listed
returns-in-Some-clause-listed c =
    on_ok_more c.list_work.result
    (row_listed c.args.wanted.now c.list_work.new.self c.args.row.now (recording_values c.in_ok-row.row) c.in_ok-row.row.isrc.now c.in-Some.isrc c.in_ok-row.ensures.value (λ q at. (text_decides _ _).0 at)
    (λ q right is same. same_isrc c.in-Some.isrc q (sym c.in-Some.is ∙ c.wanted_isrc.ensures q right is same)))
    c.list_work.ensures.listed

pub returns-in-None-clause-listed : goal.returns-in-None-clause-listed
returns-in-None-clause-listed c =
    row_unlisted c.args.wanted.now c.args.self.now c.args.row.now (recording_values c.in_ok-row.row) c.in_ok-row.row.isrc.now c.in_ok-row.ensures.value (λ q at. (text_decides _ _).0 at)
    (λ q right is same. no_isrc q (sym c.in-None.is ∙ c.wanted_isrc.ensures q right is same))
