use Rattle.std.proofs.Common.{◌≡◌, ◌∙◌, [], ◌∷◌, ℕ, ℤ, FitsSigned, List, OnOk, Result, Vec, ap, map, pos, subst, sym, w64}
use Rattle.std.specs.declared.alloc.Global.{Global}
use Rattle.std.proofs.lemmas.Int.{to_z-of_z}
use Rattle.sqlite_value.specs.declared.value.Value.TheVariants.{Int, Text}
use Rattle.society_arrivals.specs.Outcomes.{settled}
use Rattle.society_arrivals.specs.Runs.{KnowsRun, Notes, behind_run, is_key_among, settled_run}
use Rattle.society_arrivals.specs.declared.outcomes.Outcome.{Outcome}
use Rattle.society_rows.specs.declared.fault.RowFault.{RowFault}
use Rattle.works_core.specs.Ends.{EndsAt}
use Rattle.works_core.specs.Verdicts.{works_in}
use Rattle.works_core.specs.Versions.{judged_of}
use Rattle.society_arrivals.proofs.lemmas.RunLines.{knows_each}
use Rattle.book_audit.proofs.lemmas.lines.WantedRows.{the_ok}
use Rattle.book_audit.proofs.lines.settled_line.Goals as goal

pub returns-clause-settled : goal.returns-clause-settled
returns-clause-settled c =
    let s = c.args.sender.now in
    let run = c.args.run.now in
    let notes = c.notes-2.result.now in
    let same = c.notes-2.ensures in
    let works = works_in (judged_of (behind_run [] run.notes)) in
    let asked = c.as_slice.result.now in
    let known = is_key_among asked in
    let outcomes = c.in_ok-outcomes.outcomes.items in
    let z = c.in_ok-worked_out.field-0 in
    let knows : KnowsRun known notes =
    subst (KnowsRun known) (c.notes.ensures ∙ sym same)
    (subst (λ (works : List (List ℕ)). KnowsRun (is_key_among works) c.notes.result.now) (sym (c.as_slice.ensures.value ∙ c.in_ok-works.ensures)) (knows_each c.notes.result.now)) in
    let ends : EndsAt known (behind_run [] notes) c.settle_run.new.end =
    subst (λ (r : Result (Vec Outcome Global) RowFault). OnOk r (EndsAt known (behind_run [] notes) c.settle_run.new.end)) c.in_ok-outcomes.ensures.value (c.settle_run.ensures.ends known [] c.in_ok-end.ensures knows) in
    let their : map settled outcomes ≡ settled_run [] run.notes =
    the_ok c.settle_run.result c.in_ok-outcomes.outcomes (λ (v : Vec Outcome Global). map settled v.items ≡ settled_run [] notes) c.in_ok-outcomes.ensures.value (c.settle_run.ensures.settled known [] c.in_ok-end.ensures knows)
    ∙ ap (settled_run []) same in
    let column_is : z ≡ pos c.works.result = the_ok c.column_of.result z (λ (y : ℤ). y ≡ pos c.works.result) c.in_ok-worked_out.ensures.value c.column_of.ensures.value in
    let range = the_ok c.column_of.result z (FitsSigned w64) c.in_ok-worked_out.ensures.value c.column_of.ensures.range in
    let are = c.works.ensures known (behind_run [] notes) ends ∙ ap (λ (xs : List Notes). works_in (judged_of (behind_run [] xs))) same in
    record {
      name = c.as_bytes.ensures.bytes;
      row =
          ap (λ (y : ℤ). Text c.as_bytes.result.now ∷ Int (pos c.front.result) ∷ Int y ∷ []) (to_z-of_z w64 z range ∙ column_is ∙ ap pos are)
          ∙ ap (λ (q : List ℕ). Text q ∷ Int (pos c.front.result) ∷ Int (pos works) ∷ []) c.as_bytes.ensures.bytes
          ∙ ap (λ (k : ℕ). Text s ∷ Int (pos k) ∷ Int (pos works) ∷ []) c.front.ensures;
      settled = their;
    }
