use Rattle.std.proofs.Common.{◌<◌, ◌++◌, ◌∷◌, [], List, sym, ap, subst, ◌∙◌}
use Rattle.std.proofs.lemmas.List.{map_push}
use Rattle.share_rules.specs.declared.office.Office.{Office}
use Rattle.works_core.specs.Kept.{IsKeptLine, kept_line}
use Rattle.works_core.specs.Line.{judged_in}
use Rattle.works_core.specs.LineValue.{SenderLineValue}
use Rattle.works_core.specs.Numbered.{IsRising, JudgedTransmission, last_number}
use Rattle.works_core.specs.Tracks.{Tracks}
use Rattle.works_core.specs.Verdicts.{verdicts_from}
use Rattle.works_core.specs.Versions.{Placed, judged_of, placed_behind, placed_line}
use Rattle.works_core.specs.declared.judged.Judged.{Judged}
use Rattle.works_core.specs.declared.sender_line.KeptTransmission.{KeptTransmission}
use Rattle.works_core.specs.declared.verdict.Verdict.{Verdict}
use Rattle.works_core.proofs.lemmas.KeptLemmas.{kept_push, placed_push, rising_push}
use Rattle.works_core.proofs.sender_line.SenderLine.apply.Goals as goal

pub invariant_of-self-2 : goal.invariant_of-self-2
invariant_of-self-2 c =
    let inside = c.self.inside in
    let kept = inside.kept.items in
    let line = kept_line kept in
    let x : KeptTransmission = record { number = c.args.number; judged = c.in_ok-judged.judged; verdicts = c.settle_all.new.verdicts } in
    let y : JudgedTransmission = record { number = c.args.number; judged = c.in_ok-judged.judged.items } in
    let pushed = rw c.unwrap.ensures at c.push.ensures.items in
    let all = pushed ∙ ap (λ (xs : List KeptTransmission). xs ++ x ∷ []) c.reserve-2.ensures.items in
    let lined = map_push (λ (z : KeptTransmission). record { number = z.number; judged = z.judged.items }) kept x in
    let before = c.reserve.ensures.tracks (placed_line line) c.self.invariant.tracked in
    let told =
    c.settle_all.ensures.verdicts (placed_line line) before
    ∙ ap (λ (vs : List Verdict). vs ++ verdicts_from (judged_of (placed_line line)) c.as_slice-2.result.now) c.in_ok-verdicts.ensures.items
    ∙ ap (verdicts_from (judged_of (placed_line line))) c.as_slice-2.ensures.value in
    let stand = ap (placed_behind (placed_line line) c.args.number 0) c.as_slice-2.ensures.value ∙ sym (placed_push [] line y) ∙ ap placed_line (sym lined) in
    subst (λ (xs : List KeptTransmission). IsKeptLine xs c.settle_all.new.works) (sym all)
    (record {
      rises = subst (IsRising 0) (sym lined) (rising_push 0 line y c.self.invariant.rises (subst (λ (v : SenderLineValue). last_number 0 v.transmissions < c.args.number) (sym c.self.view_is) c.requires.above));
      told = kept_push [] kept x c.self.invariant.told told;
      tracked = subst (λ (past : List Placed). Tracks c.settle_all.new.works past) stand (c.settle_all.ensures.tracks (placed_line line) before);
    })

pub returns-clause-applied : goal.returns-clause-applied
unfolding judged_in
returns-clause-applied c =
    let inside = c.self.inside in
    let kept = inside.kept.items in
    let x : KeptTransmission = record { number = c.args.number; judged = c.in_ok-judged.judged; verdicts = c.settle_all.new.verdicts } in
    let pushed = rw c.unwrap.ensures at c.push.ensures.items in
    let all = pushed ∙ ap (λ (xs : List KeptTransmission). xs ++ x ∷ []) c.reserve-2.ensures.items in
    ap kept_line all
    ∙ map_push (λ (z : KeptTransmission). record { number = z.number; judged = z.judged.items }) kept x
    ∙ ap (λ (l : List JudgedTransmission). l ++ record { number = c.args.number; judged = c.in_ok-judged.judged.items } ∷ []) (ap (λ (v : SenderLineValue). v.transmissions) c.self.view_is)
    ∙ ap (λ (js : List Judged). c.args.self.now.transmissions ++ record { number = c.args.number; judged = js } ∷ [])
    (c.in_ok-judged.ensures ∙ ap (λ (o : Office). judged_in o c.args.transmission.now) (ap (λ (v : SenderLineValue). v.office) c.self.view_is))
