use Rattle.std.proofs.Common.{◌≡◌, ◌∙◌, ◌||◌, ◌+◌, ap, arith, bytes_eq, is_some, sym, take}
use Rattle.std.proofs.lemmas.List.Folds.{list_any_more}
use Rattle.std.proofs.lemmas.Map.Text.{is_eq-slice_cmp}
use Rattle.std.specs.List.{list_any}
use Rattle.society_core.specs.declared.transmission_key.TransmissionKey.{TransmissionKey}
use Rattle.society_closings.proofs.lemmas.cuts.CutNotes.{put_some}
use Rattle.society_closings.proofs.named_works.NamedWorks.of_cut.Goals as goal

pub loop-key-preserved : goal.loop-key-preserved
loop-key-preserved c = λ q.
    let cut = c.args.cut.now in
    let i = c.loop-key.key-index in
    let key = c.key-item.result in
    let passes = λ (k : TransmissionKey). bytes_eq k.sender q in
    let next : list_any passes (take (i + 1) cut) ≡ (list_any passes (take i cut) || passes key) = list_any_more passes cut i key (omega (arith, c.loop-key-test.true)) ∙ ap (λ (k : TransmissionKey). list_any passes (take i cut) || passes k) (sym c.key-item.is) in
    ap is_some (c.in_ok-insert.ensures.updates.0 q)
    ∙ put_some _ (passes key) (list_any passes (take i cut)) _ _ (is_eq-slice_cmp key.sender q) (c.loop-key.invariant q)
    ∙ sym next
