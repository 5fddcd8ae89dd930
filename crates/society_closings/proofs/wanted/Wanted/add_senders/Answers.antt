use Rattle.std.proofs.Common.{◌∙◌, ◌||◌, Bool, List, ℕ, ap, arith, bytes_eq, cond, sym, take, true}
use Rattle.std.proofs.lemmas.List.Folds.{list_any_more}
use Rattle.std.proofs.lemmas.Map.Text.{is_eq-slice_cmp}
use Rattle.std.specs.BTreeSet.{contains}
use Rattle.std.specs.List.{list_any}
use Rattle.society_core.specs.Keys.{bytes_cmp}
use Rattle.society_core.specs.declared.transmission_key.TransmissionKey.{TransmissionKey}
use Rattle.society_closings.proofs.lemmas.cuts.CutLists.{among_more}
use Rattle.society_closings.proofs.wanted.Wanted.add_senders.Goals as goal

pub loop-key-preserved : goal.loop-key-preserved
loop-key-preserved c =
    let cut = c.args.cut.now in
    let i = c.loop-key.key-index in
    let key = c.key-item.result in
    let first = λ (q : List ℕ). contains bytes_cmp c.args.self.now.senders q in
    let passes = λ (q : List ℕ) (k : TransmissionKey). bytes_eq k.sender q in
    let next = λ (q : List ℕ). list_any_more (passes q) cut i key (omega (arith, c.loop-key-test.true)) ∙ ap (λ (k : TransmissionKey). list_any (passes q) (take i cut) || passes q k) (sym c.key-item.is) in
    record {
      senders = λ q. c.in_ok-insert.ensures.updates.0 q
          ∙ ap (λ (b : Bool). cond b true (contains bytes_cmp c.loop-key.self.senders q)) (is_eq-slice_cmp key.sender q)
          ∙ among_more (first q) (list_any (passes q) (take i cut)) (bytes_eq key.sender q) _ (c.loop-key.invariant.senders q)
          ∙ ap (λ (b : Bool). first q || b) (sym (next q));
      recordings = c.loop-key.invariant.recordings;
    }
