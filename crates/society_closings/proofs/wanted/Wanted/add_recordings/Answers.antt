use Rattle.std.proofs.Common.{◌∙◌, ◌||◌, Bool, List, ℕ, ap, arith, bytes_eq, cond, sym, take, true}
use Rattle.std.proofs.lemmas.List.Folds.{list_any_more}
use Rattle.std.proofs.lemmas.Map.Text.{is_eq-slice_cmp}
use Rattle.std.specs.BTreeSet.{contains}
use Rattle.std.specs.List.{list_any}
use Rattle.society_core.specs.Keys.{bytes_cmp}
use Rattle.society_closings.proofs.lemmas.cuts.CutLists.{among_more}
use Rattle.society_book.proofs.lemmas.rows_alike.KeyRows.{either_way}
use Rattle.society_closings.proofs.wanted.Wanted.add_recordings.Goals as goal

pub loop-isrc-preserved : goal.loop-isrc-preserved
loop-isrc-preserved c =
    let recordings = c.args.recordings.now in
    let i = c.loop-isrc.isrc-index in
    let isrc = c.isrc-item.result in
    let first = λ (q : List ℕ). contains bytes_cmp c.args.self.now.recordings q in
    let next = λ (q : List ℕ). list_any_more (bytes_eq q) recordings i isrc (omega (arith, c.loop-isrc-test.true)) ∙ ap (λ (x : List ℕ). list_any (bytes_eq q) (take i recordings) || bytes_eq q x) (sym c.isrc-item.is) in
    record {
      recordings = λ q. c.in_ok-insert.ensures.updates.0 q
          ∙ ap (λ (b : Bool). cond b true (contains bytes_cmp c.loop-isrc.self.recordings q)) (is_eq-slice_cmp isrc q ∙ either_way isrc q)
          ∙ among_more (first q) (list_any (bytes_eq q) (take i recordings)) (bytes_eq q isrc) _ (c.loop-isrc.invariant.recordings q)
          ∙ ap (λ (b : Bool). first q || b) (sym (next q));
      senders = c.loop-isrc.invariant.senders;
    }
