use Rattle.std.proofs.Common.{◌≡◌, ◌++◌, ◌+◌, ◌∷◌, [], List, ℕ, take, Vec, Global, sym, ap, subst, ◌∙◌}
use Rattle.std.specs.BTreeSet.{contains}
use Rattle.std.proofs.lemmas.List.{take_more}
use Rattle.society_core.specs.Candidates.{ListsOnce}
use Rattle.society_core.specs.Keys.{bytes_cmp}
use Rattle.society_core.specs.Points.{is_tallied}
use Rattle.society_core.proofs.lemmas.CandidateLemmas.{due_is, is_among, listed_more, listed_still, not_due, seen_more, seen_still}
use Rattle.society_core.proofs.candidates.tallied_isrcs.Goals.{then-is_due+in_ok-insert+in_ok-push, else-is_due}
use Rattle.society_core.proofs.candidates.tallied_isrcs.Goals as goal

pub loop-isrc-preserved : goal.loop-isrc-preserved
loop-isrc-preserved c =
    let named = c.deref-isrc-items.result.now in
    let so_far = take c.loop-isrc.isrc-index named in
    let i = c.isrc-item.result in
    let of_these = is_tallied c.args.tally.now in
    let next : take (c.loop-isrc.isrc-index + 1) named ≡ so_far ++ i ∷ [] = take_more named c.loop-isrc.isrc-index i c.loop-isrc-test.true ∙ ap (λ (x : List ℕ). so_far ++ x ∷ []) (sym c.isrc-item.is) in
    record {
      seen = λ x is. elim c.if-is_due.branch [
        | then-is_due+in_ok-insert+in_ok-push w ↦
            ap (λ set. contains bytes_cmp set x) w.seen-is
            ∙ w.in_ok-insert.ensures.updates.0 x
            ∙ seen_more x i so_far (contains bytes_cmp c.loop-isrc.seen x) (c.loop-isrc.invariant.seen x is)
            ∙ ap (is_among x) (sym next)
        | else-is_due w ↦
            ap (λ set. contains bytes_cmp set x) w.seen-is
            ∙ c.loop-isrc.invariant.seen x is
            ∙ seen_still of_these x i so_far (λ one. sym (c.loop-isrc.invariant.seen i one) ∙ not_due (of_these i) (contains bytes_cmp c.loop-isrc.seen i) (sym c.is_due.ensures ∙ w.if-is_due.false) one) is
            ∙ ap (is_among x) (sym next)
      ];
      listed = elim c.if-is_due.branch [
        | then-is_due+in_ok-insert+in_ok-push w ↦
            let due = due_is (of_these i) (contains bytes_cmp c.loop-isrc.seen i) (sym c.is_due.ensures ∙ w.if-is_due.true) in
            subst (λ (l : List (List ℕ)). ListsOnce of_these l c.if-is_due.list.items) (sym next)
            (subst (ListsOnce of_these (so_far ++ i ∷ [])) (sym (ap (λ (v : Vec (List ℕ) Global). v.items) w.list-is ∙ w.in_ok-push.ensures.items))
            (listed_more of_these so_far c.loop-isrc.list.items i (sym (c.loop-isrc.invariant.seen i due.0) ∙ due.1) c.loop-isrc.invariant.listed))
        | else-is_due w ↦
            subst (λ (l : List (List ℕ)). ListsOnce of_these l c.if-is_due.list.items) (sym next)
            (subst (ListsOnce of_these (so_far ++ i ∷ [])) (sym (ap (λ (v : Vec (List ℕ) Global). v.items) w.list-is))
            (listed_still of_these so_far c.loop-isrc.list.items i (λ one. sym (c.loop-isrc.invariant.seen i one) ∙ not_due (of_these i) (contains bytes_cmp c.loop-isrc.seen i) (sym c.is_due.ensures ∙ w.if-is_due.false) one) c.loop-isrc.invariant.listed))
      ];
    }
