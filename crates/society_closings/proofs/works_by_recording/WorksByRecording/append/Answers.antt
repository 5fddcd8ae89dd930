use Rattle.std.proofs.Common.{◌∙◌, ◌++◌, ◌∷◌, [], IsSome, List, Some, ℕ, ap, cond, refl, subst}
use Rattle.std.specs.BTreeMap as tree
use Rattle.std.specs.Ordering.{eq_by_cmp}
use Rattle.society_core.specs.Keys.{bytes_cmp}
use Rattle.society_closings.specs.CutWorks.{items_or_none}
use Rattle.society_closings.proofs.lemmas.cuts.CutLists.{appended}
use Rattle.society_closings.proofs.works_by_recording.WorksByRecording.append.Goals as goal

pub returns-in_ok-push-in-Some : goal.returns-in_ok-push-in-Some
returns-in_ok-push-in-Some c =
    let one : List ℕ × List ℕ = (c.args.sender, c.args.work) in
    let put = (c.get_mut.follows.holds c.push.new.self).3 (subst IsSome c.in-Some.ensures.value refl) in
    λ q. appended c.args.self.now c.args.isrc one c.push.new.self (c.in_ok-push-in-Some.ensures.items ∙ ap (λ (l : List (List ℕ × List ℕ)). l ++ one ∷ []) (ap items_or_none c.in-Some.ensures.value)) q _ (put.0 q)

pub returns-in_ok-insert-in-None : goal.returns-in_ok-insert-in-None
returns-in_ok-insert-in-None c =
    let one : List ℕ × List ℕ = (c.args.sender, c.args.work) in
    let after = c.push-in-None.new.self in
    let put = λ (q : List ℕ). c.in_ok-insert-in-None.ensures.updates.0 q ∙ ap (λ m. cond (eq_by_cmp bytes_cmp c.args.isrc q) (Some after) (tree.get bytes_cmp m q)) c.get_mut.follows.holds-at-none in
    λ q. appended c.args.self.now c.args.isrc one after (c.in_ok-push-in-None.ensures.items ∙ ap (λ (l : List (List ℕ × List ℕ)). l ++ one ∷ []) (c.new-works.ensures.items ∙ ap items_or_none c.in-None.ensures.value)) q _ (put q)
