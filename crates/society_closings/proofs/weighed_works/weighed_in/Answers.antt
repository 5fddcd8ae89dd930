use Rattle.std.proofs.Common.{◌≡◌, ◌∙◌, Bool, List, Ok, ap, sym, ℕ, rules}
use Rattle.std.specs.BTreeSet.{contains}
use Rattle.share_rules.specs.declared.kind.Kind.{Kind}
use Rattle.share_rules.specs.declared.office.Office.{Office}
use Rattle.society_book.proofs.lemmas.together.StepLemmas.{looks_as}
use Rattle.society_closings.specs.Weighing.{AreWeighed}
use Rattle.society_closings.specs.declared.weighed_works.WeighedWorks.{WeighedWorks}
use Rattle.society_core.specs.Keys.{bytes_cmp}
use Rattle.society_core.specs.Points.{is_tallied}
use Rattle.sqlite.specs.Held.{state}
use Rattle.sqlite_trees.specs.Tree.{Trees}
use Rattle.society_closings.proofs.weighed_works.weighed_in.Goals as goal

-- for the same recordings the same is weighed
weighed_alike : (kind : Kind) (office : Office) (one other : List ℕ → Bool) (db : Trees) (weighed : WeighedWorks) → ((isrc : List ℕ) → other isrc ≡ one isrc) → AreWeighed kind office one db weighed → AreWeighed kind office other db weighed
weighed_alike kind office one other db weighed same are = λ b holds k versions is chosen number isrc of_these. are b holds k versions is chosen number isrc (sym (same isrc) ∙ of_these)

pub returns-clause-looks : goal.returns-clause-looks
returns-clause-looks g c = record {
  same_reference = search rules;
  says =
      let kind = c.args.kind in
      let o = c.args.office.now in
      let of_these = is_tallied c.in_ok-tally.tally in
      let weighed = c.weigh_each.new.self in
      let old = state g.S.Store c.args.tx.now.conn.now in
      looks_as old (state g.S.Store c.weigh_each.new.tx.conn.now) tt (Ok weighed) _ _ c.in_ok-weigh_each.ensures.looks.says
      (λ are. weighed_alike kind o of_these (contains bytes_cmp weighed.recordings) old.now.trees weighed
      (λ isrc. ap (λ set. contains bytes_cmp set isrc) (c.weigh_each.ensures.recordings ∙ c.of-weighed.ensures.recordings) ∙ c.in_ok-recordings_of.ensures isrc)
      (are (c.of-weighed.ensures.none kind o of_these old.now.trees)));
}
