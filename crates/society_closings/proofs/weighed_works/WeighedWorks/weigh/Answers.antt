use Rattle.std.proofs.Common.{List, Ok, [], inl, inr, subst, sym, rules}
use Rattle.society_book.proofs.lemmas.rows_alike.KeyRows.{transmission_shows_by}
use Rattle.society_book.proofs.lemmas.together.StepLemmas.{looks_as, looks_of}
use Rattle.society_book.specs.Shown.{ShowBody}
use Rattle.society_book.specs.Sources.{HoldsWorks}
use Rattle.society_closings.specs.Weighing.{AreWeighed, KeepsShown, WeighsMore}
use Rattle.society_closings.specs.declared.weighed_works.WeighedWorks.{WeighedWorks}
use Rattle.society_core.specs.Book.{Book, body_at}
use Rattle.society_core.specs.Candidates.{transactions_sent}
use Rattle.society_core.specs.Points.{is_tallied}
use Rattle.society_core.specs.declared.candidates.Weighing.{Weighing}
use Rattle.society_core.specs.declared.transmission_key.TransmissionKey.{TransmissionKey}
use Rattle.sqlite.specs.Held.{state}
use Rattle.sqlite_trees.specs.Tree.{Trees}
use Rattle.sqlite_value.specs.Order.{Row}
use Rattle.society_closings.proofs.weighed_works.WeighedWorks.weigh.Goals as goal

-- what is kept of a transmission that the tables have is weighed of what its sender sent
kept_weighed : (weighing : Weighing) (key : TransmissionKey) (rows : List Row) (old new : WeighedWorks) (db : Trees) → ((b : Book) → HoldsWorks weighing.office.now b db → ShowBody (body_at b key.sender key.number) rows) → KeepsShown weighing key rows old new
    → AreWeighed weighing.kind weighing.office.now (is_tallied weighing.tally.now) db old → AreWeighed weighing.kind weighing.office.now (is_tallied weighing.tally.now) db new
kept_weighed weighing key rows old new db shows keeps are = λ b holds k versions is. elim (keeps k versions is) [
  | inl was ↦ are b holds k versions was
  | inr one ↦
      subst (λ (q : TransmissionKey). WeighsMore weighing.kind weighing.office.now (is_tallied weighing.tally.now) q.sender 0 (transactions_sent b q.sender q.number) [] versions) (sym one.0)
      (one.1 (body_at b key.sender key.number) (shows b holds))
]

pub returns-clause-looks : goal.returns-clause-looks
returns-clause-looks g c = record {
  same_reference = search rules;
  says =
      let key = c.args.key.now in
      let old = state g.S.Store c.args.tx.now.conn.now in
      let new = state g.S.Store c.answer.new.tx.conn.now in
      looks_as old new _ (Ok tt) _ _ (looks_of old new (Ok _) _ (rw (c.as_bytes.ensures.bytes, c.value.ensures.value) at c.in_ok-rows.ensures.read.says))
      (λ lists. kept_weighed c.args.weighing.now key c.as_slice.result.now c.args.self.now c.keep_shown.new.self old.now.trees
      (λ b holds. subst (ShowBody (body_at b key.sender key.number)) (sym c.as_slice.ensures.value) (transmission_shows_by b _ holds.kept.transmissions key _ lists))
      c.in_ok-keep_shown.ensures.kept);
}
